-- Where all ADOPT agents of a run have ended, what a subtree costs is at most its agent's threshold.
use Rattle.std.proofs.Common.{◌≡◌, ℕ, zero, suc, ◌+◌, ◌≤◌, ◌<◌, true, false, cond, eqb, ltb, ◌==◌, ◌||◌, List, [], ◌∷◌, length, get_or, Option, Some, None, refl, sym, ap, subst, ◌∙◌, inl, inr, arith}
use Rattle.std.specs.List.{sum_by, filter, slice_get, position, position_or_len}
use Rattle.std.proofs.lemmas.Bool.{cases_lt, cond-true, cond-false, and_parts, or_parts, eq-eqb, ne_eqb, lt-ltb, true≢false}
use Rattle.std.proofs.lemmas.Option.{same_Some, cond_some}
use Rattle.std.proofs.lemmas.List.Folds.{list_any_at}
use Rattle.std.proofs.lemmas.List.Recursion.{is_position_or_len}
use Rattle.std.proofs.lemmas.List.Sums.{sum_by-cons}
use Rattle.dcop_base.specs.Table.{has, has_repeat}
use Rattle.dcop_base.specs.Problem.{Dcop, IsAssignment}
use Rattle.dcop_base.specs.Graph.{neighbours}
use Rattle.dcop_base.specs.Whole.{IsProblem}
use Rattle.dcop_base.specs.declared.knowledge.Private.{Private}
use Rattle.dcop_base.specs.Limits.{amount_limit}
use Rattle.pseudotree.specs.declared.agent.Place.{Place}
use Rattle.pseudotree.specs.Tree.{path_of, parent_of, children_of, is_variable, is_above}
use Rattle.pseudotree.specs.Pseudotree.{IsPseudotree, IsLinked}
use Rattle.pseudotree.proofs.TreeLaws.{longer}
use Rattle.adopt_context.specs.Context.{Context, value_in, put, is_value, names_all, or_zero}
use Rattle.adopt_context.specs.Bounds.{Entry, blank, cap, row_at, entry_at, plus_bound, upper_sum}
use Rattle.protocol_steps.specs.Adopt.{AdoptView, is_root, higher}
use Rattle.protocol_steps.specs.AdoptBounds.{delta, whole_delta, upper_of, upper_bound}
use Rattle.protocol_steps.specs.AdoptStep.{share_of}
use Rattle.protocol_steps.specs.Effect.{has_ended}
use Rattle.protocol_steps.specs.Network.{Network}
use Rattle.protocol_steps.specs.View.{AdoptKind}
use Rattle.dcop_optimum.proofs.LineLaws.{path_short}
use Rattle.dcop_optimum.proofs.OwnerLaws.{cost_split}
use Rattle.dcop_optimum.proofs.JoinLaws.{children_parent}
use Rattle.adopt_context.proofs.KnownLaws.{value_is, put_here, put_else}
use Rattle.run_laws.proofs.EncloseLaws.{below, GivenAbove, IsReached, IsSum, plus_parts, filter_distinct}
use Rattle.run_laws.proofs.OwnLaws.{counted_high, below_cap}
use Rattle.run_laws.proofs.PlacedLaws.{Mid, capped_parts, with_value, with_is, with_here, with_above, delta_is, row_long, rests, known_values, known_is, known_given, not_cut, value_small}
use Rattle.run_laws.proofs.SayLaws.{above_cases}
use Rattle.run_laws.proofs.PairRuns.{IsRun, child_in}
use Rattle.run_laws.specs.AdoptEnd.{values_of}
use Rattle.run_laws.proofs.CeilingLaws.{HasRoom}
use Rattle.run_laws.proofs.AdoptEndLaws.{row_equal, end_shares}
use Rattle.run_laws.proofs.CeilingRuns.{AreUnder}
use Rattle.run_laws.proofs.EndedLaws.{ended_at, value_at, from_parent, knows_ancestors}

abbrev first : ℕ → List ℕ → ℕ
first c [] = 0
first c (x ∷ xs) = cond (eqb x c) 0 (1 + first c xs)

first_at : (xs : List ℕ) (k : ℕ) → has_repeat xs ≡ false → k < length xs → first (get_or xs k 0) xs ≡ k
first_at [] k apart lt = absurd (omega (arith, lt))
first_at (x ∷ xs) zero apart lt = cond-true (eqb x x) 0 (1 + first x xs) (eq-eqb x x refl)
first_at (x ∷ xs) (suc k) apart lt =
    let parts = or_parts (has xs x) (has_repeat xs) apart in
    let c : ℕ = get_or xs k 0 in
    let differs : x ≡ c → ⊥ = λ (same : x ≡ c). true≢false (sym (list_any_at (λ y. eqb y x) xs k 0 (omega (arith, lt)) (eq-eqb c x (sym same))) ∙ parts.0) in
    let rest = first_at xs k parts.1 (omega (arith, lt)) in
    let more : 1 + first c xs ≡ suc k = omega (arith, rest) in
    cond-false (eqb x c) 0 (1 + first c xs) (ne_eqb x c differs) ∙ more

-- of different numbers each stands at its own place first
position_at : (xs : List ℕ) (k : ℕ) → has_repeat xs ≡ false → k < length xs → position (λ x. x == get_or xs k 0) xs ≡ Some k
position_at xs k apart lt =
    let c : ℕ = get_or xs k 0 in
    let same : position_or_len (λ x. eqb x c) xs ≡ k = sym (is_position_or_len (first c) (λ x. eqb x c) refl (λ x ys. refl) xs) ∙ first_at xs k apart lt in
    ap (λ (j : ℕ). cond (ltb j (length xs)) (Some j) None) same ∙ cond-true (ltb k (length xs)) (Some k) None (lt-ltb k (length xs) lt)

-- the upper bounds of a row, where none is less than what its child costs
row_high : (f : ℕ → ℕ) (row : List Entry) (cs : List ℕ) → length row ≡ length cs → ((k u : ℕ) → k < length cs → (get_or row k blank).upper ≡ Some u → f (get_or cs k 0) ≤ u)
    → (total : ℕ) → upper_sum row ≡ Some total → sum_by f cs ≤ total
row_high f [] [] long h total sum = omega arith
row_high f [] (c ∷ cs) long h total sum = absurd (omega (arith, long))
row_high f (e ∷ es) [] long h total sum = omega arith
row_high f (e ∷ es) (c ∷ cs) long h total sum =
    let parts : IsSum e.upper (upper_sum es) total = plus_parts e.upper (upper_sum es) total sum in
    let here = h 0 parts.one (omega arith) parts.one_is in
    let rest = row_high f es cs (omega (arith, long)) (λ k u lt. h (suc k) u (omega (arith, lt))) parts.other parts.other_is in
    let whole = parts.total_is in
    omega (arith, here, rest, whole, sum_by-cons f c cs)

-- what a threshold pays for: the cost of the value and the upper bounds of its row
record IsPaidBy (v : AdoptView) : Type 0 where
  pub total : ℕ
  pub sum : upper_sum (row_at v.rows v.value) ≡ Some total
  pub names : names_all v.known (higher v) ≡ true
  pub paid : cap (delta v v.value + total) ≡ v.threshold

paid_by : (v : AdoptView) → upper_of v v.value ≡ Some v.threshold → IsPaidBy v
paid_by v h =
    let cut = capped_parts (plus_bound (whole_delta v v.value) (upper_sum (row_at v.rows v.value))) v.threshold h in
    let sum : IsSum (whole_delta v v.value) (upper_sum (row_at v.rows v.value)) cut.0 = plus_parts (whole_delta v v.value) (upper_sum (row_at v.rows v.value)) cut.0 cut.1 in
    let own = cond_some (names_all v.known (higher v)) (delta v v.value) sum.one sum.one_is in
    record {
      total = sum.other;
      sum = sum.other_is;
      names = own.0;
      paid = ap (λ (n : ℕ). cap (n + sum.other)) own.1 ∙ ap cap sum.total_is ∙ cut.2;
    }

module _ (p : Dcop) (paths : List (List ℕ)) (problem : IsProblem p) (pseudo : IsPseudotree p paths) (linked : IsLinked p paths) (error : ℕ) where
  module _ (net : Network) (is : IsRun p paths problem pseudo linked error net) (low : AreUnder p paths problem pseudo error net) (over : has_ended net ≡ true) where
    -- the agent of i
    abbrev pub agent : (i : ℕ) → i < length p.sizes → AdoptView
    agent i lt = (is.good.agents i lt).view

    at_agent : (i : ℕ) (lt : i < length p.sizes) → slice_get net.views i ≡ Some (AdoptKind (agent i lt))
    at_agent i lt = (is.good.agents i lt).at

    mid_agent : (i : ℕ) (lt : i < length p.sizes) → Mid p paths problem pseudo error i lt (agent i lt)
    mid_agent i lt = (is.good.agents i lt).settled.mid

    full : (i : ℕ) (lt : i < length p.sizes) → upper_bound (agent i lt) ≡ Some (agent i lt).threshold
    full i lt =
        let v : AdoptView = agent i lt in
        value_is (upper_bound v) v.threshold
        (and_parts (is_value (upper_bound v) v.threshold) (is_root v || v.told) (sym (is.enders i v (at_agent i lt)).ended_is ∙ ended_at p paths problem pseudo linked error net is over i v (at_agent i lt))).0

    pays : (i : ℕ) (lt : i < length p.sizes) → IsPaidBy (agent i lt)
    pays i lt = paid_by (agent i lt) ((is.good.agents i lt).settled.closed.paid.settled (full i lt))

    -- the final values are those that an agent knows
    given : (i : ℕ) (lt : i < length p.sizes) → GivenAbove p paths i (value_in (agent i lt).known) (values_of net)
    given i lt u d above e =
        same_Some (get_or (values_of net) u 0) d
        (sym (cond-true (is_above paths u i) (Some (get_or (values_of net) u 0)) None above)
        ∙ sym (knows_ancestors p paths problem pseudo linked error net is over i (agent i lt) (at_agent i lt) u) ∙ e)

    module _ (i : ℕ) (lt : i < length p.sizes) where
      abbrev v : AdoptView
      v = agent i lt

      abbrev cs : List ℕ
      cs = children_of paths i

      abbrev row : List Entry
      row = row_at v.rows v.value

      small : v.value < get_or p.sizes i 0
      small = value_small p paths problem pseudo error i lt v (mid_agent i lt)

      -- where no sum is cut, each upper bound is a share
      are_shares : delta v v.value + (pays i lt).total ≤ amount_limit → (k : ℕ) → k < length cs → (get_or row k blank).upper ≡ Some ((get_or row k blank).share)
      are_shares fits k inside =
          let paid = pays i lt in
          let long = row_long p paths problem pseudo error i lt v (mid_agent i lt) v.value small in
          row_equal row (λ j. let e = (mid_agent i lt).entries v.value j in (e.holds.low, e.holds.high)) paid.total paid.sum
          (end_shares v (is.good.agents i lt).settled.closed (full i lt) paid.names (not_cut p paths problem pseudo error i lt v (mid_agent i lt) v.value small) paid.total paid.sum fits)
          k (omega (arith, inside, long))

      -- a child's last threshold is its share
      last_share : (k : ℕ) → k < length cs → (y : AdoptView) → y.last ≡ share_of v (get_or cs k 0) → y.last ≡ (get_or row k blank).share
      last_share k inside y last =
          last
          ∙ ap (λ (o : Option ℕ). (entry_at v.rows v.value (or_zero o)).share)
          (ap (λ (q : Place). position (λ child. child == get_or cs k 0) q.children) (mid_agent i lt).place_is
          ∙ position_at cs k (filter_distinct (λ c. is_variable i (parent_of paths c)) (length paths) 0) inside)

      -- the child's subtree has room under its share
      room : (k : ℕ) (inside : k < length cs) (lc : get_or cs k 0 < length p.sizes) (y : AdoptView) → y.known ≡ put v.known i v.value → y.last ≡ (get_or row k blank).share
          → (get_or row k blank).upper ≡ Some ((get_or row k blank).share) → HasRoom p paths problem pseudo error (get_or cs k 0) lc y y.last
      room k inside lc y known last share =
          let c : ℕ = get_or cs k 0 in
          let d : ℕ = v.value in
          let mid : Mid p paths problem pseudo error i lt v = mid_agent i lt in
          let all : List ℕ = known_values p paths problem pseudo error i lt v mid in
          let all_is = known_is p paths problem pseudo error i lt v mid in
          let all_given = known_given p paths problem pseudo error i lt v mid in
          let mine : List ℕ = with_value p paths problem pseudo error i lt all d in
          let mine_is : IsAssignment p mine = with_is p paths problem pseudo error i lt all all_is d small in
          let here : get_or mine i 0 ≡ d = with_here p paths problem pseudo error i lt all all_is d small in
          let mine_given : GivenAbove p paths i (value_in v.known) mine = λ w x above e. with_above p paths problem pseudo error i lt all all_is d small w above ∙ all_given w x above e in
          let parent : parent_of paths c ≡ Some i = children_parent paths i k 0 inside in
          let reached : IsReached p paths c mine ((get_or row k blank).share) =
          (mid.entries d k).bounded.high ((get_or row k blank).share) share mine mine_is (rests p paths problem pseudo error i lt v mid d k mine here mine_given) in
          record {
            values = reached.other;
            assignment = reached.assignment;
            given = subst (λ (x : Context). GivenAbove p paths c (value_in x) reached.other) (sym known)
                (λ u b above e.
                reached.agrees u above
                ∙ elim (above_cases p paths problem pseudo error i lt c u parent above) as (λ (_ : _). get_or mine u 0 ≡ b) [
                  | inl same ↦ ap (λ (w : ℕ). get_or mine w 0) same ∙ here ∙ same_Some d b (sym (put_here v.known i d) ∙ ap (value_in (put v.known i d)) (sym same) ∙ e)
                  | inr upper ↦ mine_given u b upper.1 (sym (put_else v.known i d u (λ (k : i ≡ u). upper.0 (sym k))) ∙ e)
                ]);
            costs = subst (λ (n : ℕ). below p paths c reached.other ≤ n) (sym last) reached.costs;
          }

      -- so its threshold is at most its share
      under_share : delta v v.value + (pays i lt).total ≤ amount_limit → (k : ℕ) → k < length cs → (lc : get_or cs k 0 < length p.sizes) → (agent (get_or cs k 0) lc).threshold ≤ (get_or row k blank).share
      under_share fits k inside lc =
          let c : ℕ = get_or cs k 0 in
          let y : AdoptView = agent c lc in
          let parent : parent_of paths c ≡ Some i = children_parent paths i k 0 inside in
          let from = from_parent p paths problem pseudo linked error net is over i c v y parent (at_agent i lt) (at_agent c lc) in
          let last : y.last ≡ (get_or row k blank).share = last_share k inside y from.1 in
          let long = longer paths pseudo.tree c i parent in
          let inner : is_root y ≡ false =
          ap (λ (q : Place). length q.path == 0) (mid_agent c lc).place_is ∙ ne_eqb (length (path_of paths c)) 0 (λ (none : length (path_of paths c) ≡ 0). omega (arith, none, long)) in
          let le : y.threshold ≤ y.last = low c lc y (at_agent c lc) inner from.0 (room k inside lc y from.2 last (are_shares fits k inside)) in
          subst (λ (n : ℕ). y.threshold ≤ n) last le

      -- what the subtree costs is at most the threshold, where that is so of the children
      below_step : ((c : ℕ) (lc : c < length p.sizes) → parent_of paths c ≡ Some i → below p paths c (values_of net) ≤ (agent c lc).threshold) → below p paths i (values_of net) ≤ v.threshold
      below_step children =
          let d : ℕ = v.value in
          let paid = pays i lt in
          let pay = paid.paid in
          let room = below_cap p paths problem i (values_of net) in
          elim (cases_lt amount_limit (delta v d + paid.total)) [
            | inl cut ↦ omega (arith, cut, pay, room)
            | inr fits ↦
                let mid : Mid p paths problem pseudo error i lt v = mid_agent i lt in
                let named : names_all v.known (filter (has (path_of paths i)) (neighbours p i)) ≡ true =
                sym (ap (λ (q : Place). names_all v.known (filter (has q.path) v.own.neighbours)) mid.place_is
                ∙ ap (λ (o : Private). names_all v.known (filter (has (path_of paths i)) o.neighbours)) mid.own_is) ∙ paid.names in
                let counted = counted_high p paths problem pseudo i v.known (values_of net) d (value_at p paths problem pseudo linked error net is over i v (at_agent i lt)) (given i lt) named in
                let at = delta_is p paths problem pseudo error i lt v mid d in
                let split = cost_split p paths problem pseudo i (λ u. get_or (values_of net) u 0) in
                let long = row_long p paths problem pseudo error i lt v mid d small in
                let sum : sum_by (λ c. below p paths c (values_of net)) cs ≤ paid.total =
                row_high (λ c. below p paths c (values_of net)) row cs long
                (λ k u inside upper.
                let lc = child_in p paths problem pseudo linked error i (get_or cs k 0) (children_parent paths i k 0 inside) in
                let one = children (get_or cs k 0) lc (children_parent paths i k 0 inside) in
                let two = under_share fits k inside lc in
                let same : (get_or row k blank).share ≡ u = same_Some ((get_or row k blank).share) u (sym (are_shares fits k inside) ∙ upper) in
                omega (arith, one, two, same))
                paid.total paid.sum in
                omega (arith, fits, pay, room, counted, at, split, sum)
          ]

    below_to : (n i : ℕ) (lt : i < length p.sizes) → length paths ≤ length (path_of paths i) + n → below p paths i (values_of net) ≤ (agent i lt).threshold
    below_to zero i lt le =
        below_step i lt
        (λ c lc parent.
        let long = longer paths pseudo.tree c i parent in
        let short = path_short paths pseudo.tree c (let count = pseudo.sized in omega (arith, lc, count)) in
        absurd (omega (arith, le, long, short)))
    below_to (suc n) i lt le = below_step i lt (λ c lc parent. below_to n c lc (let long = longer paths pseudo.tree c i parent in omega (arith, le, long)))

    -- what a subtree costs is at most its agent's threshold
    pub below_threshold : (i : ℕ) (lt : i < length p.sizes) → below p paths i (values_of net) ≤ (agent i lt).threshold
    below_threshold i lt = below_to (length paths) i lt (omega arith)
