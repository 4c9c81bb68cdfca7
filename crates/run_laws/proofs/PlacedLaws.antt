-- An ADOPT agent in its place in a tree: its bounds enclose it.
use Rattle.std.proofs.Common.{◌≡◌, ℕ, ◌+◌, ◌-◌, ◌≤◌, ◌<◌, Bool, true, cond, ◌==◌, ◌&&◌, ◌||◌, nat_lt, max, map, List, [], ◌∷◌, length, get_or, Option, Some, None, refl, sym, ap, subst, ◌∙◌, inl, inr, arith}
use Rattle.std.specs.Prelude.{is_some}
use Rattle.std.specs.List.{filter, list_all, sum_by, zip}
use Rattle.std.proofs.lemmas.Bool.{cases_eq, eq-eqb, ne_eqb, or_left, or_right, ltb-true, false≢true}
use Rattle.std.proofs.lemmas.Option.{none-some, same_Some, cond_some}
use Rattle.dcop_base.specs.Table.{has, greatest}
use Rattle.dcop_base.specs.Problem.{Dcop, IsAssignment}
use Rattle.dcop_base.specs.Knowledge.{private_of}
use Rattle.dcop_base.specs.Graph.{neighbours}
use Rattle.dcop_base.specs.Whole.{IsProblem}
use Rattle.dcop_base.specs.Values.{cost_with, with_own}
use Rattle.dcop_base.specs.Limits.{amount_limit}
use Rattle.dcop_base.specs.declared.knowledge.Private.{Private}
use Rattle.pseudotree.specs.declared.agent.Place.{Place}
use Rattle.pseudotree.specs.Tree.{path_of, parent_of, children_of, is_above, is_variable}
use Rattle.pseudotree.specs.Pseudotree.{IsPseudotree}
use Rattle.pseudotree.proofs.SpreadLaws.{above_child}
use Rattle.adopt_context.specs.Context.{Context, value_in, part_of, union, names_all, or_zero}
use Rattle.adopt_context.specs.Bounds.{Entry, cap, capped, row_at, entry_at, plus_bound, lower_sum, upper_sum, is_below}
use Rattle.protocol_steps.specs.Values.{valued}
use Rattle.protocol_steps.specs.Adopt.{AdoptView, higher}
use Rattle.protocol_steps.specs.AdoptBounds.{delta, whole_delta, lower_of, upper_of, best_lower, best_upper, lower_bound, upper_bound}
use Rattle.adopt_context.specs.Merge.{lesser}
use Rattle.protocol_steps.specs.AdoptRange.{in_range, is_within as is_below_size}
use Rattle.dcop_optimum.proofs.LineLaws.{within_self, within_above, not_both}
use Rattle.dcop_optimum.proofs.OwnerLaws.{cost_split, weight_split}
use Rattle.dcop_optimum.proofs.JoinLaws.{value_below, listed, listed_at, listed_is, size_some, own_here, own_else, children_parent, IsPiece, joined, above_in_problem, joined_is, joined_agrees, joined_split}
use Rattle.protocol_steps.specs.TreeAgents.{place_at}
use Rattle.run_laws.specs.AdoptLaws.{EntryHolds}
use Rattle.run_laws.specs.AdoptAgents.{IsValueAbove}
use Rattle.run_laws.specs.AdoptUncut.{counted_sum, IsUncutAt, AreUncut}
use Rattle.run_laws.proofs.BoundLaws.{lowest_within, lowest_least}
use Rattle.adopt_context.proofs.KnownLaws.{each_pair, part_gives, union_gives_left, union_gives_right}
use Rattle.run_laws.proofs.Every.{Every, every_pair}
use Rattle.run_laws.proofs.AdoptAgentLaws.{IsKept, IsMid}
use Rattle.run_laws.proofs.EntryLaws.{merged_holds}
use Rattle.run_laws.proofs.EncloseLaws.{below, most, GivenAbove, IsReached, IsBounded, bounded_blank, bounded_when, bounded_both, filter_distinct, row_low, row_top, IsSum, plus_parts, IsGathered, gather}
use Rattle.run_laws.proofs.OwnLaws.{counted_cost, counted_low, counted_most, counted_high, most_cap, below_cap}

-- a bound that was cut off at the cap
pub capped_parts : (o : Option ℕ) (u : ℕ) → capped o ≡ Some u → (x : ℕ) × (o ≡ Some x) × (cap x ≡ u)
capped_parts None u h = absurd (none-some u h)
capped_parts (Some x) u h = (x, refl, same_Some (cap x) u h)

within_size : (o : Option ℕ) (x : ℕ) → is_below_size o x ≡ true → (s : ℕ) × (o ≡ Some s) × (x < s)
within_size None x h = absurd (false≢true h)
within_size (Some s) x h = (s, refl, ltb-true x s h)

size_is : (f : ℕ → ℕ) (xs : List ℕ) (u s : ℕ) → value_in (zip xs (map f xs)) u ≡ Some s → s ≡ f u
size_is f [] u s h = absurd (none-some s h)
size_is f (x ∷ xs) u s h =
    elim (cases_eq x u) [
      | inl same ↦ sym (same_Some (f x) s (ap (λ (b : Bool). cond b (Some (f x)) (value_in (zip xs (map f xs)) u)) (sym (eq-eqb x u same)) ∙ h)) ∙ ap f same
      | inr other ↦ size_is f xs u s (ap (λ (b : Bool). cond b (Some (f x)) (value_in (zip xs (map f xs)) u)) (sym (ne_eqb x u other)) ∙ h)
    ]

-- what has a size is listed
size_listed : (f : ℕ → ℕ) (xs : List ℕ) (u s : ℕ) → value_in (zip xs (map f xs)) u ≡ Some s → has xs u ≡ true
size_listed f [] u s h = absurd (none-some s h)
size_listed f (x ∷ xs) u s h =
    elim (cases_eq x u) [
      | inl same ↦ or_left (x == u) (has xs u) (eq-eqb x u same)
      | inr other ↦
          or_right (x == u) (has xs u)
          (size_listed f xs u s (ap (λ (b : Bool). cond b (Some (f x)) (value_in (zip xs (map f xs)) u)) (sym (ne_eqb x u other)) ∙ h))
    ]

-- δ(d), by what an agent is made from
abbrev delta_of : Private → Place → Context → ℕ → ℕ
delta_of own place known d =
    cap (cost_with (filter (λ t. list_all (λ u. u == own.me || (has place.path u && is_some (value_in known u))) t.scope) own.tables) (with_own own.me d (valued known)))

abbrev counted_of : Private → Place → Context → ℕ → ℕ
counted_of own place known d =
    cost_with (filter (λ t. list_all (λ u. u == own.me || (has place.path u && is_some (value_in known u))) t.scope) own.tables) (with_own own.me d (valued known))

-- what is at most the cap is not cut
is_uncut : (x : ℕ) → x ≤ amount_limit → cap x ≡ x
is_uncut x le = omega (arith, le)

all_uncut : (o : Option ℕ) → ((x : ℕ) → o ≡ Some x → x ≤ amount_limit) → capped o ≡ o
all_uncut None low = refl
all_uncut (Some x) low = ap (λ (n : ℕ). Some n) (is_uncut x (low x refl))

module _ (p : Dcop) (paths : List (List ℕ)) (problem : IsProblem p) (pseudo : IsPseudotree p paths) (error i : ℕ) (in_tree : i < length p.sizes) where
  -- i has a value, and its proper ancestors those of a context
  abbrev pub Under : ℕ → Context → List ℕ → Type 0
  Under d c values = (get_or values i 0 ≡ d) × GivenAbove p paths i (value_in c) values

  -- the child of i at a place
  abbrev pub child : ℕ → ℕ
  child k = get_or (children_of paths i) k 0

  -- an entry bounds its child's subtree, where i has the entry's value and the context holds
  pub record IsFair (x : Context) (d k : ℕ) (e : Entry) : Type 0 where
    pub holds : EntryHolds x e
    pub bounded : IsBounded p paths (child k) (Under d e.context) e.lower e.upper

  -- so do the bounds that a message brings
  abbrev pub IsBrought : ℕ → ℕ → Context → ℕ → Option ℕ → Type 0
  IsBrought d k r l u = IsBounded p paths (child k) (Under d r) l u

  pub merged_bounded : (x : Context) (d k : ℕ) (e : Entry) (r : Context) (l : ℕ) (u : Option ℕ) → IsFair x d k e → part_of r x ≡ true → IsBrought d k r l u
      → IsBounded p paths (child k) (Under d (union e.context r)) (max e.lower l) (lesser e.upper u)
  merged_bounded x d k e r l u a part brings =
      bounded_both p paths (child k) (Under d (union e.context r)) e.lower l e.upper u
      (bounded_when p paths (child k) (Under d e.context) (Under d (union e.context r)) e.lower e.upper
      (λ values h. (h.0, λ v b above given. h.1 v b above (union_gives_left e.context r x a.holds.part part v b given))) a.bounded)
      (bounded_when p paths (child k) (Under d r) (Under d (union e.context r)) l u
      (λ values h. (h.0, λ v b above given. h.1 v b above (union_gives_right e.context r x a.holds.part part v b given))) brings)

  pub keeps_fair : IsKept IsFair IsBrought
  keeps_fair = record {
    blank_has = λ x d k. record { holds = record { part = refl; low = omega arith; high = tt }; bounded = bounded_blank p paths (child k) (Under d []) };
    moved = λ x y d k e a part. record { holds = record { part = part; low = a.holds.low; high = a.holds.high }; bounded = a.bounded };
    merged_has = λ x d k e r l u a part may brings. record { holds = merged_holds x e r l u a.holds part may; bounded = merged_bounded x d k e r l u a part brings };
    reshared = λ x d k e s a low high. record { holds = record { part = a.holds.part; low = low; high = high }; bounded = record { low = a.bounded.low; high = a.bounded.high; top = a.bounded.top } };
    range = λ x d k e a. (a.holds.low, a.holds.high);
  }

  abbrev pub Mid : AdoptView → Type 0
  Mid v = IsMid (private_of p i) (place_at p paths i) error IsFair IsBrought keeps_fair v

  -- the values with d for i
  abbrev pub with_value : List ℕ → ℕ → List ℕ
  with_value values d = listed p (with_own i d (λ v. get_or values v 0))

  module _ (values : List ℕ) (is : IsAssignment p values) (d : ℕ) (small : d < get_or p.sizes i 0) where
    pub with_is : IsAssignment p (with_value values d)
    with_is =
        listed_is p (with_own i d (λ v. get_or values v 0))
        (λ v lt. elim (cases_eq v i) as (λ (_ : _). with_own i d (λ v. get_or values v 0) v < get_or p.sizes v 0) [
          | inl same ↦ let at = own_here i d (λ v. get_or values v 0) v same in subst (λ (n : ℕ). n < get_or p.sizes v 0) (sym at) (subst (λ (u : ℕ). d < get_or p.sizes u 0) (sym same) small)
          | inr other ↦ let at = own_else i d (λ v. get_or values v 0) v other in subst (λ (n : ℕ). n < get_or p.sizes v 0) (sym at) (value_below p values is v lt)
        ])

    pub with_here : get_or (with_value values d) i 0 ≡ d
    with_here = listed_at p (with_own i d (λ v. get_or values v 0)) i in_tree ∙ own_here i d (λ v. get_or values v 0) i refl

    pub with_above : (v : ℕ) → is_above paths v i ≡ true → get_or (with_value values d) v 0 ≡ get_or values v 0
    with_above v h =
        listed_at p (with_own i d (λ v. get_or values v 0)) v (above_in_problem p paths problem pseudo v i h)
        ∙ own_else i d (λ v. get_or values v 0) v (λ (same : v ≡ i). not_both paths pseudo.tree i i (subst (λ (u : ℕ). is_above paths u i ≡ true) same h) (within_self paths i))

  module _ (v : AdoptView) (mid : Mid v) where
    abbrev pub size : ℕ
    size = get_or p.sizes i 0

    size_here : v.own.size ≡ size
    size_here = ap (λ (o : Private). o.size) mid.own_is

    pub delta_is : (d : ℕ) → delta v d ≡ cap (counted_cost p paths problem pseudo i v.known d)
    delta_is d = ap (λ (o : Private). delta_of o v.place v.known d) mid.own_is ∙ ap (λ (q : Place). delta_of (private_of p i) q v.known d) mid.place_is

    pub row_long : (d : ℕ) → d < size → length (row_at v.rows d) ≡ length (children_of paths i)
    row_long d lt = mid.wide d (subst (λ (n : ℕ). d < n) (sym size_here) lt) ∙ ap (λ (q : Place). length q.children) mid.place_is

    within_last : (d : ℕ) → d < size → d ≤ v.own.size - 1
    within_last d lt = let at = size_here in omega (arith, lt, at)

    last_within : (d : ℕ) → d ≤ v.own.size - 1 → d < size
    last_within d le = let at = size_here in let some = size_some p problem i in_tree in omega (arith, le, at, some)

    -- what is known is what an entry rests on
    pub rests : (d k : ℕ) (values : List ℕ) → get_or values i 0 ≡ d → GivenAbove p paths i (value_in v.known) values → Under d (entry_at v.rows d k).context values
    rests d k values here given = (here, λ u x above e. given u x above (part_gives (entry_at v.rows d k).context v.known (mid.entries d k).holds.part u x e))

    -- the lower bounds, without a cap
    pub uncut_low : (values : List ℕ) (d : ℕ) → IsAssignment p values → get_or values i 0 ≡ d → GivenAbove p paths i (value_in v.known) values
        → delta v d + lower_sum (row_at v.rows d) ≤ below p paths i values
    uncut_low values d is here given =
        let lt : d < size = subst (λ (n : ℕ). n < size) here (value_below p values is i in_tree) in
        let counted = counted_low p paths problem pseudo i v.known values d here given in
        let at = delta_is d in
        let row = row_low (λ c. below p paths c values) (row_at v.rows d) (children_of paths i) (row_long d lt) (λ k. (mid.entries d k).bounded.low values is (rests d k values here given)) in
        let split = cost_split p paths problem pseudo i (λ u. get_or values u 0) in
        omega (arith, counted, at, row, split)

    agent_low : (values : List ℕ) → IsAssignment p values → GivenAbove p paths i (value_in v.known) values → lower_bound v ≤ below p paths i values
    agent_low values is given =
        let d : ℕ = get_or values i 0 in
        let lt : d < size = value_below p values is i in_tree in
        let least : lower_bound v ≤ lower_of v d = lowest_least (lower_of v) (v.own.size - 1) d (within_last d lt) in
        let uncut = uncut_low values d is refl given in
        let cut : lower_of v d ≤ delta v d + lower_sum (row_at v.rows d) = cap_below (delta v d + lower_sum (row_at v.rows d)) in
        omega (arith, least, uncut, cut)
      where
        cap_below : (x : ℕ) → cap x ≤ x
        cap_below x = omega arith

    agent_high : (u : ℕ) → upper_bound v ≡ Some u → (values : List ℕ) → IsAssignment p values → GivenAbove p paths i (value_in v.known) values → IsReached p paths i values u
    agent_high u e values is given =
        let d : ℕ = best_upper v in
        let lt : d < size = last_within d (lowest_within is_below (upper_of v) (v.own.size - 1)) in
        let row : List Entry = row_at v.rows d in
        let cut = capped_parts (plus_bound (whole_delta v d) (upper_sum row)) u e in
        let sum : IsSum (whole_delta v d) (upper_sum row) cut.0 = plus_parts (whole_delta v d) (upper_sum row) cut.0 cut.1 in
        let own = cond_some (names_all v.known (higher v)) (delta v d) sum.one sum.one_is in
        let named : names_all v.known (filter (has (path_of paths i)) (neighbours p i)) ≡ true =
        sym (ap (λ (q : Place). names_all v.known (filter (has q.path) v.own.neighbours)) mid.place_is
        ∙ ap (λ (o : Private). names_all v.known (filter (has (path_of paths i)) o.neighbours)) mid.own_is) ∙ own.0 in
        let mine : List ℕ = with_value values d in
        let mine_is : IsAssignment p mine = with_is values is d lt in
        let here : get_or mine i 0 ≡ d = with_here values is d lt in
        let mine_given : GivenAbove p paths i (value_in v.known) mine = λ w x above k. with_above values is d lt w above ∙ given w x above k in
        let value : ℕ → ℕ = λ (w : ℕ). get_or mine w 0 in
        let gathered : IsGathered (IsPiece p paths i value) (below p paths) (children_of paths i) sum.other =
        gather (IsPiece p paths i value) (below p paths) mine (record { assignment = mine_is; agrees = λ w h. refl }) row (children_of paths i) (row_long d lt)
        (filter_distinct (λ c. is_variable i (parent_of paths c)) (length paths) 0)
        (λ k x inside there.
        let reached : IsReached p paths (child k) mine x = (mid.entries d k).bounded.high x there mine mine_is (rests d k mine here mine_given) in
        record {
          piece = reached.other;
          is = record { assignment = reached.assignment; agrees = λ w h. reached.agrees w (above_child paths pseudo.tree (child k) i w (children_parent paths i k 0 inside) h) };
          costs = reached.costs;
        })
        sum.other sum.other_is in
        let whole : List ℕ = joined p paths i gathered.pieces in
        let split = joined_split p paths problem pseudo i in_tree value gathered.pieces gathered.are in
        let counted = counted_high p paths problem pseudo i v.known mine d here mine_given named in
        let at = delta_is d in
        let children = gathered.sum in
        let room = below_cap p paths problem i whole in
        let one = own.1 in
        let total = sum.total_is in
        let last = cut.2 in
        record {
          other = whole;
          assignment = joined_is p paths problem pseudo i in_tree value gathered.pieces gathered.are;
          agrees = λ w h. joined_agrees p paths problem pseudo i in_tree value gathered.pieces gathered.are w (within_above paths w i h) ∙ with_above values is d lt w h;
          costs = omega (arith, split, counted, at, children, room, one, total, last);
        }

    -- the upper bounds of a row are together at most the greatest cells of the children's subtrees
    uppers_most : (d : ℕ) → d < size → (total : ℕ) → upper_sum (row_at v.rows d) ≡ Some total → total ≤ sum_by (most p paths) (children_of paths i)
    uppers_most d lt total sum = row_top (most p paths) (row_at v.rows d) (children_of paths i) (row_long d lt) (λ k u there. (mid.entries d k).bounded.top u there) total sum

    -- UB(d), without a cap
    uncut_high : (d : ℕ) → d < size → (total : ℕ) → plus_bound (whole_delta v d) (upper_sum (row_at v.rows d)) ≡ Some total → total ≤ most p paths i
    uncut_high d lt total sum =
        let parts : IsSum (whole_delta v d) (upper_sum (row_at v.rows d)) total = plus_parts (whole_delta v d) (upper_sum (row_at v.rows d)) total sum in
        let own = cond_some (names_all v.known (higher v)) (delta v d) parts.one parts.one_is in
        let children = uppers_most d lt parts.other parts.other_is in
        let counted = counted_most p paths problem pseudo i v.known d in
        let at = delta_is d in
        let split = weight_split p paths problem pseudo i (λ t. greatest t.cells) in
        let one = own.1 in
        let both = parts.total_is in
        omega (arith, children, counted, at, split, one, both)

    agent_top : (u : ℕ) → upper_bound v ≡ Some u → u ≤ most p paths i
    agent_top u e =
        let d : ℕ = best_upper v in
        let lt : d < size = last_within d (lowest_within is_below (upper_of v) (v.own.size - 1)) in
        let cut = capped_parts (plus_bound (whole_delta v d) (upper_sum (row_at v.rows d))) u e in
        let high = uncut_high d lt cut.0 cut.1 in
        let last = cut.2 in
        omega (arith, high, last)

    -- the bounds of an agent bound its subtree under what is known
    pub agent_bounded : IsBounded p paths i (GivenAbove p paths i (value_in v.known)) (lower_bound v) (upper_bound v)
    agent_bounded = record { low = agent_low; high = agent_high; top = agent_top }

    -- what passes the agent's test is a value of a proper ancestor
    pair_above : (q : ℕ × ℕ) → in_range v q.0 q.1 ≡ true → IsValueAbove p paths i q
    pair_above q test =
        let size_of : ℕ → ℕ = λ (w : ℕ). get_or p.sizes w 0 in
        let there = within_size (value_in (zip v.place.path v.place.path_sizes) q.0) q.1 test in
        let at : value_in (zip (path_of paths i) (map size_of (path_of paths i))) q.0 ≡ Some there.0 =
        sym (ap (λ (e : Place). value_in (zip e.path e.path_sizes) q.0) mid.place_is) ∙ there.1 in
        let size_at : there.0 ≡ get_or p.sizes q.0 0 = size_is size_of (path_of paths i) q.0 there.0 at in
        (size_listed size_of (path_of paths i) q.0 there.0 at, subst (λ (n : ℕ). q.1 < n) size_at there.2)

    -- so what is known are values of proper ancestors
    pub known_above : Every (IsValueAbove p paths i) v.known
    known_above = every_pair (in_range v) (IsValueAbove p paths i) pair_above v.known mid.fits_known

    -- some assignment has all values that are known
    known_below : (u : ℕ) → u < length p.sizes → (o : Option ℕ) → value_in v.known u ≡ o → or_zero o < get_or p.sizes u 0
    known_below u lt None e = size_some p problem u lt
    known_below u lt (Some x) e =
        let test : is_below_size (value_in (zip v.place.path v.place.path_sizes) u) x ≡ true = each_pair (in_range v) v.known mid.fits_known u x e in
        let there = within_size (value_in (zip v.place.path v.place.path_sizes) u) x test in
        let size_at : there.0 ≡ get_or p.sizes u 0 =
        size_is (λ w. get_or p.sizes w 0) (path_of paths i) u there.0 (sym (ap (λ (q : Place). value_in (zip q.path q.path_sizes) u) mid.place_is) ∙ there.1) in
        let lt' = there.2 in
        omega (arith, lt', size_at)

    abbrev pub known_values : List ℕ
    known_values = listed p (valued v.known)

    pub known_is : IsAssignment p known_values
    known_is = listed_is p (valued v.known) (λ u lt. known_below u lt (value_in v.known u) refl)

    pub known_given : GivenAbove p paths i (value_in v.known) known_values
    known_given u x above e = listed_at p (valued v.known) u (above_in_problem p paths problem pseudo u i above) ∙ ap or_zero e

    -- so no sum of lower bounds is cut
    pub not_cut : (d : ℕ) → d < get_or p.sizes i 0 → delta v d + lower_sum (row_at v.rows d) ≤ amount_limit
    not_cut d lt =
        let mine : List ℕ = with_value known_values d in
        let low = uncut_low mine d (with_is known_values known_is d lt) (with_here known_values known_is d lt) (λ w x above e. with_above known_values known_is d lt w above ∙ known_given w x above e) in
        let room = below_cap p paths problem i mine in
        omega (arith, low, room)

    -- and no sum of upper bounds, nor a cost of own tables
    pub uncut_at : (d : ℕ) → d < get_or p.sizes i 0 → IsUncutAt v d
    uncut_at d lt =
        let room = most_cap p paths problem i in
        let split = weight_split p paths problem pseudo i (λ t. greatest t.cells) in
        let counted = counted_most p paths problem pseudo i v.known d in
        let plain : counted_sum v d ≡ counted_cost p paths problem pseudo i v.known d =
        ap (λ (o : Private). counted_of o v.place v.known d) mid.own_is ∙ ap (λ (q : Place). counted_of (private_of p i) q v.known d) mid.place_is in
        record {
          own = is_uncut (counted_sum v d) (omega (arith, plain, counted, split, room));
          lower = is_uncut (delta v d + lower_sum (row_at v.rows d)) (not_cut d lt);
          children = all_uncut (upper_sum (row_at v.rows d)) (λ total sum. let le = uppers_most d lt total sum in omega (arith, le, split, room));
          upper = all_uncut (plus_bound (whole_delta v d) (upper_sum (row_at v.rows d))) (λ total sum. let le = uncut_high d lt total sum in omega (arith, le, room));
        }

    pub uncut : AreUncut p i v
    uncut = record {
      each = uncut_at;
      lower = uncut_at (best_lower v) (last_within (best_lower v) (lowest_within nat_lt (lower_of v) (v.own.size - 1)));
      upper = uncut_at (best_upper v) (last_within (best_upper v) (lowest_within is_below (upper_of v) (v.own.size - 1)));
    }

    pub value_small : v.value < get_or p.sizes i 0
    value_small = last_within v.value mid.value_low
