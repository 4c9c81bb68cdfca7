-- Loops of an answer: tables made anew from the leaves up, and values picked from the root down.
use Rattle.std.proofs.Common.{◌≡◌, ℕ, zero, suc, ◌+◌, ◌<◌, ◌≤◌, Bool, true, false, cond, eqb, List, [], ◌∷◌, map, length, drop, get_or, replicate, set, Option, Some, Result, Ok, Err, IfOk, refl, sym, ap, ap₂, subst, ◌∙◌, inl, inr, arith, All}
use Rattle.std.specs.List.{range_with_len, sum_by}
use Rattle.std.specs.declared.vec.Vec.{Vec}
use Rattle.std.specs.declared.alloc.Global.{Global}
use Rattle.std.proofs.lemmas.Bool.{cases_eq, both_ways, or_cases, eqb-true, true≢false, false_from_ne_true}
use Rattle.std.proofs.lemmas.List.{length-set, length-replicate, get_or-replicate, get_or-set_same, get_or-set_other, drop_all, drop_more}
use Rattle.std.proofs.lemmas.List.FromFn.{length-map-range_with_len, get_or-map-range_with_len}
use Rattle.std.proofs.lemmas.List.Sums.{sum_by-cons}
use Rattle.std.proofs.lemmas.List.Elements.{All-head, All-tail}
use Rattle.dcop_base.specs.Table.{has, AreWithin}
use Rattle.dcop_base.specs.Problem.{Dcop, IsAssignment}
use Rattle.dcop_base.specs.Whole.{IsProblem}
use Rattle.dcop_base.specs.Knowledge.{private_of}
use Rattle.dcop_base.specs.declared.knowledge.Private.{Private}
use Rattle.dcop_base.specs.declared.memory.NoMemory.{NoMemory}
use Rattle.pseudotree.specs.Tree.{parent_of, is_above}
use Rattle.pseudotree.specs.Pseudotree.{IsPseudotree}
use Rattle.pseudotree.specs.Preorder.{preorder_of}
use Rattle.pseudotree.specs.Width.{joined_cells}
use Rattle.pseudotree.proofs.NestLaws.{above_shorter}
use Rattle.protocol_steps.specs.Dpop.{best_value}
use Rattle.dcop_optimum.proofs.LineLaws.{within_self}
use Rattle.dcop_optimum.proofs.JoinLaws.{within_from, value_below, size_some, separator_above, within_in_problem}
use Rattle.pseudotree.proofs.CheckLaws.{within_tree}
use Rattle.dcop_optimum.proofs.PreorderLaws.{has_preorder, preorder_below}
use Rattle.run_laws.proofs.ListLaws.{IsPlaced, placed}
use Rattle.dpop_agent.specs.declared.made.Made.{Made}
use Rattle.edit_session.specs.Held.{agent_with, AreHeldFrom, AreAllHeld}
use Rattle.edit_session.specs.MadeLaws.{AreChildrenHeld, AreLowestPicks, KeepsHeld, PicksReadSeparators}
use Rattle.pseudotree.specs.DepthFirst.{dfs}
use Rattle.problem_text.specs.File.{TextFile}
use Rattle.minimised_problem.specs.Goal.{problem_solved}
use Rattle.edit_session.specs.State.{is_touched, touched_cells}
use Rattle.edit_session.specs.Loops.{StayHeld, AreOthersHeld, cells_among}
use Rattle.edit_session.proofs.OrderLaws.{children_behind, none_above_behind, sum_preorder}

-- what the agent of a variable knows, where it is known
pub own_known : (p : Dcop) (known : List Private) (k var : ℕ) (own : Private) → known ≡ map (private_of p) (range_with_len 0 (length known)) → k < length known → own ≡ get_or known k own → k ≡ var → own ≡ private_of p var
own_known p known k var own e lt at same = at ∙ ap (λ (all : List Private). get_or all k own) e ∙ get_or-map-range_with_len (private_of p) 0 (length known) k var own lt (omega (arith, same))

-- what all agents know is known of as many as are known
pub known_all : (p : Dcop) (r : Result (Vec Private Global) NoMemory) → IfOk r (λ known. known.items ≡ map (private_of p) (range_with_len 0 (length p.sizes))) → IfOk r (λ known. known.items ≡ map (private_of p) (range_with_len 0 (length known.items)))
known_all p (Ok known) e = e ∙ ap (λ (n : ℕ). map (private_of p) (range_with_len 0 n)) (sym (ap (λ (xs : List Private). length xs) e ∙ length-map-range_with_len (private_of p) 0 (length p.sizes)))
known_all p (Err fault) e = tt

-- where the tables of one more agent are kept
pub one_stays : (p : Dcop) (paths : List (List ℕ)) (kept kept' : List (Option Made)) (i : ℕ) (made : Made) → KeepsHeld p paths kept i made → kept' ≡ set kept i (Some made) → StayHeld p paths kept kept'
one_stays p paths kept kept' i made keeps is = record {
  counted = ap length is ∙ length-set kept i (Some made);
  held = λ j from. subst (λ (ks : List (Option Made)). AreHeldFrom p paths ks j) (sym is) (keeps.others j from);
}

-- nothing is changed
pub none_stays : (p : Dcop) (paths : List (List ℕ)) (kept kept' : List (Option Made)) → kept' ≡ kept → StayHeld p paths kept kept'
none_stays p paths kept kept' is = record {
  counted = ap length is;
  held = λ j from. subst (λ (ks : List (Option Made)). AreHeldFrom p paths ks j) (sym is) from;
}

pub both_stay : (p : Dcop) (paths : List (List ℕ)) (a b c : List (Option Made)) → StayHeld p paths a b → StayHeld p paths b c → StayHeld p paths a c
both_stay p paths a b c ab bc = record { counted = bc.counted ∙ ab.counted; held = λ i from. bc.held i (ab.held i from) }

-- the cells of one agent's joined table, where it is touched
pub one_touched : (p : Dcop) (paths : List (List ℕ)) (touched : List Bool) (v : ℕ) → is_touched touched v ≡ true → cells_among p paths touched (v ∷ []) ≡ joined_cells p paths v
one_touched p paths touched v is =
    let step = sum_by-cons (λ i. cond (is_touched touched i) (joined_cells p paths i) 0) v [] in
    let here : cond (is_touched touched v) (joined_cells p paths v) 0 ≡ joined_cells p paths v = ap (λ (b : Bool). cond b (joined_cells p paths v) 0) is in
    omega (arith, step, here)

pub none_touched : (p : Dcop) (paths : List (List ℕ)) (touched : List Bool) (v : ℕ) → is_touched touched v ≡ false → cells_among p paths touched (v ∷ []) ≡ 0
none_touched p paths touched v is =
    let step = sum_by-cons (λ i. cond (is_touched touched i) (joined_cells p paths i) 0) v [] in
    let here : cond (is_touched touched v) (joined_cells p paths v) 0 ≡ 0 = ap (λ (b : Bool). cond b (joined_cells p paths v) 0) is in
    omega (arith, step, here)

-- what the loop from the leaves up has done: the agents behind this place in the order
pub record HasRemade (p : Dcop) (paths : List (List ℕ)) (touched : List Bool) (order : List ℕ) (before kept : List (Option Made)) (from steps place : ℕ) : Type 0 where
  pub stay : StayHeld p paths before kept
  pub done : (v : ℕ) → has (drop place order) v ≡ true → AreHeldFrom p paths kept v
  pub counted : steps ≡ from + cells_among p paths touched (drop place order)

module _ (p : Dcop) (paths : List (List ℕ)) (problem : IsProblem p) (pseudo : IsPseudotree p paths) (touched : List Bool) (order : List ℕ) (is_order : order ≡ preorder_of paths) (before : List (Option Made)) (from : ℕ) where
  pub remade_start : (kept : List (Option Made)) (steps place : ℕ) → kept ≡ before → steps ≡ from → length order ≤ place → HasRemade p paths touched order before kept from steps place
  remade_start kept steps place same none all =
      let gone : drop place order ≡ [] = drop_all place order all in
      record {
        stay = none_stays p paths before kept same;
        done = λ v h. absurd (true≢false (sym h ∙ ap (λ (vs : List ℕ). has vs v) gone));
        counted = (let zeros = ap (λ (vs : List ℕ). cells_among p paths touched vs) gone in omega (arith, none, zeros));
      }

  -- the children of the next agent are done
  pub remade_children : (kept : List (Option Made)) (steps k : ℕ) → HasRemade p paths touched order before kept from steps (k + 1) → k < length order → AreChildrenHeld p paths kept (get_or order k 0)
  remade_children kept steps k is lt c parent =
      let one : k + 1 ≡ suc k = omega arith in
      is.done c (ap (λ (j : ℕ). has (drop j order) c) one
      ∙ subst (λ (vs : List ℕ). has (drop (suc k) vs) c ≡ true) (sym is_order)
      (children_behind p paths problem pseudo k c (subst (λ (vs : List ℕ). k < length vs) is_order lt) (subst (λ (vs : List ℕ). parent_of paths c ≡ Some (get_or vs k 0)) is_order parent)))

  pub remade_others : (kept : List (Option Made)) (steps k : ℕ) → HasRemade p paths touched order before kept from steps k → AreOthersHeld p paths touched before → AreOthersHeld p paths touched kept
  remade_others kept steps k is others i lt out = is.stay.held i (others i lt out)

  next_drop : (k : ℕ) → k < length order → drop k order ≡ get_or order k 0 ∷ drop (k + 1) order
  next_drop k lt = drop_more order k 0 lt

  pub remade_more : (kept kept' : List (Option Made)) (steps steps' k : ℕ) → HasRemade p paths touched order before kept from steps (k + 1) → k < length order
      → StayHeld p paths kept kept' → AreHeldFrom p paths kept' (get_or order k 0) → steps' ≡ steps + cells_among p paths touched (get_or order k 0 ∷ [])
      → HasRemade p paths touched order before kept' from steps' k
  remade_more kept kept' steps steps' k is lt stay held adds =
      let v : ℕ = get_or order k 0 in
      let f : ℕ → ℕ = λ i. cond (is_touched touched i) (joined_cells p paths i) 0 in
      record {
        stay = both_stay p paths before kept kept' is.stay stay;
        done = λ w h.
            elim (or_cases (eqb v w) (has (drop (k + 1) order) w) (sym (ap (λ (vs : List ℕ). has vs w) (next_drop k lt)) ∙ h)) [
              | inl same ↦ subst (AreHeldFrom p paths kept') (eqb-true v w same) held
              | inr later ↦ stay.held w (is.done w later)
            ];
        counted =
            (let one = sum_by-cons f v [] in
            let step = sum_by-cons f v (drop (k + 1) order) in
            let next = ap (λ (vs : List ℕ). sum_by f vs) (next_drop k lt) in
            let old = is.counted in
            omega (arith, one, step, next, old, adds));
      }

  drop_le : (f : ℕ → ℕ) (k : ℕ) (xs : List ℕ) → sum_by f (drop k xs) ≤ sum_by f xs
  drop_le f zero xs = omega arith
  drop_le f (suc k) [] = omega arith
  drop_le f (suc k) (x ∷ xs) = let rest = drop_le f k xs in let step = sum_by-cons f x xs in omega (arith, rest, step)

  -- where the next agent wants memory, no more steps were taken than all take
  pub remade_within : (kept : List (Option Made)) (steps steps' k : ℕ) → HasRemade p paths touched order before kept from steps (k + 1) → k < length order
      → steps' ≤ steps + cells_among p paths touched (get_or order k 0 ∷ []) → steps' ≤ from + cells_among p paths touched order
  remade_within kept steps steps' k is lt le =
      let v : ℕ = get_or order k 0 in
      let f : ℕ → ℕ = λ i. cond (is_touched touched i) (joined_cells p paths i) 0 in
      let one = sum_by-cons f v [] in
      let step = sum_by-cons f v (drop (k + 1) order) in
      let next = ap (λ (vs : List ℕ). sum_by f vs) (next_drop k lt) in
      let all = drop_le f k order in
      let old = is.counted in
      omega (arith, one, step, next, all, old, le)

  -- at the end all agents are done
  pub remade_all : (kept : List (Option Made)) (steps : ℕ) → HasRemade p paths touched order before kept from steps 0 → AreAllHeld p paths kept
  remade_all kept steps is i lt =
      let count = pseudo.sized in
      is.done i (subst (λ (vs : List ℕ). has vs i ≡ true) (sym is_order) (has_preorder paths pseudo.tree i (omega (arith, lt, count)))) i (within_self paths i)

  pub order_known : (k : ℕ) → k < length order → get_or order k 0 < length p.sizes
  order_known k lt =
      let count = pseudo.sized in
      let below = preorder_below paths k 0 (subst (λ (vs : List ℕ). k < length vs) is_order lt) in
      let same : get_or order k 0 ≡ get_or (preorder_of paths) k 0 = ap (λ (vs : List ℕ). get_or vs k 0) is_order in
      omega (arith, count, below, same)

-- the cells of all touched agents, in preorder or in order of the variables
pub cells_in_order : (p : Dcop) (paths : List (List ℕ)) → IsProblem p → IsPseudotree p paths → (touched : List Bool) → length touched ≡ length p.sizes
    → cells_among p paths touched (preorder_of paths) ≡ sum_by (λ i. cond (is_touched touched i) (joined_cells p paths i) 0) (range_with_len 0 (length touched))
cells_in_order p paths problem pseudo touched long =
    sum_preorder p paths problem pseudo (λ i. cond (is_touched touched i) (joined_cells p paths i) 0)
    ∙ ap (λ (n : ℕ). sum_by (λ i. cond (is_touched touched i) (joined_cells p paths i) 0) (range_with_len 0 n)) (pseudo.sized ∙ sym long)

-- the cells of all touched agents are those of the session's state
pub touched_cells_are : (file : TextFile) (p : Dcop) (paths : List (List ℕ)) (touched : List Bool) → p ≡ problem_solved file → paths ≡ dfs p → IsProblem p → IsPseudotree p paths → length touched ≡ length p.sizes
    → cells_among p paths touched (preorder_of paths) ≡ touched_cells (record { file = file; touched = touched })
touched_cells_are file p paths touched same is problem pseudo long =
    cells_in_order p paths problem pseudo touched long
    ∙ ap₂ (λ (q : Dcop) (ps : List (List ℕ)). sum_by (λ i. cond (is_touched touched i) (joined_cells q ps i) 0) (range_with_len 0 (length touched))) same (is ∙ ap dfs same)

-- what the loop from the root down has picked: the values of the first agents in the order
pub record HasPicked (p : Dcop) (paths : List (List ℕ)) (kept : List (Option Made)) (order values : List ℕ) (place : ℕ) : Type 0 where
  pub assignment : IsAssignment p values
  pub picked : (m : ℕ) → m < place → get_or values (get_or order m 0) 0 ≡ best_value (agent_with p paths kept (get_or order m 0)) (λ u. get_or values u 0)

pub within_count : (ss xs : List ℕ) → AreWithin ss xs → length xs ≡ length ss
within_count [] [] within = refl
within_count [] (x ∷ xs) within = absurd within
within_count (s ∷ ss) [] within = absurd within
within_count (s ∷ ss) (x ∷ xs) within = ap suc (within_count ss xs within.1)

-- one more value below its size
pub set_within : (p : Dcop) (values : List ℕ) (v d : ℕ) → IsAssignment p values → d < get_or p.sizes v 0 → v < length p.sizes → IsAssignment p (set values v d)
set_within p values v d is low lt =
    let long = within_count p.sizes values is in
    within_from p.sizes (set values v d) (length-set values v d ∙ long) (λ k inside.
    elim (cases_eq k v) [
      | inl same ↦
          let at : get_or (set values v d) k 0 ≡ d = ap (λ (j : ℕ). get_or (set values v d) j 0) same ∙ get_or-set_same values v d 0 (omega (arith, lt, long)) in
          let size : get_or p.sizes k 0 ≡ get_or p.sizes v 0 = ap (λ (j : ℕ). get_or p.sizes j 0) same in
          omega (arith, at, size, low)
      | inr other ↦ let at = get_or-set_other values v k d 0 other in let old = value_below p values is k inside in omega (arith, at, old)
    ])

module _ (p : Dcop) (paths : List (List ℕ)) (problem : IsProblem p) (pseudo : IsPseudotree p paths) (kept : List (Option Made)) (all : AreAllHeld p paths kept) (reads : PicksReadSeparators) (order : List ℕ) (is_order : order ≡ preorder_of paths) where
  pub children_all : (i : ℕ) → AreChildrenHeld p paths kept i
  children_all i c parent j within = all j (let count = pseudo.sized in let inside = within_tree paths c i parent in within_in_problem p paths problem pseudo c j (omega (arith, inside, count)) within)

  pub picked_start : (values : List ℕ) → values ≡ replicate (length p.sizes) 0 → HasPicked p paths kept order values 0
  picked_start values is = record {
    assignment =
        subst (IsAssignment p) (sym is) (within_from p.sizes (replicate (length p.sizes) 0) (length-replicate (length p.sizes) 0) (λ k lt.
        let at : get_or (replicate (length p.sizes) 0) k 0 ≡ 0 = get_or-replicate {A = ℕ} (length p.sizes) k 0 0 lt in
        let some = size_some p problem k lt in
        omega (arith, at, some)));
    picked = λ m lt. absurd (omega (arith, lt));
  }

  -- a value that does not stand in its separator changes nothing that an agent picks
  stays_picked : (values : List ℕ) (v d w : ℕ) → is_above paths v w ≡ false → best_value (agent_with p paths kept w) (λ u. get_or values u 0) ≡ best_value (agent_with p paths kept w) (λ u. get_or (set values v d) u 0)
  stays_picked values v d w out =
      (reads p paths kept w problem pseudo (children_all w)).same (λ u. get_or values u 0) (λ u. get_or (set values v d) u 0) (λ u h.
      sym (get_or-set_other values v u d 0 (λ (e : u ≡ v).
      both_ways (is_above paths v w) out (subst (λ (x : ℕ). is_above paths x w ≡ true) e (separator_above p paths problem pseudo w u h)))))

  not_self : (v : ℕ) → is_above paths v v ≡ false
  not_self v = false_from_ne_true (is_above paths v v) (λ above. let less = above_shorter paths pseudo.tree v v above in absurd (omega (arith, less)))

  pub picked_more : (values values' : List ℕ) (k d : ℕ) → HasPicked p paths kept order values k → k < length order → get_or order k 0 < length p.sizes
      → d ≡ best_value (agent_with p paths kept (get_or order k 0)) (λ u. get_or values u 0) → d < get_or p.sizes (get_or order k 0) 0 → values' ≡ set values (get_or order k 0) d
      → HasPicked p paths kept order values' (k + 1)
  picked_more values values' k d is lt known best low sets =
      let v : ℕ = get_or order k 0 in
      let long = within_count p.sizes values is.assignment in
      let here : get_or (set values v d) v 0 ≡ best_value (agent_with p paths kept v) (λ u. get_or (set values v d) u 0) =
      get_or-set_same values v d 0 (omega (arith, known, long)) ∙ best ∙ stays_picked values v d v (not_self v) in
      subst (λ (xs : List ℕ). HasPicked p paths kept order xs (k + 1)) (sym sets) (record {
        assignment = set_within p values v d is.assignment low known;
        picked = λ m before.
            elim (cases_eq (get_or order m 0) v) [
              | inl same ↦
                  subst (λ (w : ℕ). get_or (set values v d) w 0 ≡ best_value (agent_with p paths kept w) (λ u. get_or (set values v d) u 0)) (sym same) here
              | inr other ↦
                  let less : m < k = less_from m k before (m_not m other) in
                  let out : is_above paths v (get_or order m 0) ≡ false =
                  subst (λ (vs : List ℕ). is_above paths (get_or vs k 0) (get_or vs m 0) ≡ false) (sym is_order)
                  (none_above_behind p paths problem pseudo m k less (subst (λ (vs : List ℕ). k < length vs) is_order lt)) in
                  get_or-set_other values v (get_or order m 0) d 0 other ∙ is.picked m less ∙ stays_picked values v d (get_or order m 0) out
            ];
      })
    where
      less_from : (a b : ℕ) → a < b + 1 → (a ≡ b → ⊥) → a < b
      less_from a b lt ne = omega (arith, lt, ne)

      m_not : (m : ℕ) → (get_or order m 0 ≡ get_or order k 0 → ⊥) → (m ≡ k → ⊥)
      m_not m other e = other (ap (λ (j : ℕ). get_or order j 0) e)

  -- at the end all values are picked
  pub picked_all : (values : List ℕ) (k : ℕ) → length order ≤ k → HasPicked p paths kept order values k → AreLowestPicks p paths kept values
  picked_all values k whole is i lt =
      let count = pseudo.sized in
      let named : has order i ≡ true = subst (λ (vs : List ℕ). has vs i ≡ true) (sym is_order) (has_preorder paths pseudo.tree i (omega (arith, lt, count))) in
      let at : IsPlaced order i = placed order i named in
      let inside = at.inside in
      subst (λ (w : ℕ). get_or values w 0 ≡ best_value (agent_with p paths kept w) (λ u. get_or values u 0)) at.at (is.picked at.place (omega (arith, inside, whole)))

-- values of an assignment are within the sizes of any of its variables
pub values_within : (p : Dcop) (values : List ℕ) → IsAssignment p values → (vs : List ℕ) → All (λ v. v < length p.sizes) vs → AreWithin (map (λ (v : ℕ). get_or p.sizes v 0) vs) (map (λ (v : ℕ). get_or values v 0) vs)
values_within p values is [] all = tt
values_within p values is (v ∷ vs) all = (value_below p values is v (All-head (λ v. v < length p.sizes) v vs all), values_within p values is vs (All-tail (λ v. v < length p.sizes) v vs all))
