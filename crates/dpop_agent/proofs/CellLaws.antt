-- What the cells of an agent's joined table say: the table that is sent up, and the value that is taken.
use Rattle.std.proofs.Common.{◌≡◌, ℕ, ◌<◌, true, false, eqb, List, [], ◌∷◌, ◌++◌, map, length, get_or, Option, Some, refl, sym, ap, ap₂, subst, ◌∙◌, inl, inr, arith}
use Rattle.std.specs.List.{zip, remove, insert}
use Rattle.std.proofs.lemmas.Bool.{cases_Bool, cond-true, cond-false, eqb-true, eq-eqb, or_parts, both_ways}
use Rattle.std.proofs.lemmas.List.{length-map}
use Rattle.dcop_base.specs.Table.{CostTable, AreWithin, has, has_repeat}
use Rattle.dcop_base.specs.Values.{with_own}
use Rattle.dcop_base.specs.declared.knowledge.Private.{Private}
use Rattle.dcop_base.proofs.TableLaws.{parts-of}
use Rattle.pseudotree.specs.declared.agent.Place.{Place}
use Rattle.cost_table.specs.Cells.{cell_of, place_in}
use Rattle.util_project.specs.Projection.{IsLeast, IsLowestLeast, IsProjection, cell_at_value, size_in}
use Rattle.protocol_steps.specs.Values.{valued, choices}
use Rattle.adopt_context.specs.Context.{value_in, or_zero}
use Rattle.protocol_steps.specs.Dpop.{DpopView, size_of, separator, joined_cost, best_value, util_cell, util_table}
use Rattle.dpop_agent.specs.Keeping.{keeping}
use Rattle.dpop_agent.specs.Joint.{IsJoint, over_of, over_sizes}
use Rattle.dpop_agent.specs.Sound.{IsKeeper}
use Rattle.dpop_agent.proofs.JointLaws.{picks, least_of, cells_are_choices}
use Rattle.dpop_agent.proofs.OverLaws.{separator_apart, separator_without, over_me, read_map, map_same, size_me}

-- the last one of a list
place_end : (xs : List ℕ) (m : ℕ) → has xs m ≡ false → place_in (xs ++ (m ∷ [])) m ≡ length xs
place_end [] m none = rw (eq-eqb m m refl) refl
place_end (x ∷ xs) m none =
    let parts = or_parts (eqb x m) (has xs m) none in
    let rest = place_end xs m parts.1 in
    rw parts.0 (omega (arith, rest))

remove_end : (xs : List ℕ) (m : ℕ) → remove (xs ++ (m ∷ [])) (length xs) ≡ xs
remove_end [] m = refl
remove_end (x ∷ xs) m = ap (λ (ys : List ℕ). x ∷ ys) (remove_end xs m)

insert_end : (xs : List ℕ) (m : ℕ) → insert xs (length xs) m ≡ xs ++ (m ∷ [])
insert_end [] m = refl
insert_end (x ∷ xs) m = ap (λ (ys : List ℕ). x ∷ ys) (insert_end xs m)

map_end : (f : ℕ → ℕ) (xs : List ℕ) (m : ℕ) → map f (xs ++ (m ∷ [])) ≡ map f xs ++ (f m ∷ [])
map_end f [] m = refl
map_end f (x ∷ xs) m = ap (λ (ys : List ℕ). f x ∷ ys) (map_end f xs m)

within_end : (ss xs : List ℕ) (s x : ℕ) → AreWithin ss xs → x < s → AreWithin (ss ++ (s ∷ [])) (xs ++ (x ∷ []))
within_end [] [] s x within lt = (lt, tt)
within_end [] (y ∷ ys) s x within lt = absurd within
within_end (t ∷ ts) [] s x within lt = absurd within
within_end (t ∷ ts) (y ∷ ys) s x within lt = (within.0, within_end ts ys s x within.1 lt)

-- values that are read of pairs with distinct variables
read_values : (vs xs : List ℕ) (f : ℕ → ℕ) → has_repeat vs ≡ false → AreWithin (map f vs) xs → map (valued (zip vs xs)) vs ≡ xs
read_values [] [] f h within = refl
read_values [] (x ∷ xs) f h within = absurd within
read_values (v ∷ vs) [] f h within = absurd within
read_values (v ∷ vs) (x ∷ xs) f h within =
    let parts = or_parts (has vs v) (has_repeat vs) h in
    let first : valued ((v, x) ∷ zip vs xs) v ≡ x = ap or_zero (cond-true (eqb v v) (Some x) (value_in (zip vs xs) v) (eq-eqb v v refl)) in
    let later : map (valued ((v, x) ∷ zip vs xs)) vs ≡ map (valued (zip vs xs)) vs = map_same (valued ((v, x) ∷ zip vs xs)) (valued (zip vs xs)) vs (λ u there.
    let differs : eqb v u ≡ false = elim (cases_Bool (eqb v u)) [
      | inl same ↦ absurd (both_ways (has vs v) parts.0 (subst (λ (w : ℕ). has vs w ≡ true) (sym (eqb-true v u same)) there))
      | inr apart ↦ apart
    ] in
    ap or_zero (cond-false (eqb v u) (Some x) (value_in (zip vs xs) u) differs)) in
    ap₂ (λ (y : ℕ) (ys : List ℕ). y ∷ ys) first (later ∙ read_values vs xs f parts.1 within.1)

module _ (own : Private) (place : Place) (kept : List (Option CostTable)) (keeper : IsKeeper own place kept) (t : CostTable) (joint : IsJoint (keeping own place kept) t) where
  abbrev v : DpopView
  v = keeping own place kept

  abbrev before : List ℕ
  before = separator v

  without : has before own.me ≡ false
  without = separator_without own place kept keeper

  pub joint_place : place_in t.scope own.me ≡ length before
  joint_place = ap (λ (vs : List ℕ). place_in vs own.me) joint.same_scope ∙ place_end before own.me without

  pub joint_names : has t.scope own.me ≡ true
  joint_names = ap (λ (vs : List ℕ). has vs own.me) joint.same_scope ∙ over_me own place kept keeper

  pub joint_scope : remove t.scope (place_in t.scope own.me) ≡ before
  joint_scope = ap₂ (λ (vs : List ℕ) (k : ℕ). remove vs k) joint.same_scope joint_place ∙ remove_end before own.me

  pub joint_sizes : remove t.sizes (place_in t.scope own.me) ≡ map (size_of v) before
  joint_sizes =
      ap₂ (λ (ss : List ℕ) (k : ℕ). remove ss k) (joint.same_sizes ∙ map_end (size_of v) before own.me) (joint_place ∙ sym (length-map before (size_of v)))
      ∙ remove_end (map (size_of v) before) (size_of v own.me)

  pub joint_size : size_in t own.me ≡ own.size
  joint_size =
      ap₂ (λ (ss : List ℕ) (vs : List ℕ). get_or ss (place_in vs own.me) 0) joint.same_sizes joint.same_scope
      ∙ read_map (size_of v) (over_of v) own.me (over_me own place kept keeper)
      ∙ size_me own place kept keeper

  -- the joined table at values of the separator and a value of the agent
  module _ (value : ℕ → ℕ) (within : AreWithin (map (size_of v) before) (map value before)) where
    at_values : (e : ℕ) → map (with_own own.me e value) (over_of v) ≡ map value before ++ (e ∷ [])
    at_values e =
        let same = map_same (with_own own.me e value) value before (λ u there.
        let differs : eqb u own.me ≡ false = elim (cases_Bool (eqb u own.me)) [
          | inl mine ↦ absurd (both_ways (has before own.me) without (subst (λ (w : ℕ). has before w ≡ true) (eqb-true u own.me mine) there))
          | inr apart ↦ apart
        ] in
        cond-false (eqb u own.me) e (value u) differs) in
        map_end (with_own own.me e value) before own.me
        ∙ ap₂ (λ (xs : List ℕ) (x : ℕ). xs ++ (x ∷ [])) same (cond-true (eqb own.me own.me) e (value own.me) (eq-eqb own.me own.me refl))

    pub joint_cell : (e : ℕ) → e < own.size → cell_at_value t own.me (map value before) e ≡ joined_cost v value e
    joint_cell e lt =
        let placed : place_in t.scope own.me ≡ length (map value before) = joint_place ∙ sym (length-map before value) in
        let values : insert (map value before) (place_in t.scope own.me) e ≡ map (with_own own.me e value) t.scope =
        ap (λ (k : ℕ). insert (map value before) k e) placed ∙ insert_end (map value before) e ∙ sym (at_values e) ∙ ap (λ (vs : List ℕ). map (with_own own.me e value) vs) (sym joint.same_scope) in
        let size = size_me own place kept keeper in
        let inside : AreWithin (over_sizes v) (map (with_own own.me e value) (over_of v)) =
        subst (λ (xs : List ℕ). AreWithin (over_sizes v) xs) (sym (at_values e))
        (subst (λ (ss : List ℕ). AreWithin ss (map value before ++ (e ∷ []))) (sym (map_end (size_of v) before own.me))
        (within_end (map (size_of v) before) (map value before) (size_of v own.me) e within (omega (arith, size, lt)))) in
        ap (λ (xs : List ℕ). cell_of t xs) values ∙ joint.cells (with_own own.me e value) inside

    -- the lowest value of least cell is the agent's best one
    pub picked_best : (d : ℕ) → IsLowestLeast (cell_at_value t own.me (map value before)) (size_in t own.me) d → d ≡ best_value v value
    picked_best d is =
        picks (cell_at_value t own.me (map value before)) (joined_cost v value) own.size d joint_cell
        (subst (λ (n : ℕ). IsLowestLeast (cell_at_value t own.me (map value before)) n d) joint_size is)

  -- the projection is the table that the agent sends up
  pub projects : (less : CostTable) → IsProjection t own.me less → less ≡ util_table v
  projects less is =
      let scope = is.same_scope ∙ joint_scope in
      let sizes = is.same_sizes ∙ joint_sizes in
      let parts = parts-of less.scope less.sizes less.cells is.whole in
      let cells = cells_are_choices less.sizes less.cells (util_cell v) parts.full (λ xs within.
      let inside : AreWithin (map (size_of v) before) xs = subst (λ (ss : List ℕ). AreWithin ss xs) sizes within in
      let value : ℕ → ℕ = valued (zip before xs) in
      let read = read_values before xs (size_of v) (separator_apart own place kept keeper) inside in
      let again : AreWithin (map (size_of v) before) (map value before) = subst (λ (ys : List ℕ). AreWithin (map (size_of v) before) ys) (sym read) inside in
      let there : AreWithin (remove t.sizes (place_in t.scope own.me)) xs = subst (λ (ss : List ℕ). AreWithin ss xs) (sym joint_sizes) inside in
      least_of (cell_at_value t own.me xs) (joined_cost v value) own.size (cell_of less xs)
      (λ e lt. ap (λ (ys : List ℕ). cell_at_value t own.me ys e) (sym read) ∙ joint_cell value again e lt)
      (subst (λ (n : ℕ). IsLeast (cell_at_value t own.me xs) n (cell_of less xs)) joint_size (is.cells xs there))) in
      ap₂ (λ (vs : List ℕ) (ss : List ℕ). let u : CostTable = record { scope = vs; sizes = ss; cells = less.cells } in u) scope sizes
      ∙ ap (λ (cs : List ℕ). let u : CostTable = record { scope = before; sizes = map (size_of v) before; cells = cs } in u)
      (cells ∙ ap (λ (ss : List ℕ). map (util_cell v) (choices ss)) sizes)
