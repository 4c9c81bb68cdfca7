-- Rows of costs, one for each own value, to which tables are added, and the best value that they show.
use Rattle.std.proofs.Common.{◌≡◌, ℕ, ◌+◌, ◌<◌, ◌≤◌, Bool, true, false, ◌||◌, eqb, List, [], ◌∷◌, ◌++◌, map, min, length, take, get_or, replicate, Option, Some, None, sym, ap, subst, ◌∙◌, inl, inr, arith}
use Rattle.std.specs.List.{All, filter, flat_map, list_all}
use Rattle.std.proofs.lemmas.Bool.{cases_Bool, cond-true, cond-false, eqb-true, eq-eqb, or_cases, both_ways, true≢false}
use Rattle.std.proofs.lemmas.List.{append-nil, get_or-replicate, length-replicate}
use Rattle.std.proofs.lemmas.List.Elements.{All-replicate}
use Rattle.dcop_base.specs.Limits.{amount_limit}
use Rattle.dcop_base.specs.Table.{CostTable, AreWithin, has}
use Rattle.dcop_base.specs.Values.{cell_with, cost_with, with_own}
use Rattle.dcop_base.specs.declared.knowledge.Private.{Private}
use Rattle.pseudotree.specs.declared.agent.Place.{Place}
use Rattle.cost_table.specs.Cells.{place_in}
use Rattle.util_join.specs.Join.{LiesIn}
use Rattle.util_project.specs.Projection.{IsLowestLeast}
use Rattle.adopt_context.specs.Bounds.{cap}
use Rattle.protocol_steps.specs.Dpop.{DpopView, there, own_tables, kept_tables, joined_cost, best_value, separator, size_of}
use Rattle.dpop_agent.specs.Keeping.{keeping}
use Rattle.dpop_agent.specs.Joint.{over_of, over_sizes}
use Rattle.dpop_agent.specs.Row.{AreBelowSizes, HasCells, HasRisen}
use Rattle.dpop_agent.specs.Sound.{IsKeeper}
use Rattle.dpop_agent.proofs.JointLaws.{picks}
use Rattle.dpop_agent.proofs.SumLaws.{cost_more, filter_next, there_more}
use Rattle.dpop_agent.proofs.OverLaws.{had_of, has_end, kept_lies, map_same, own_lies, read_map, size_me, within_all}

-- what is added to a capped sum, as if it were added before the cap
capped_more : (old sum cell now new total : ℕ) → now ≡ min (old + sum) amount_limit → new ≡ min (now + cell) amount_limit → total ≡ sum + cell → new ≡ min (old + total) amount_limit
capped_more old sum cell now new total so step is = omega (arith, so, step, is)

-- a row to which nothing was added
pub risen_none : (me : ℕ) (value : ℕ → ℕ) (costs : List ℕ) → All (λ c. c ≤ amount_limit) costs → HasRisen me value [] costs costs
risen_none me value costs small = record {
  counted = omega arith;
  within = small;
  each = λ d lt. omega (arith, small d 0 lt);
}

-- one table was added: no cost is above the cap, and each gained its cell
pub record IsAdded (me : ℕ) (value : ℕ → ℕ) (t : CostTable) (old new : List ℕ) : Type 0 where
  pub counted : length new ≡ length old
  pub within : All (λ c. c ≤ amount_limit) new
  pub each : (d : ℕ) → d < length old → get_or new d 0 ≡ cap (get_or old d 0 + cell_with t (with_own me d value))

-- one more table is added
risen_more : (me : ℕ) (value : ℕ → ℕ) (ts : List CostTable) (t : CostTable) (old now new : List ℕ) → HasRisen me value ts old now → IsAdded me value t now new → HasRisen me value (ts ++ (t ∷ [])) old new
risen_more me value ts t old now new risen adds = record {
  counted = adds.counted ∙ risen.counted;
  within = adds.within;
  each = λ d lt.
      let at : ℕ → ℕ = with_own me d value in
      let long = risen.counted in
      capped_more (get_or old d 0) (cost_with ts at) (cell_with t at) (get_or now d 0) (get_or new d 0) (cost_with (ts ++ (t ∷ [])) at)
      (risen.each d lt) (adds.each d (omega (arith, lt, long))) (cost_more ts t at);
}

-- the next table passes a test and is added, or does not pass
module _ (me : ℕ) (value : ℕ → ℕ) (p : CostTable → Bool) (ts : List CostTable) (k : ℕ) (t : CostTable) (old now : List ℕ) (lt : k < length ts) (is : t ≡ get_or ts k t) (before : HasRisen me value (filter p (take k ts)) old now) where
  pub risen_passes : (new : List ℕ) → p t ≡ true → IsAdded me value t now new → HasRisen me value (filter p (take (k + 1) ts)) old new
  risen_passes new fits adds =
      subst (λ (us : List CostTable). HasRisen me value us old new)
      (sym (filter_next p ts k t true lt is fits))
      (risen_more me value (filter p (take k ts)) t old now new before adds)

  pub risen_fails : p t ≡ false → HasRisen me value (filter p (take (k + 1) ts)) old now
  risen_fails differs =
      subst (λ (us : List CostTable). HasRisen me value us old now)
      (sym (filter_next p ts k t false lt is differs ∙ append-nil (filter p (take k ts))))
      before

-- a table that is kept is added, or none is kept
module _ (me : ℕ) (value : ℕ → ℕ) (kept : List (Option CostTable)) (k : ℕ) (e : Option CostTable) (old now : List ℕ) (lt : k < length kept) (is : e ≡ get_or kept k e) (before : HasRisen me value (flat_map there (take k kept)) old now) where
  pub risen_kept : (t : CostTable) (new : List ℕ) → e ≡ Some t → IsAdded me value t now new → HasRisen me value (flat_map there (take (k + 1) kept)) old new
  risen_kept t new some adds =
      subst (λ (us : List CostTable). HasRisen me value us old new)
      (sym (there_more kept k e lt is ∙ ap (λ (o : Option CostTable). flat_map there (take k kept) ++ there o) some))
      (risen_more me value (flat_map there (take k kept)) t old now new before adds)

  pub risen_not : e ≡ None → HasRisen me value (flat_map there (take (k + 1) kept)) old now
  risen_not none =
      subst (λ (us : List CostTable). HasRisen me value us old now)
      (sym (there_more kept k e lt is ∙ ap (λ (o : Option CostTable). flat_map there (take k kept) ++ there o) none ∙ append-nil (flat_map there (take k kept))))
      before

-- a row of zeros
pub zeros_long : (size : ℕ) (costs : List ℕ) → costs ≡ replicate size 0 → length costs ≡ size
zeros_long size costs is = ap length is ∙ length-replicate size 0

pub zeros_small : (size : ℕ) (costs : List ℕ) → costs ≡ replicate size 0 → All (λ c. c ≤ amount_limit) costs
zeros_small size costs is = subst (λ (cs : List ℕ). All (λ c. c ≤ amount_limit) cs) (sym is) (All-replicate (λ c. c ≤ amount_limit) size 0 (omega arith))

-- a value below its size, of a list of them
within_at : (f g : ℕ → ℕ) (xs : List ℕ) (u : ℕ) → AreWithin (map g xs) (map f xs) → has xs u ≡ true → f u < g u
within_at f g [] u within h = absurd (true≢false (sym h))
within_at f g (x ∷ xs) u within h = elim (or_cases (eqb x u) (has xs u) h) [
  | inl here ↦ subst (λ (w : ℕ). f w < g w) (eqb-true x u here) within.0
  | inr later ↦ within_at f g xs u within.1 later
]

-- twice added to a row of zeros
both_capped : (none one two a b : ℕ) → none ≡ 0 → one ≡ min (none + a) amount_limit → two ≡ min (one + b) amount_limit → two ≡ min (a + b) amount_limit
both_capped none one two a b zero first second = omega (arith, zero, first, second)

module _ (own : Private) (place : Place) (kept : List (Option CostTable)) (keeper : IsKeeper own place kept) (value : ℕ → ℕ) where
  abbrev v : DpopView
  v = keeping own place kept

  -- the lowest value of least cost in the row is the agent's best one
  pub row_best : (zeros one two : List ℕ) (d : ℕ) → zeros ≡ replicate own.size 0 → HasRisen own.me value (own_tables v) zeros one → HasRisen own.me value (kept_tables v) one two → IsLowestLeast (λ e. get_or two e 0) (length two) d → d ≡ best_value v value
  row_best zeros one two d none first second least =
      let long = zeros_long own.size zeros none in
      let first_long = first.counted in
      let count : length two ≡ own.size = second.counted ∙ first.counted ∙ long in
      picks (λ (e : ℕ). get_or two e 0) (joined_cost v value) own.size d (λ e lt.
      let at : ℕ → ℕ = with_own own.me e value in
      both_capped (get_or zeros e 0) (get_or one e 0) (get_or two e 0) (cost_with (own_tables v) at) (cost_with (kept_tables v) at)
      (ap (λ (cs : List ℕ). get_or cs e 0) none ∙ get_or-replicate own.size e 0 0 lt)
      (first.each e (omega (arith, lt, long)))
      (second.each e (omega (arith, lt, long, first_long))))
      (subst (λ (n : ℕ). IsLowestLeast (λ (e : ℕ). get_or two e 0) n d) count least)

  module _ (below : AreBelowSizes v value) where
    -- the separator's values and an own one are below the sizes of their variables
    over_below_sizes : (d : ℕ) → d < own.size → (u : ℕ) → has (over_of v) u ≡ true → with_own own.me d value u < size_of v u
    over_below_sizes d lt u h = elim (cases_Bool (eqb u own.me)) [
      | inl mine ↦
          let size : size_of v u ≡ own.size = ap (size_of v) (eqb-true u own.me mine) ∙ size_me own place kept keeper in
          subst (λ (n : ℕ). n < size_of v u) (sym (cond-true (eqb u own.me) d (value u) mine)) (subst (λ (n : ℕ). d < n) (sym size) lt)
      | inr other ↦
          let above : has (separator v) u ≡ true = elim (or_cases (has (separator v) u) (eqb own.me u || false) (sym (has_end (separator v) own.me u) ∙ h)) [
            | inl before ↦ before
            | inr last ↦
                elim (or_cases (eqb own.me u) false last) [
                  | inl same ↦ absurd (both_ways (eqb u own.me) other (eq-eqb u own.me (sym (eqb-true own.me u same))))
                  | inr never ↦ absurd (true≢false (sym never))
                ]
          ] in
          subst (λ (n : ℕ). n < size_of v u) (sym (cond-false (eqb u own.me) d (value u) other)) (within_at value (size_of v) (separator v) u below above)
    ]

    -- a table over the variables of the joined table has a cell at each own value
    lies_cells : (t : CostTable) → LiesIn (over_of v) (over_sizes v) t → HasCells own.me value own.size t
    lies_cells t lies d lt =
        let among : (u : ℕ) → has t.scope u ≡ true → has (over_of v) u ≡ true = λ u h. had_of (λ u. has (over_of v) u ≡ true) t.scope u lies.among h in
        let sized : t.sizes ≡ map (size_of v) t.scope =
        lies.sized ∙ map_same (λ u. get_or (over_sizes v) (place_in (over_of v) u) 0) (size_of v) t.scope (λ u h. read_map (size_of v) (over_of v) u (among u h)) in
        subst (λ (ss : List ℕ). AreWithin ss (map (with_own own.me d value) t.scope)) (sym sized)
        (within_all (with_own own.me d value) (size_of v) t.scope (λ u h. over_below_sizes d lt u (among u h)))

    pub own_cells : (tables : List CostTable) (path : List ℕ) (count : ℕ) → tables ≡ own.tables → path ≡ place.path → count ≡ own.size
        → All (λ (t : CostTable). list_all (λ u. eqb u own.me || has path u) t.scope ≡ true → HasCells own.me value count t) tables
    own_cells tables path count same_tables same_path same_count =
        let P : List CostTable → List ℕ → ℕ → Type 0 = λ ts vs n. All (λ (t : CostTable). list_all (λ u. eqb u own.me || has vs u) t.scope ≡ true → HasCells own.me value n t) ts in
        let all : P own.tables place.path own.size = λ k d lt test. lies_cells (get_or own.tables k d) (own_lies own place kept keeper k d lt test) in
        subst (λ (n : ℕ). P tables path n) (sym same_count)
        (subst (λ (vs : List ℕ). P tables vs own.size) (sym same_path) (subst (λ (ts : List CostTable). P ts place.path own.size) (sym same_tables) all))

    pub kept_cells : (count : ℕ) → count ≡ own.size → All (HasCells own.me value count) (flat_map there kept)
    kept_cells count same =
        subst (λ (n : ℕ). All (HasCells own.me value n) (flat_map there kept)) (sym same)
        (λ k d lt. lies_cells (get_or (flat_map there kept) k d) (kept_lies own place kept keeper k d lt))
