-- Sums of tables, added one by one to a joined table.
use Rattle.std.proofs.Common.{◌≡◌, ℕ, zero, suc, ◌+◌, ◌<◌, Bool, true, false, cond, List, [], ◌∷◌, ◌++◌, map, length, take, get_or, Option, Some, None, refl, sym, ap, subst, ◌∙◌, arith}
use Rattle.std.specs.List.{All, filter, flat_map}
use Rattle.std.proofs.lemmas.List.{take_more, append-nil}
use Rattle.std.proofs.lemmas.List.Elements.{filter_more, All-head, All-tail}
use Rattle.std.proofs.lemmas.List.Sums.{sum_by-append, sum_by-cons}
use Rattle.std.proofs.lemmas.Grind.{flat_map-append}
use Rattle.dcop_base.specs.Table.{CostTable, AreWithin}
use Rattle.dcop_base.specs.Values.{cell_with, cost_with}
use Rattle.adopt_context.specs.Bounds.{cap}
use Rattle.protocol_steps.specs.Dpop.{there}
use Rattle.util_join.specs.Join.{IsSum, LiesIn}
use Rattle.util_kernel.specs.Lanes.{plus}
use Rattle.cost_table.specs.Cells.{cell_of}
use Rattle.dpop_agent.specs.Joint.{IsCostOf, HasGained}

-- the same costs
pub same_costs : (over sizes : List ℕ) (f g : (ℕ → ℕ) → ℕ) (t : CostTable) → IsCostOf over sizes f t → ((value : ℕ → ℕ) → f value ≡ g value) → IsCostOf over sizes g t
same_costs over sizes f g t is same = record {
  same_scope = is.same_scope;
  same_sizes = is.same_sizes;
  cells = λ value within. is.cells value within ∙ ap cap (same value);
}

-- one more table
sum_more : (over sizes : List ℕ) (f : (ℕ → ℕ) → ℕ) (old t new : CostTable) → IsCostOf over sizes f old → IsSum old t new → IsCostOf over sizes (λ value. f value + cell_with t value) new
sum_more over sizes f old t new is sum = record {
  same_scope = sum.same_scope ∙ is.same_scope;
  same_sizes = sum.same_sizes ∙ is.same_sizes;
  cells = λ value within.
      let inside : AreWithin old.sizes (map value old.scope) =
      subst (λ (ss : List ℕ). AreWithin ss (map value old.scope)) (sym is.same_sizes) (subst (λ (vs : List ℕ). AreWithin sizes (map value vs)) (sym is.same_scope) within) in
      let at : cell_with new value ≡ plus (cell_with old value) (cell_with t value) = ap (λ (vs : List ℕ). cell_of new (map value vs)) sum.same_scope ∙ sum.cells value inside in
      let here = is.cells value within in
      omega (arith, at, here);
}

pub cost_more : (ts : List CostTable) (t : CostTable) (value : ℕ → ℕ) → cost_with (ts ++ (t ∷ [])) value ≡ cost_with ts value + cell_with t value
cost_more ts t value =
    let both = sum_by-append (λ (u : CostTable). cell_with u value) ts (t ∷ []) in
    let one : cost_with (t ∷ []) value ≡ cell_with t value + 0 = sum_by-cons (λ (u : CostTable). cell_with u value) t [] in
    omega (arith, both, one)

-- a table that gained nothing
pub gained_none : (t : CostTable) → HasGained [] t t
gained_none t = record {
  same_scope = refl;
  same_sizes = refl;
  costs = λ f is. same_costs t.scope t.sizes f (λ value. f value + 0) t is (λ value. omega arith);
}

-- one more table is added
pub gained_more : (ts : List CostTable) (old now t new : CostTable) → HasGained ts old now → IsSum now t new → HasGained (ts ++ (t ∷ [])) old new
gained_more ts old now t new gained sum = record {
  same_scope = sum.same_scope ∙ gained.same_scope;
  same_sizes = sum.same_sizes ∙ gained.same_sizes;
  costs = λ f is.
      let more = sum_more old.scope old.sizes (λ value. f value + cost_with ts value) now t new (gained.costs f is) sum in
      same_costs old.scope old.sizes (λ value. (f value + cost_with ts value) + cell_with t value) (λ value. f value + cost_with (ts ++ (t ∷ [])) value) new more
      (λ value. let e = cost_more ts t value in omega (arith, e));
}

-- the tables that pass a test, with the next one where it does
pub filter_next : (p : CostTable → Bool) (ts : List CostTable) (k : ℕ) (t : CostTable) (b : Bool) → k < length ts → t ≡ get_or ts k t → p t ≡ b → filter p (take (k + 1) ts) ≡ filter p (take k ts) ++ cond b (t ∷ []) []
filter_next p ts k t b lt is test =
    filter_more p ts k t lt
    ∙ ap (λ (u : CostTable). filter p (take k ts) ++ cond (p u) (u ∷ []) []) (sym is)
    ∙ ap (λ (c : Bool). filter p (take k ts) ++ cond c (t ∷ []) []) test

-- the next table passes a test and is added, or does not pass
module _ (p : CostTable → Bool) (ts : List CostTable) (k : ℕ) (t old now : CostTable) (lt : k < length ts) (is : t ≡ get_or ts k t) (before : HasGained (filter p (take k ts)) old now) where
  pub passes : (new : CostTable) → p t ≡ true → IsSum now t new → HasGained (filter p (take (k + 1) ts)) old new
  passes new fits sum =
      subst (λ (us : List CostTable). HasGained us old new)
      (sym (filter_next p ts k t true lt is fits))
      (gained_more (filter p (take k ts)) old now t new before sum)

  pub fails : p t ≡ false → HasGained (filter p (take (k + 1) ts)) old now
  fails differs =
      subst (λ (us : List CostTable). HasGained us old now)
      (sym (filter_next p ts k t false lt is differs ∙ append-nil (filter p (take k ts))))
      before

pub there_more : (kept : List (Option CostTable)) (k : ℕ) (e : Option CostTable) → k < length kept → e ≡ get_or kept k e → flat_map there (take (k + 1) kept) ≡ flat_map there (take k kept) ++ there e
there_more kept k e lt is =
    ap (λ (es : List (Option CostTable)). flat_map there es) (take_more kept k e lt)
    ∙ flat_map-append there (take k kept) (get_or kept k e ∷ [])
    ∙ ap (λ (ts : List CostTable). flat_map there (take k kept) ++ ts) (append-nil (there (get_or kept k e)) ∙ ap there (sym is))

-- a table that is kept is added, or none is kept
pub kept_more : (kept : List (Option CostTable)) (k : ℕ) (e : Option CostTable) (t old now new : CostTable) → k < length kept → e ≡ get_or kept k e → e ≡ Some t → HasGained (flat_map there (take k kept)) old now → IsSum now t new → HasGained (flat_map there (take (k + 1) kept)) old new
kept_more kept k e t old now new lt is some before sum =
    subst (λ (us : List CostTable). HasGained us old new)
    (sym (there_more kept k e lt is ∙ ap (λ (o : Option CostTable). flat_map there (take k kept) ++ there o) some))
    (gained_more (flat_map there (take k kept)) old now t new before sum)

pub kept_none : (kept : List (Option CostTable)) (k : ℕ) (e : Option CostTable) (old now : CostTable) → k < length kept → e ≡ get_or kept k e → e ≡ None → HasGained (flat_map there (take k kept)) old now → HasGained (flat_map there (take (k + 1) kept)) old now
kept_none kept k e old now lt is none before =
    subst (λ (us : List CostTable). HasGained us old now)
    (sym (there_more kept k e lt is ∙ ap (λ (o : Option CostTable). flat_map there (take k kept) ++ there o) none ∙ append-nil (flat_map there (take k kept))))
    before

-- what may be added to the first table may be added to one that gained
pub lies_still : (ts : List CostTable) (old now t : CostTable) → HasGained ts old now → LiesIn old.scope old.sizes t → LiesIn now.scope now.sizes t
lies_still ts old now t gained lies =
    subst (λ (ss : List ℕ). LiesIn now.scope ss t) (sym gained.same_sizes) (subst (λ (vs : List ℕ). LiesIn vs old.sizes t) (sym gained.same_scope) lies)

-- a kept table is one of all kept ones
pub kept_at : (P : CostTable → Type 0) (kept : List (Option CostTable)) (k : ℕ) (e : Option CostTable) (t : CostTable) → k < length kept → e ≡ get_or kept k e → e ≡ Some t → All P (flat_map there kept) → P t
kept_at P [] k e t lt is some all = absurd (omega (arith, lt))
kept_at P (o ∷ os) zero e t lt is some all = All-head P t (flat_map there os) (subst (λ (x : Option CostTable). All P (there x ++ flat_map there os)) (sym is ∙ some) all)
kept_at P (None ∷ os) (suc k) e t lt is some all = kept_at P os k e t (omega (arith, lt)) is some all
kept_at P (Some o ∷ os) (suc k) e t lt is some all = kept_at P os k e t (omega (arith, lt)) is some (All-tail P o (flat_map there os) all)

-- what holds of each table holds of the next one
pub next_has : (P : CostTable → Type 0) (ts : List CostTable) (k : ℕ) (t : CostTable) → k < length ts → t ≡ get_or ts k t → All P ts → P t
next_has P ts k t lt is all = subst P (sym is) (all k t lt)

at_itself : (over sizes : List ℕ) (f : (ℕ → ℕ) → ℕ) (t : CostTable) → IsCostOf over sizes f t → IsCostOf t.scope t.sizes f t
at_itself over sizes f t is =
    subst (λ (ss : List ℕ). IsCostOf t.scope ss f t) (sym is.same_sizes) (subst (λ (vs : List ℕ). IsCostOf vs sizes f t) (sym is.same_scope) is)

gains : (over sizes : List ℕ) (f : (ℕ → ℕ) → ℕ) (ts : List CostTable) (old new : CostTable) → IsCostOf over sizes f old → HasGained ts old new → IsCostOf over sizes (λ value. f value + cost_with ts value) new
gains over sizes f ts old new is gained =
    subst (λ (ss : List ℕ). IsCostOf over ss (λ value. f value + cost_with ts value) new) is.same_sizes
    (subst (λ (vs : List ℕ). IsCostOf vs old.sizes (λ value. f value + cost_with ts value) new) is.same_scope (gained.costs f (at_itself over sizes f old is)))

-- what is made of zeros by adding tables, and then other ones
pub both_added : (over sizes : List ℕ) (ts us : List CostTable) (none one two : CostTable) → IsCostOf over sizes (λ value. 0) none → HasGained ts none one → HasGained us one two → IsCostOf over sizes (λ value. cost_with ts value + cost_with us value) two
both_added over sizes ts us none one two is first second =
    same_costs over sizes (λ value. (0 + cost_with ts value) + cost_with us value) (λ value. cost_with ts value + cost_with us value) two
    (gains over sizes (λ value. 0 + cost_with ts value) us one two (gains over sizes (λ value. 0) ts none one is first) second)
    (λ value. omega arith)
