-- The separators of a pseudotree name no variable twice, and each cell of a table over one stands at some values.
use Rattle.std.proofs.Common.{◌≡◌, ℕ, suc, ◌<◌, Bool, true, false, ◌||◌, eqb, List, [], ◌∷◌, length, map, get_or, refl, sym, ap, subst, ◌∙◌, arith}
use Rattle.std.specs.List.{filter}
use Rattle.std.proofs.lemmas.Bool.{cond_both, eqb-true, false_from_ne_true, true≢false}
use Rattle.std.proofs.lemmas.List.{get_or_default, length-take-le}
use Rattle.std.proofs.lemmas.List.Folds.{Any-from_list_any}
use Rattle.dcop_base.specs.Table.{CostTable, AreWithin, product, has, has_repeat, cell_place}
use Rattle.dcop_base.specs.Problem.{Dcop}
use Rattle.dcop_base.specs.Whole.{IsProblem}
use Rattle.dcop_base.specs.Values.{with_own}
use Rattle.pseudotree.specs.Tree.{path_of, IsTree}
use Rattle.pseudotree.specs.Pseudotree.{IsPseudotree, touches, separator_of}
use Rattle.pseudotree.specs.Place.{sizes_of}
use Rattle.pseudotree.proofs.TreeLaws.{ancestor}
use Rattle.pseudotree.proofs.NestLaws.{has_filter}
use Rattle.dcop_optimum.specs.Subtree.{AreValuesAbove}
use Rattle.dcop_optimum.proofs.OwnerLaws.{map_same}
use Rattle.dcop_optimum.proofs.JoinLaws.{size_some, own_here, own_else, above_in_problem}
use Rattle.minimised_problem.specs.Cells.{values_of_cell}
use Rattle.minimised_problem.proofs.CellLaws.{place_of_values}

or_none : (a b : Bool) → a ≡ false → b ≡ false → (a || b) ≡ false
or_none false false x y = refl
or_none true b x y = absurd (cc)
or_none false true x y = absurd (cc)

or_parts : (a b : Bool) → (a || b) ≡ false → (a ≡ false) × (b ≡ false)
or_parts false false h = (refl, refl)
or_parts true b h = absurd (cc)
or_parts false true h = absurd (cc)

-- in a list whose elements differ from place to place none stands twice
none_twice : (xs : List ℕ) → ((j k d : ℕ) → j < k → k < length xs → get_or xs j d ≡ get_or xs k d → ⊥) → has_repeat xs ≡ false
none_twice [] apart = refl
none_twice (x ∷ xs) apart =
    or_none (has xs x) (has_repeat xs)
    (false_from_ne_true (has xs x) (λ h.
    let some = Any-from_list_any (λ y. eqb y x) xs h in
    apart 0 (suc some.0) some.1 (omega arith) (omega (arith, some.2)) (sym (some.3 ∙ eqb-true some.1 x some.4))))
    (none_twice xs (λ j k d before inside. apart (suc j) (suc k) d (omega (arith, before)) (omega (arith, inside))))

-- no variable stands in a path twice
path_apart : (paths : List (List ℕ)) → IsTree paths → (v : ℕ) → has_repeat (path_of paths v) ≡ false
path_apart paths tree v =
    none_twice (path_of paths v) (λ j k d before inside same.
    let depth : (i : ℕ) → i < length (path_of paths v) → length (path_of paths (get_or (path_of paths v) i d)) ≡ i = λ i lt.
    ap (λ (x : ℕ). length (path_of paths x)) (get_or_default (path_of paths v) i d 0 lt) ∙ ap length (ancestor paths tree v i lt).1 ∙ length-take-le i (path_of paths v) (omega arith) in
    let one = depth j (omega (arith, before, inside)) in
    let other = depth k inside in
    let e : length (path_of paths (get_or (path_of paths v) j d)) ≡ length (path_of paths (get_or (path_of paths v) k d)) = ap (λ (x : ℕ). length (path_of paths x)) same in
    omega (arith, before, one, other, e))

filter_apart : (test : ℕ → Bool) (xs : List ℕ) → has_repeat xs ≡ false → has_repeat (filter test xs) ≡ false
filter_apart test [] apart = refl
filter_apart test (x ∷ xs) apart =
    let parts = or_parts (has xs x) (has_repeat xs) apart in
    let rest = filter_apart test xs parts.1 in
    let fresh : has (filter test xs) x ≡ false =
    false_from_ne_true (has (filter test xs) x) (λ h. true≢false (sym (has_filter test xs x h).0 ∙ parts.0)) in
    cond_both (test x) (x ∷ filter test xs) (filter test xs) (λ ys. has_repeat ys ≡ false)
    (λ passes. or_none (has (filter test xs) x) (has_repeat (filter test xs)) fresh rest)
    (λ fails. rest)

pub separator_apart : (p : Dcop) (paths : List (List ℕ)) → IsTree paths → (i : ℕ) → has_repeat (separator_of p paths i) ≡ false
separator_apart p paths tree i = filter_apart (touches p paths i) (path_of paths i) (path_apart paths tree i)

-- values below the sizes at which a cell stands
values_for : (p : Dcop) (scope ds : List ℕ) → has_repeat scope ≡ false → AreWithin (sizes_of p scope) ds
    → (value : ℕ → ℕ) × ((v : ℕ) → 0 < get_or p.sizes v 0 → value v < get_or p.sizes v 0) × (map value scope ≡ ds)
values_for p [] [] apart within = ((λ v. 0), (λ v some. some), refl)
values_for p [] (d ∷ ds) apart within = absurd within
values_for p (u ∷ us) [] apart within = absurd within
values_for p (u ∷ us) (d ∷ ds) apart within =
    let parts = or_parts (has us u) (has_repeat us) apart in
    let rest = values_for p us ds parts.1 within.1 in
    let value : ℕ → ℕ = with_own u d rest.0 in
    let here : value u ≡ d = own_here u d rest.0 u refl in
    let later : map value us ≡ map rest.0 us = map_same value rest.0 us (λ v h.
    own_else u d rest.0 v (λ (e : v ≡ u). true≢false (sym (subst (λ (x : ℕ). has us x ≡ true) e h) ∙ parts.0))) in
    let tail : map value us ≡ ds = later ∙ rest.2 in (
      value,
      (λ v some. cond_both (eqb v u) d (rest.0 v) (λ x. x < get_or p.sizes v 0)
          (λ same. subst (λ (x : ℕ). d < get_or p.sizes x 0) (sym (eqb-true v u same)) within.0)
          (λ other. rest.1 v some)),
      cc,
    )

-- values of all that stands above a variable, at which its table has the cell of this place
pub values_at : (p : Dcop) (paths : List (List ℕ)) → IsProblem p → IsPseudotree p paths → (i : ℕ) (t : CostTable) (k : ℕ) → t.scope ≡ separator_of p paths i → t.sizes ≡ sizes_of p t.scope → k < product t.sizes
    → (value : ℕ → ℕ) × AreValuesAbove p paths i value × (cell_place t.sizes (map value t.scope) ≡ k)
values_at p paths problem pseudo i t k scope sizes lt =
    let place = place_of_values t.sizes k lt in
    let apart : has_repeat t.scope ≡ false = ap has_repeat scope ∙ separator_apart p paths pseudo.tree i in
    let some = values_for p t.scope (values_of_cell t.sizes k) apart (subst (λ (ss : List ℕ). AreWithin ss (values_of_cell t.sizes k)) sizes place.0) in (
      some.0,
      (λ v above. some.1 v (size_some p problem v (above_in_problem p paths problem pseudo v i above))),
      ap (cell_place t.sizes) some.2 ∙ place.1,
    )
