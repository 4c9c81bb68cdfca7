-- The root of a tree by its parents, and what the separators are apart from.
use Rattle.std.proofs.Common.{◌≡◌, ℕ, ◌-◌, ◌<◌, ◌≤◌, Bool, true, not, ltb, List, [], ◌∷◌, length, get_or, Option, None, Some, refl, sym, ap, subst, ◌∙◌, inl, inr, arith, All}
use Rattle.std.specs.List.{position, position_or_len, slice_get}
use Rattle.std.specs.Option.{is_none}
use Rattle.std.specs.Str.{bytes_eq}
use Rattle.std.proofs.lemmas.Bool.{cases_Bool, cases_lt, ltb-false, cond-true, cond-false, both_ways, false_from_ne_true}
use Rattle.std.proofs.lemmas.Option.{none-some}
use Rattle.std.proofs.lemmas.List.Sums.{fails_before_first, passes_at_first, prefix_len-le-length}
use Rattle.std.proofs.lemmas.List.FromFn.{get_or-map-range_with_len, length-map-range_with_len}
use Rattle.std.proofs.lemmas.Slice.Eq.{bytes_eq-Decides}
use Rattle.dcop_base.specs.Table.{has}
use Rattle.dcop_base.specs.Problem.{Dcop}
use Rattle.dcop_base.proofs.TableLaws.{product-pos}
use Rattle.pseudotree.specs.Tree.{path_of, parent_of, IsRoot, IsTree}
use Rattle.pseudotree.specs.Pseudotree.{IsPseudotree, separator_of, touches}
use Rattle.pseudotree.specs.Fault.{parents_of}
use Rattle.pseudotree.proofs.TreeLaws.{last_there}
use Rattle.pseudotree.proofs.NestLaws.{has_filter}
use Rattle.dcop_optimum.proofs.LineLaws.{not_both, within_self}
use Rattle.dcop_optimum.proofs.PlaceLaws.{zeros_within}
use Rattle.certificate_text.specs.declared.certificate.Util.{Util}
use Rattle.certificate_text.specs.declared.verdict.Differs.TheVariants.{Scope}
use Rattle.certificate_text.specs.Fits.{FitsUtil}
use Rattle.minimised_problem.specs.Told.{told, variables}
use Rattle.certificate_check.specs.Odometer.{NamesNoneItself}
use Rattle.certificate_check.specs.Differences.{first_of, scope_difference}
use Rattle.certificate_check.proofs.FirstLaws.{none_at}
use Rattle.certificate_check.proofs.CellLaws.{sizes_at, scope_within}
use Rattle.dcop_base.specs.Table.{values_at}

-- a list without a last element has none
pub path_none : (xs : List ℕ) → slice_get xs (length xs - 1) ≡ None → xs ≡ []
path_none [] h = refl
path_none (x ∷ xs) h = absurd (none-some (get_or (x ∷ xs) (length (x ∷ xs) - 1) 0) (sym h ∙ last_there (x ∷ xs) (omega arith)))

pub parent_none : (paths : List (List ℕ)) (v : ℕ) → path_of paths v ≡ [] → parent_of paths v ≡ None
parent_none paths v e = ap (λ (xs : List ℕ). slice_get xs (length xs - 1)) e

pub is_none_true : (o : Option ℕ) → is_none o ≡ true → o ≡ None
is_none_true None h = refl
is_none_true (Some x) h = absurd (cc)

-- the parents of a tree, one by one
pub parent_read : (paths : List (List ℕ)) (v : ℕ) (d : Option ℕ) → v < length paths → get_or (parents_of paths) v d ≡ parent_of paths v
parent_read paths v d lt = get_or-map-range_with_len (parent_of paths) 0 (length paths) v v d lt (omega arith)

-- the first variable without a parent is the root
pub root_is : (paths : List (List ℕ)) → IsTree paths → IsRoot paths (position_or_len is_none (parents_of paths))
root_is paths tree =
    let root : ℕ = tree.some_root.0 in
    let parents : List (Option ℕ) = parents_of paths in
    let count : length parents ≡ length paths = length-map-range_with_len (parent_of paths) 0 (length paths) in
    let none : get_or parents root None ≡ None = parent_read paths root None tree.some_root.1.0 ∙ parent_none paths root tree.some_root.1.1 in
    let before : (position_or_len is_none parents < length parents) = elim (cases_lt (position_or_len is_none parents) (length parents)) [
      | inl lt ↦ lt
      | inr le ↦ absurd (both_ways (is_none (get_or parents root None)) (fails_before_first is_none parents root None (let k = tree.some_root.1.0 in omega arith)) (ap is_none none))
    ] in
    let lt : position_or_len is_none parents < length paths = omega arith in (
      lt,
      path_none (path_of paths (position_or_len is_none parents))
          (sym (parent_read paths (position_or_len is_none parents) None lt) ∙ is_none_true (get_or parents (position_or_len is_none parents) None) (passes_at_first is_none parents None before)),
    )

-- so it stands among the parents
pub root_below : (paths : List (List ℕ)) (parents : List (Option ℕ)) → IsTree paths → parents ≡ parents_of paths → position_or_len is_none parents < length parents
root_below paths parents tree is =
    let lt = (root_is paths tree).0 in
    let count = length-map-range_with_len (parent_of paths) 0 (length paths) in
    subst (λ (ps : List (Option ℕ)). position_or_len is_none ps < length ps) (sym is) (omega (arith, lt, count))

-- a scope that does not differ is the separator
pub scope_same : (p : Dcop) (paths : List (List ℕ)) (utils : List Util) (i : ℕ) → scope_difference p paths utils i ≡ None → (told utils i).scope ≡ separator_of p paths i
scope_same p paths utils i none =
    elim (cases_Bool (bytes_eq (told utils i).scope (separator_of p paths i))) [
      | inl same ↦ (bytes_eq-Decides (told utils i).scope (separator_of p paths i)).0 same
      | inr other ↦ absurd (none-some (Scope i) (sym none ∙ cond-false (bytes_eq (told utils i).scope (separator_of p paths i)) None (Some (Scope i)) other))
    ]

pub same_scope : (p : Dcop) (paths : List (List ℕ)) (utils : List Util) (i : ℕ) → (told utils i).scope ≡ separator_of p paths i → scope_difference p paths utils i ≡ None
same_scope p paths utils i e = cond-true (bytes_eq (told utils i).scope (separator_of p paths i)) None (Some (Scope i)) ((bytes_eq-Decides (told utils i).scope (separator_of p paths i)).1 e)

-- so no scope names its own variable
pub apart_from : (p : Dcop) (paths : List (List ℕ)) (utils : List Util) → IsPseudotree p paths → first_of (scope_difference p paths utils) (variables p) ≡ None → NamesNoneItself p utils
apart_from p paths utils pseudo none i lt =
    false_from_ne_true (has (told utils i).scope i) (λ h.
    let named : has (separator_of p paths i) i ≡ true =
    subst (λ (s : List ℕ). has s i ≡ true) (scope_same p paths utils i (none_at (scope_difference p paths utils) (length p.sizes) i none lt)) h in
    not_both paths pseudo.tree i i (has_filter (touches p paths i) (path_of paths i) i named).0 (within_self paths i))

-- a table that fits has a cell
pub some_cell : (sizes : List ℕ) (u : Util) → All (λ s. 1 ≤ s) sizes → FitsUtil sizes u → 1 ≤ length u.cells
some_cell sizes u positive fits =
    let one = product-pos (sizes_at sizes u.scope) (values_at u.scope _) (scope_within sizes _ u.scope (zeros_within sizes positive) fits.named.scope) in
    omega (arith, one, fits.many)

-- the place of the first that passes, where none does
pub none_passes : {X : Type 0} (p : X → Bool) (xs : List X) → position p xs ≡ None → position_or_len p xs ≡ length xs
none_passes p xs h =
    let most : position_or_len p xs ≤ length xs = prefix_len-le-length (λ x. not (p x)) xs in
    elim (cases_Bool (ltb (position_or_len p xs) (length xs))) [
      | inl before ↦ absurd (none-some (position_or_len p xs) (sym h ∙ cond-true (ltb (position_or_len p xs) (length xs)) (Some (position_or_len p xs)) None before))
      | inr behind ↦ let least = ltb-false (position_or_len p xs) (length xs) behind in omega arith
    ]
