-- What a certificate of tables shows.
use Rattle.std.proofs.Common.{◌≡◌, ℕ, zero, suc, ◌+◌, ◌<◌, ◌≤◌, Bool, true, ◌||◌, cond, eqb, List, [], ◌∷◌, length, map, get_or, refl, sym, ap, subst, ◌∙◌, inl, inr, arith, All}
use Rattle.std.specs.List.{sum_by, filter, list_all}
use Rattle.std.proofs.lemmas.Bool.{cases_Bool, cases_eq, cond-true, cond-false, and_parts, and_from, or_cases, or_left, or_right, eqb-true, eq-eqb, ne_eqb, false_from_ne_true}
use Rattle.std.proofs.lemmas.List.FromFn.{get_or-map-range_with_len}
use Rattle.std.proofs.lemmas.List.Elements.{All-head, All-tail}
use Rattle.dcop_base.specs.Table.{CostTable, has, AreWithin, cell_place}
use Rattle.dcop_base.specs.Problem.{Dcop, IsAssignment, cost}
use Rattle.dcop_base.specs.Whole.{IsProblem}
use Rattle.pseudotree.specs.Tree.{path_of, children_of, is_variable}
use Rattle.pseudotree.specs.Pseudotree.{IsPseudotree, is_within, touches, separator_of}
use Rattle.pseudotree.specs.Place.{sizes_of}
use Rattle.pseudotree.specs.Owner.{owner_of}
use Rattle.pseudotree.proofs.CheckLaws.{within_tree}
use Rattle.pseudotree.proofs.TreeLaws.{longer}
use Rattle.pseudotree.proofs.NestLaws.{separators_nest}
use Rattle.dcop_base.specs.Values.{cell_with, cost_with, with_own}
use Rattle.dcop_optimum.specs.Subtree.{own_tables_of, subtree_tables_of}
use Rattle.dcop_optimum.specs.Certificate.{value_by, util_of, is_on_path, tables_on_path, AreLowerTables, TablesOnPathsAreOwn, LowerTablesBoundOptima, CertificatesShowOptima}
use Rattle.dcop_optimum.proofs.SumLaws.{sum_same, sum_le}
use Rattle.dcop_optimum.proofs.LineLaws.{within_cases, within_self, not_both, path_short}
use Rattle.dcop_optimum.proofs.OwnerLaws.{IsOwned, all_owned, cell_same, own_reads_near, cost_split}
use Rattle.dcop_optimum.proofs.DecompositionLaws.{root_cost}
use Rattle.dcop_optimum.proofs.JoinLaws.{value_below, above_in_problem, own_here, own_else, children_parent, separator_above}

-- the values of a scope give each of its variables its value
value_by-map : (scope : List ℕ) (value : ℕ → ℕ) (v : ℕ) → has scope v ≡ true → value_by scope (map value scope) v ≡ value v
value_by-map [] value v h = absurd (cc)
value_by-map (u ∷ us) value v h =
    elim (cases_Bool (eqb u v)) [
      | inl same ↦ cond-true (eqb u v) (value u) (value_by us (map value us) v) same ∙ ap value (eqb-true u v same)
      | inr other ↦
          let later : has us v ≡ true = sym (ap (λ (b : Bool). b || has us v) other) ∙ h in
          cond-false (eqb u v) (value u) (value_by us (map value us) v) other ∙ value_by-map us value v later
    ]

-- values that are each below a size are within the sizes of a scope
within_scope : (p : Dcop) (scope : List ℕ) (value : ℕ → ℕ) → ((v : ℕ) → has scope v ≡ true → value v < get_or p.sizes v 0) → AreWithin (sizes_of p scope) (map value scope)
within_scope p [] value below = tt
within_scope p (u ∷ us) value below =
    (below u (or_left (eqb u u) (has us u) (eq-eqb u u refl)), within_scope p us value (λ v h. below v (or_right (eqb u v) (has us v) h)))

-- filters by tests that agree on each element
filter_alike : (q r : CostTable → Bool) (ts : List CostTable) → All (λ t. q t ≡ r t) ts → filter q ts ≡ filter r ts
filter_alike q r [] same = refl
filter_alike q r (t ∷ ts) same =
    ap (λ (b : Bool). cond b (t ∷ filter q ts) (filter q ts)) (All-head (λ t. q t ≡ r t) t ts same)
    ∙ ap (λ (us : List CostTable). cond (r t) (t ∷ us) us) (filter_alike q r ts (All-tail (λ t. q t ≡ r t) t ts same))

-- all of a scope pass where each that it names does, and back
all_from : (q : ℕ → Bool) (xs : List ℕ) → ((v : ℕ) → has xs v ≡ true → q v ≡ true) → list_all q xs ≡ true
all_from q [] h = refl
all_from q (x ∷ xs) h = and_from (q x) (list_all q xs) (h x (or_left (eqb x x) (has xs x) (eq-eqb x x refl))) (all_from q xs (λ v k. h v (or_right (eqb x v) (has xs v) k)))

all_at : (q : ℕ → Bool) (xs : List ℕ) (v : ℕ) → list_all q xs ≡ true → has xs v ≡ true → q v ≡ true
all_at q [] v h k = absurd (cc)
all_at q (x ∷ xs) v h k =
    let parts = and_parts (q x) (list_all q xs) h in
    elim (or_cases (eqb x v) (has xs v) k) [
      | inl same ↦ ap q (sym (eqb-true x v same)) ∙ parts.0
      | inr later ↦ all_at q xs v parts.1 later
    ]

pub tables_on_paths_are_own : TablesOnPathsAreOwn
tables_on_paths_are_own p paths problem pseudo i =
    filter_alike (is_on_path paths i) (λ t. is_variable i (owner_of paths t.scope)) p.tables (λ k d lt.
    let t : CostTable = get_or p.tables k d in
    let owned : IsOwned p paths t = all_owned p paths problem pseudo k d lt in
    let is : is_variable i (owner_of paths t.scope) ≡ eqb owned.owner i = ap (is_variable i) owned.owns in
    elim (cases_eq owned.owner i) [
      | inl same ↦
          and_from (has t.scope i) (list_all (λ v. is_within paths v i) t.scope)
          (subst (λ (x : ℕ). has t.scope x ≡ true) same owned.named)
          (all_from (λ v. is_within paths v i) t.scope (λ v h. subst (λ (x : ℕ). is_within paths v x ≡ true) same (owned.others v h)))
          ∙ sym (is ∙ eq-eqb owned.owner i same)
      | inr differs ↦
          false_from_ne_true (is_on_path paths i t) (λ (h : is_on_path paths i t ≡ true).
          let parts = and_parts (has t.scope i) (list_all (λ v. is_within paths v i) t.scope) h in
          let up = all_at (λ v. is_within paths v i) t.scope owned.owner parts.1 owned.named in
          elim (within_cases paths owned.owner i up) [
            | inl same ↦ differs (sym same)
            | inr above ↦ not_both paths pseudo.tree i owned.owner above (owned.others i parts.0)
          ])
          ∙ sym (is ∙ ne_eqb owned.owner i differs)
    ])

module _ (p : Dcop) (paths scopes cells : List (List ℕ)) (problem : IsProblem p) (pseudo : IsPseudotree p paths) (tables : AreLowerTables p paths scopes cells) where
  -- the scope of a table is the separator
  scope_is : (i : ℕ) → i < length paths → (util_of p scopes cells i).scope ≡ separator_of p paths i
  scope_is i lt = ap (λ (xs : List (List ℕ)). get_or xs i []) tables.scopes_are ∙ get_or-map-range_with_len (separator_of p paths) 0 (length paths) i i [] lt (omega arith)

  -- at an assignment, a cell is at most the own tables' cost and the children's cells
  cell_step : (i : ℕ) → i < length paths → (xs : List ℕ) → IsAssignment p xs
      → cell_with (util_of p scopes cells i) (λ v. get_or xs v 0)
      ≤ cost_with (own_tables_of p paths i) (λ v. get_or xs v 0) + sum_by (λ c. cell_with (util_of p scopes cells c) (λ v. get_or xs v 0)) (children_of paths i)
  cell_step i lt xs is =
      let value : ℕ → ℕ = λ (v : ℕ). get_or xs v 0 in
      let scope : List ℕ = (util_of p scopes cells i).scope in
      let count = pseudo.sized in
      let in_problem : i < length p.sizes = omega arith in
      let named : (v : ℕ) → has scope v ≡ true → has (separator_of p paths i) v ≡ true = λ v h. subst (λ (s : List ℕ). has s v ≡ true) (scope_is i lt) h in
      let within : AreWithin (sizes_of p scope) (map value scope) =
      within_scope p scope value (λ v h. value_below p xs is v (above_in_problem p paths problem pseudo v i (separator_above p paths problem pseudo i v (named v h)))) in
      let lower = tables.cells_lower i lt (map value scope) (get_or xs i 0) within (value_below p xs is i in_problem) in
      let here : ℕ → ℕ = with_own i (get_or xs i 0) (value_by scope (map value scope)) in
      let at : here i ≡ value i = own_here i (get_or xs i 0) (value_by scope (map value scope)) i refl in
      let above : (v : ℕ) → has (separator_of p paths i) v ≡ true → here v ≡ value v = λ v h.
      own_else i (get_or xs i 0) (value_by scope (map value scope)) v
      (λ (e : v ≡ i). not_both paths pseudo.tree i v (separator_above p paths problem pseudo i v h) (subst (λ (x : ℕ). is_within paths i x ≡ true) (sym e) (within_self paths i)))
      ∙ value_by-map scope value v (subst (λ (s : List ℕ). has s v ≡ true) (sym (scope_is i lt)) h) in
      let own : cost_with (tables_on_path p paths i) here ≡ cost_with (own_tables_of p paths i) value =
      ap (λ (ts : List CostTable). cost_with ts here) (tables_on_paths_are_own p paths problem pseudo i)
      ∙ own_reads_near p paths problem pseudo i here value at above in
      let children = sum_same (λ c. cell_with (util_of p scopes cells c) here) (λ c. cell_with (util_of p scopes cells c) value) (children_of paths i) (λ k d l.
      let c : ℕ = get_or (children_of paths i) k d in
      let parent = children_parent paths i k d l in
      cell_same (util_of p scopes cells c) here value (λ v h.
      let in_child : has (separator_of p paths c) v ≡ true = subst (λ (s : List ℕ). has s v ≡ true) (scope_is c (within_tree paths c i parent)) h in
      elim (separators_nest p paths pseudo.tree c i parent v in_child) [
        | inl same ↦ subst (λ (x : ℕ). here x ≡ value x) (sym same) at
        | inr upper ↦ above v upper
      ])) in
      omega (arith, lower, own, children)

  -- so it is at most what the subtree costs; by how far the variable is from the deepest level
  cell_to : (n i : ℕ) → length paths ≤ length (path_of paths i) + n → i < length paths → (xs : List ℕ) → IsAssignment p xs
      → cell_with (util_of p scopes cells i) (λ v. get_or xs v 0) ≤ cost_with (subtree_tables_of p paths i) (λ v. get_or xs v 0)
  cell_to zero i deep lt xs is = absurd (omega (arith, deep, path_short paths pseudo.tree i lt))
  cell_to (suc n) i deep lt xs is =
      let step = cell_step i lt xs is in
      let split = cost_split p paths problem pseudo i (λ v. get_or xs v 0) in
      let children = sum_le (λ c. cell_with (util_of p scopes cells c) (λ v. get_or xs v 0)) (λ c. cost_with (subtree_tables_of p paths c) (λ v. get_or xs v 0)) (children_of paths i) (λ k d l.
      let c : ℕ = get_or (children_of paths i) k d in
      let parent = children_parent paths i k d l in
      let long = longer paths pseudo.tree c i parent in
      cell_to n c (omega (arith, deep, long)) (within_tree paths c i parent) xs is) in
      omega (arith, step, split, children)

  pub cell_below : (i : ℕ) → i < length paths → (xs : List ℕ) → IsAssignment p xs
      → cell_with (util_of p scopes cells i) (λ v. get_or xs v 0) ≤ cost_with (subtree_tables_of p paths i) (λ v. get_or xs v 0)
  cell_below i lt xs is = cell_to (length paths) i (omega arith) lt xs is

pub lower_tables_bound_optima : LowerTablesBoundOptima
lower_tables_bound_optima p paths scopes cells problem pseudo tables i value m lt best =
    let xs : List ℕ = best.attained.0 in
    let below = cell_below p paths scopes cells problem pseudo tables i lt xs best.attained.1 in
    let same = cell_same (util_of p scopes cells i) value (λ v. get_or xs v 0) (λ v h.
    sym (best.attained.2 v (separator_above p paths problem pseudo i v (subst (λ (s : List ℕ). has s v ≡ true) (scope_is p paths scopes cells problem pseudo tables i lt) h)))) in
    omega (arith, below, same, best.attained.3)

pub certificates_show_optima : CertificatesShowOptima
certificates_show_optima p parents scopes cells values problem is certificate = record {
  attained = (values, is, refl);
  lowest = λ xs within.
      let paths : List (List ℕ) = certificate.paths in
      let pseudo = certificate.pseudotree in
      let root = pseudo.tree.some_root in
      let below = cell_below p paths scopes cells problem pseudo certificate.tables root.0 root.1.0 xs within in
      let whole = root_cost p paths problem pseudo root.0 root.1 xs in
      let scope_none : (util_of p scopes cells root.0).scope ≡ [] =
      scope_is p paths scopes cells problem pseudo certificate.tables root.0 root.1.0 ∙ ap (filter (touches p paths root.0)) root.1.1 in
      let cell : cell_with (util_of p scopes cells root.0) (λ v. get_or xs v 0) ≡ cost p values =
      ap (λ (scope : List ℕ). get_or (get_or cells root.0 []) (cell_place (sizes_of p scope) (map (λ v. get_or xs v 0) scope)) 0) scope_none
      ∙ ap (λ (cs : List ℕ). get_or cs 0 0) (certificate.root_cost root.0 root.1) in
      omega (arith, below, whole, cell);
}
