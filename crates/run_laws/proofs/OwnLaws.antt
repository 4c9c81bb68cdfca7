-- What an ADOPT agent counts of its tables, against the tables that are its own in the tree.
use Rattle.std.proofs.Common.{◌≡◌, ℕ, ◌≤◌, Bool, true, false, cond, eqb, ◌==◌, ◌&&◌, ◌||◌, not, List, [], ◌∷◌, length, map, get_or, Option, Some, None, refl, sym, ap, subst, ◌∙◌, inl, inr, arith}
use Rattle.std.specs.Prelude.{is_some}
use Rattle.std.specs.List.{sum_by, filter, list_all, range_with_len}
use Rattle.std.proofs.lemmas.Bool.{cases_eq, cases_lt, cond-true, and_parts, and_from, or_cases, or_left, or_right, eqb-true, eq-eqb, ne_eqb, not_from_false, false≢true}
use Rattle.std.proofs.lemmas.List.{get_or_past}
use Rattle.dcop_base.specs.Table.{CostTable, has, cell_place, greatest}
use Rattle.dcop_base.specs.Problem.{Dcop, cost}
use Rattle.dcop_base.specs.Graph.{are_neighbours, neighbours, share_table, are_joined}
use Rattle.dcop_base.specs.Whole.{IsProblem}
use Rattle.dcop_base.specs.Values.{cell_with, cost_with, with_own}
use Rattle.dcop_base.specs.Limits.{amount_limit}
use Rattle.dcop_base.proofs.ProblemLaws.{cost-le-greatest_sum}
use Rattle.pseudotree.specs.Tree.{path_of, is_above}
use Rattle.pseudotree.specs.Pseudotree.{IsPseudotree, is_within}
use Rattle.pseudotree.proofs.SpreadLaws.{any_in_range}
use Rattle.pseudotree.proofs.NestLaws.{filter_has}
use Rattle.adopt_context.specs.Context.{Context, value_in, names_all, or_zero}
use Rattle.protocol_steps.specs.Values.{valued}
use Rattle.dcop_optimum.specs.Subtree.{own_tables_of, is_owner_within}
use Rattle.dcop_optimum.specs.Certificate.{is_on_path}
use Rattle.dcop_optimum.proofs.CertificateLaws.{tables_on_paths_are_own}
use Rattle.dcop_optimum.proofs.SumLaws.{sum_filter, sum_le}
use Rattle.dcop_optimum.proofs.TurnedTableLaws.{cells_below}
use Rattle.dcop_optimum.proofs.JoinLaws.{own_here, own_else}
use Rattle.dcop_optimum.proofs.OwnerLaws.{IsOwned, all_owned, cell_same}
use Rattle.pseudotree.specs.Owner.{owner_of}
use Rattle.run_laws.proofs.EncloseLaws.{below, most, GivenAbove}

-- a test of all numbers of a list, of one of them
pub list_all_at : (q : ℕ → Bool) (xs : List ℕ) (v : ℕ) → list_all q xs ≡ true → has xs v ≡ true → q v ≡ true
list_all_at q [] v all h = absurd (false≢true h)
list_all_at q (x ∷ xs) v all h =
    let parts = and_parts (q x) (list_all q xs) all in
    elim (or_cases (eqb x v) (has xs v) h) [
      | inl same ↦ subst (λ (y : ℕ). q y ≡ true) (eqb-true x v same) parts.0
      | inr later ↦ list_all_at q xs v parts.1 later
    ]

pub list_all_from : (q : ℕ → Bool) (xs : List ℕ) → ((v : ℕ) → has xs v ≡ true → q v ≡ true) → list_all q xs ≡ true
list_all_from q [] h = refl
list_all_from q (x ∷ xs) h =
    and_from (q x) (list_all q xs) (h x (or_left (eqb x x) (has xs x) (eq-eqb x x refl))) (list_all_from q xs (λ v there. h v (or_right (eqb x v) (has xs v) there)))

some_is : (o : Option ℕ) → is_some o ≡ true → o ≡ Some (or_zero o)
some_is None h = absurd (false≢true h)
some_is (Some x) h = refl

-- a number that is counted where two tests pass, against one that is counted where both of another pair do
counted : (a b c e : Bool) (x y : ℕ) → (a ≡ true → b ≡ true → ((c && e) ≡ true) × (x ≤ y)) → cond a (cond b x 0) 0 ≤ cond (c && e) y 0
counted true true c e x y h = let both = h refl refl in let le = both.1 in subst (λ (n : ℕ). x ≤ n) (sym (cond-true (c && e) y 0 both.0)) le
counted true false c e x y h = omega arith
counted false b c e x y h = omega arith

counted_back : (a b c e : Bool) (x y : ℕ) → (c ≡ true → e ≡ true → (a ≡ true) × (b ≡ true) × (y ≤ x)) → cond (c && e) y 0 ≤ cond a (cond b x 0) 0
counted_back a b true true x y h =
    let all = h refl refl in
    subst (λ (n : ℕ). y ≤ n) (sym (cond-true a (cond b x 0) 0 all.0 ∙ cond-true b x 0 all.1)) all.2
counted_back a b true false x y h = omega arith
counted_back a b false e x y h = omega arith

-- a cell is at most the greatest one of its table
cell_most : (t : CostTable) (value : ℕ → ℕ) → cell_with t value ≤ greatest t.cells
cell_most t value =
    let place : ℕ = cell_place t.sizes (map value t.scope) in
    elim (cases_lt place (length t.cells)) [
      | inl inside ↦ cells_below t.cells place 0 inside
      | inr past ↦ omega (arith, get_or_past t.cells place 0 past)
    ]

module _ (p : Dcop) (paths : List (List ℕ)) (problem : IsProblem p) (pseudo : IsPseudotree p paths) (i : ℕ) (known : Context) where
  -- whether a table counts for the agent of i
  abbrev pub counts_at : CostTable → Bool
  counts_at t = list_all (λ u. u == i || (has (path_of paths i) u && is_some (value_in known u))) t.scope

  -- what the agent of i counts, without the cap
  abbrev pub counted_cost : ℕ → ℕ
  counted_cost d = cost_with (filter counts_at (filter (λ t. has t.scope i) p.tables)) (with_own i d (valued known))

  abbrev own_at : List ℕ → ℕ
  own_at values = cost_with (own_tables_of p paths i) (λ v. get_or values v 0)

  counted_sum : (d : ℕ) → counted_cost d ≡ sum_by (λ t. cond (has t.scope i) (cond (counts_at t) (cell_with t (with_own i d (valued known))) 0) 0) p.tables
  counted_sum d =
      sum_filter (λ t. cell_with t (with_own i d (valued known))) counts_at (filter (λ t. has t.scope i) p.tables)
      ∙ sum_filter (λ t. cond (counts_at t) (cell_with t (with_own i d (valued known))) 0) (λ t. has t.scope i) p.tables

  own_sum : (values : List ℕ) → own_at values ≡ sum_by (λ t. cond (is_on_path paths i t) (cell_with t (λ v. get_or values v 0)) 0) p.tables
  own_sum values =
      ap (λ (ts : List CostTable). cost_with ts (λ v. get_or values v 0)) (sym (tables_on_paths_are_own p paths problem pseudo i))
      ∙ sum_filter (λ t. cell_with t (λ v. get_or values v 0)) (is_on_path paths i) p.tables

  on_path : (u : ℕ) → (u == i || (has (path_of paths i) u && is_some (value_in known u))) ≡ true → is_within paths u i ≡ true
  on_path u h =
      elim (or_cases (u == i) (has (path_of paths i) u && is_some (value_in known u)) h) [
        | inl same ↦ or_left (i == u) (is_above paths u i) (eq-eqb i u (sym (eqb-true u i same)))
        | inr both ↦ or_right (i == u) (is_above paths u i) (and_parts (has (path_of paths i) u) (is_some (value_in known u)) both).0
      ]

  most_sum : sum_by (λ t. greatest t.cells) (own_tables_of p paths i) ≡ sum_by (λ t. cond (is_on_path paths i t) (greatest t.cells) 0) p.tables
  most_sum = ap (λ (ts : List CostTable). sum_by (λ t. greatest t.cells) ts) (sym (tables_on_paths_are_own p paths problem pseudo i)) ∙ sum_filter (λ t. greatest t.cells) (is_on_path paths i) p.tables

  -- what is counted is at most the greatest cells of the own tables together
  pub counted_most : (d : ℕ) → counted_cost d ≤ sum_by (λ t. greatest t.cells) (own_tables_of p paths i)
  counted_most d =
      let left = counted_sum d in
      let right = most_sum in
      let le =
      sum_le (λ t. cond (has t.scope i) (cond (counts_at t) (cell_with t (with_own i d (valued known))) 0) 0) (λ t. cond (is_on_path paths i t) (greatest t.cells) 0) p.tables
      (λ k e lt.
      let t : CostTable = get_or p.tables k e in
      counted (has t.scope i) (counts_at t) (has t.scope i) (list_all (λ v. is_within paths v i) t.scope) (cell_with t (with_own i d (valued known))) (greatest t.cells)
      (λ named counts. (
        and_from (has t.scope i) (list_all (λ v. is_within paths v i) t.scope) named
            (list_all_from (λ v. is_within paths v i) t.scope (λ u there. on_path u (list_all_at (λ u. u == i || (has (path_of paths i) u && is_some (value_in known u))) t.scope u counts there))),
        cell_most t (with_own i d (valued known)),
      ))) in
      omega (arith, left, right, le)

  module _ (values : List ℕ) (d : ℕ) (here : get_or values i 0 ≡ d) (given : GivenAbove p paths i (value_in known) values) where
    -- a variable that is known has its value
    value_same : (u : ℕ) → (u == i || (has (path_of paths i) u && is_some (value_in known u))) ≡ true → with_own i d (valued known) u ≡ get_or values u 0
    value_same u h =
        elim (cases_eq u i) [
          | inl same ↦ own_here i d (valued known) u same ∙ sym (ap (λ (x : ℕ). get_or values x 0) same ∙ here)
          | inr other ↦
              elim (or_cases (u == i) (has (path_of paths i) u && is_some (value_in known u)) h) [
                | inl same ↦ absurd (other (eqb-true u i same))
                | inr both ↦
                    let parts = and_parts (has (path_of paths i) u) (is_some (value_in known u)) both in
                    own_else i d (valued known) u other ∙ sym (given u (valued known u) parts.0 (some_is (value_in known u) parts.1))
              ]
        ]

    cells_same : (t : CostTable) → counts_at t ≡ true → cell_with t (with_own i d (valued known)) ≡ cell_with t (λ v. get_or values v 0)
    cells_same t h = cell_same t (with_own i d (valued known)) (λ v. get_or values v 0) (λ u there. value_same u (list_all_at (λ u. u == i || (has (path_of paths i) u && is_some (value_in known u))) t.scope u h there))

    -- what is counted costs no more than the own tables
    pub counted_low : counted_cost d ≤ own_at values
    counted_low =
        let left = counted_sum d in
        let right = own_sum values in
        let le =
        sum_le (λ t. cond (has t.scope i) (cond (counts_at t) (cell_with t (with_own i d (valued known))) 0) 0) (λ t. cond (is_on_path paths i t) (cell_with t (λ v. get_or values v 0)) 0) p.tables
        (λ k e lt.
        let t : CostTable = get_or p.tables k e in
        counted (has t.scope i) (counts_at t) (has t.scope i) (list_all (λ v. is_within paths v i) t.scope) (cell_with t (with_own i d (valued known))) (cell_with t (λ v. get_or values v 0))
        (λ named counts. (
          and_from (has t.scope i) (list_all (λ v. is_within paths v i) t.scope) named
              (list_all_from (λ v. is_within paths v i) t.scope (λ u there. on_path u (list_all_at (λ u. u == i || (has (path_of paths i) u && is_some (value_in known u))) t.scope u counts there))),
          le_same _ _ (cells_same t counts),
        ))) in
        omega (arith, left, right, le)
      where
        le_same : (a b : ℕ) → a ≡ b → a ≤ b
        le_same a b e = omega (arith, e)

    -- where all higher neighbours are known, all own tables are counted
    pub counted_high : names_all known (filter (has (path_of paths i)) (neighbours p i)) ≡ true → own_at values ≤ counted_cost d
    counted_high all =
        let left = counted_sum d in
        let right = own_sum values in
        let le =
        sum_le (λ t. cond (is_on_path paths i t) (cell_with t (λ v. get_or values v 0)) 0) (λ t. cond (has t.scope i) (cond (counts_at t) (cell_with t (with_own i d (valued known))) 0) 0) p.tables
        (λ k e lt.
        let t : CostTable = get_or p.tables k e in
        let owned : IsOwned p paths t = all_owned p paths problem pseudo k e lt in
        counted_back (has t.scope i) (counts_at t) (has t.scope i) (list_all (λ v. is_within paths v i) t.scope) (cell_with t (with_own i d (valued known))) (cell_with t (λ v. get_or values v 0))
        (λ named within.
        let counts : counts_at t ≡ true = list_all_from (λ u. u == i || (has (path_of paths i) u && is_some (value_in known u))) t.scope (λ u there. known_one t owned named u there (list_all_at (λ v. is_within paths v i) t.scope u within there)) in
        (named, counts, ge_same _ _ (cells_same t counts)))) in
        omega (arith, left, right, le)
      where
        ge_same : (a b : ℕ) → a ≡ b → b ≤ a
        ge_same a b e = omega (arith, e)

        known_one : (t : CostTable) → IsOwned p paths t → has t.scope i ≡ true → (u : ℕ) → has t.scope u ≡ true → is_within paths u i ≡ true → (u == i || (has (path_of paths i) u && is_some (value_in known u))) ≡ true
        known_one t owned named u there h =
            elim (cases_eq u i) [
              | inl same ↦ or_left (u == i) (has (path_of paths i) u && is_some (value_in known u)) (eq-eqb u i same)
              | inr other ↦
                  elim (or_cases (i == u) (is_above paths u i) h) [
                    | inl same ↦ absurd (other (sym (eqb-true i u same)))
                    | inr above ↦
                        let near : are_neighbours p i u ≡ true =
                        and_from (not (eqb i u)) (share_table p.tables i u || are_joined p.joints i u) (not_from_false (eqb i u) (ne_eqb i u (λ (same : i ≡ u). other (sym same))))
                        (or_left (share_table p.tables i u) (are_joined p.joints i u) (owned.shared i u named there)) in
                        let listed : has (neighbours p i) u ≡ true =
                        filter_has (are_neighbours p i) (range_with_len 0 (length p.sizes)) u (any_in_range (λ y. eqb y u) (length p.sizes) u (owned.inside u there) (eq-eqb u u refl)) near in
                        let one = list_all_at (λ v. is_some (value_in known v)) (filter (has (path_of paths i)) (neighbours p i)) u all (filter_has (has (path_of paths i)) (neighbours p i) u listed above) in
                        or_right (u == i) (has (path_of paths i) u && is_some (value_in known u)) (and_from (has (path_of paths i) u) (is_some (value_in known u)) above one)
                  ]
            ]

some_part : (b : Bool) (x : ℕ) → cond b x 0 ≤ x
some_part true x = omega arith
some_part false x = omega arith

-- some of a problem's tables cost at most the cap
pub some_cap : (p : Dcop) → IsProblem p → (q : CostTable → Bool) (f : CostTable → ℕ) → ((t : CostTable) → f t ≤ greatest t.cells) → sum_by f (filter q p.tables) ≤ amount_limit
some_cap p problem q f low =
    let part = sum_filter f q p.tables in
    let le = sum_le (λ t. cond (q t) (f t) 0) (λ t. greatest t.cells) p.tables (λ k d lt.
    let less = some_part (q (get_or p.tables k d)) (f (get_or p.tables k d)) in let most = low (get_or p.tables k d) in omega (arith, less, most)) in
    let all = problem.sums in
    omega (arith, part, le, all)

-- the greatest cells of a subtree's tables are together at most the cap
pub most_cap : (p : Dcop) (paths : List (List ℕ)) → IsProblem p → (i : ℕ) → most p paths i ≤ amount_limit
most_cap p paths problem i = some_cap p problem (λ (t : CostTable). is_owner_within paths i (owner_of paths t.scope)) (λ t. greatest t.cells) (λ t. same (greatest t.cells))
  where
    same : (n : ℕ) → n ≤ n
    same n = omega arith

-- no subtree costs more than the cap
pub below_cap : (p : Dcop) (paths : List (List ℕ)) → IsProblem p → (i : ℕ) (values : List ℕ) → below p paths i values ≤ amount_limit
below_cap p paths problem i values =
    let f : CostTable → ℕ = λ (t : CostTable). cell_with t (λ v. get_or values v 0) in
    let q : CostTable → Bool = λ (t : CostTable). is_owner_within paths i (owner_of paths t.scope) in
    let part : below p paths i values ≡ sum_by (λ t. cond (q t) (f t) 0) p.tables = sum_filter f q p.tables in
    let le : sum_by (λ t. cond (q t) (f t) 0) p.tables ≤ sum_by f p.tables = sum_le (λ t. cond (q t) (f t) 0) f p.tables (λ k d lt. some_part (q (get_or p.tables k d)) (f (get_or p.tables k d))) in
    let whole : sum_by f p.tables ≤ amount_limit = whole_cap in
    omega (arith, part, le, whole)
  where
    whole_cap : cost p values ≤ amount_limit
    whole_cap = let one = cost-le-greatest_sum p values in let two = problem.sums in omega (arith, one, two)
