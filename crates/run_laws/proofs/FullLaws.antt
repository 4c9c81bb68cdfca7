-- Agents with the tables of all their children: what they join, and what they choose.
use Rattle.std.proofs.Common.{◌≡◌, ℕ, zero, suc, ◌+◌, ◌-◌, ◌<◌, ◌≤◌, Bool, true, false, cond, ◌&&◌, ◌||◌, eqb, ltb, List, [], ◌∷◌, map, length, get_or, Some, None, refl, sym, ap, ap₂, subst, ◌∙◌, inl, inr, arith}
use Rattle.std.proofs.Math.Path.{fun_ext}
use Rattle.std.specs.List.{filter, flat_map, list_all, list_any, sum_by, zip}
use Rattle.std.proofs.lemmas.Bool.{cases_Bool, cases_eq, cond-true, cond-false, cond_both, eqb-true, ltb-true, ltb-false}
use Rattle.std.proofs.lemmas.List.{length-map}
use Rattle.std.proofs.lemmas.List.Sums.{sum_by-cons}
use Rattle.dcop_base.specs.Table.{CostTable, has, product, AreWithin}
use Rattle.dcop_base.specs.Problem.{Dcop}
use Rattle.dcop_base.specs.Graph.{are_neighbours, neighbours}
use Rattle.dcop_base.specs.Whole.{IsProblem}
use Rattle.dcop_base.specs.Values.{cell_with, cost_with, with_own}
use Rattle.dcop_base.specs.Limits.{amount_limit}
use Rattle.dcop_base.proofs.JointLaws.{eqb-swap}
use Rattle.pseudotree.specs.Tree.{path_of, parent_of, children_of, is_variable, is_above}
use Rattle.pseudotree.specs.Pseudotree.{IsPseudotree, is_within, separator_of}
use Rattle.pseudotree.specs.Place.{sizes_of}
use Rattle.pseudotree.proofs.CheckLaws.{within_tree}
use Rattle.pseudotree.proofs.GatherLaws.{variable_is}
use Rattle.pseudotree.proofs.SpreadLaws.{above_parent, filter_same}
use Rattle.pseudotree.proofs.NestLaws.{has_filter, separators_nest}
use Rattle.adopt_context.specs.Context.{value_in, or_zero}
use Rattle.adopt_context.specs.Bounds.{cap, lowest}
use Rattle.protocol_steps.specs.Values.{valued, choices}
use Rattle.protocol_steps.specs.Dpop.{there, own_tables, kept_tables, size_of, separator, joined_cost, best_value, util_cell, util_table}
use Rattle.dcop_optimum.specs.Subtree.{own_tables_of, AreValuesAbove, IsSubtreeOptimum}
use Rattle.dcop_optimum.specs.Decomposition.{AreChildOptima, best_cost_at}
use Rattle.dcop_optimum.specs.TreeOptimum.{IsLowestLeast, IsBestChoice}
use Rattle.dcop_optimum.proofs.SumLaws.{sum_same}
use Rattle.dcop_optimum.proofs.LineLaws.{within_cases, within_above}
use Rattle.dcop_optimum.proofs.OwnerLaws.{cell_same, own_reads_near}
use Rattle.dcop_optimum.proofs.JoinLaws.{size_some, own_here, own_else, children_parent, above_in_problem, separator_above, listed, listed_at}
use Rattle.dcop_optimum.proofs.DecompositionLaws.{decomposes}
use Rattle.dcop_optimum.proofs.CertificateLaws.{tables_on_paths_are_own}
use Rattle.dcop_optimum.proofs.OptimumTableLaws.{costs_are_within_cap}
use Rattle.dcop_optimum.proofs.SeparatorLaws.{separators_decompose}
use Rattle.protocol_steps.proofs.ValueLaws.{value_in-zip, length-choices, made_cell}
use Rattle.run_laws.proofs.ListLaws.{filter_twice, filter_range_has, map_alike, has_head, has_tail, from_leaves}
use Rattle.run_laws.proofs.Plan.{view_with, full}

-- the lowest of the numbers up to m at which f is least
pub lowest_least : (f : ℕ → ℕ) (m : ℕ) → IsLowestLeast (suc m) f (lowest ltb f m)
lowest_least f zero = record {
  within = omega arith;
  least = λ e lt. let at : f 0 ≡ f e = ap f (omega (arith, lt)) in omega (arith, at);
  lowest = λ e lt. absurd (omega (arith, lt));
}
lowest_least f (suc m) =
    let d : ℕ = lowest ltb f m in
    let old = lowest_least f m in
    cond_both (ltb (f (suc m)) (f d)) (suc m) d (λ (x : ℕ). IsLowestLeast (suc (suc m)) f x)
    (λ is_so.
    let less = ltb-true (f (suc m)) (f d) is_so in
    record {
      within = omega arith;
      least = λ e lt.
          elim (cases_eq e (suc m)) [
            | inl same ↦ let at : f e ≡ f (suc m) = ap f same in omega (arith, at)
            | inr other ↦ let le = old.least e (omega (arith, lt, other)) in omega (arith, le, less)
          ];
      lowest = λ e lt. let le = old.least e lt in omega (arith, le, less);
    })
    (λ not_so.
    let more = ltb-false (f (suc m)) (f d) not_so in
    record {
      within = let lt = old.within in omega (arith, lt);
      least = λ e lt.
          elim (cases_eq e (suc m)) [
            | inl same ↦ let at : f e ≡ f (suc m) = ap f same in omega (arith, at, more)
            | inr other ↦ old.least e (omega (arith, lt, other))
          ];
      lowest = old.lowest;
    })

lowest_alike : (n : ℕ) (f g : ℕ → ℕ) (d : ℕ) → IsLowestLeast n f d → ((e : ℕ) → e < n → f e ≡ g e) → IsLowestLeast n g d
lowest_alike n f g d is same = record {
  within = is.within;
  least = λ e lt. let le = is.least e lt in let here = same e lt in let at = same d is.within in omega (arith, le, here, at);
  lowest = λ e lt.
      let below = is.within in
      let less = is.lowest e lt in
      let here = same e (omega (arith, lt, below)) in
      let at = same d below in
      omega (arith, less, here, at);
}

within_both : (f g : ℕ → ℕ) (xs : List ℕ) → ((u : ℕ) → has xs u ≡ true → f u < g u) → AreWithin (map g xs) (map f xs)
within_both f g [] below = tt
within_both f g (x ∷ xs) below = (below x (has_head x xs), within_both f g xs (λ u h. below u (has_tail x xs u h)))

kept_all : (table : ℕ → CostTable) (xs : List ℕ) → flat_map there (map (λ c. Some (table c)) xs) ≡ map table xs
kept_all table [] = refl
kept_all table (x ∷ xs) = ap (λ (ts : List CostTable). table x ∷ ts) (kept_all table xs)

pub sum_map : {X : Type 0} (g : X → ℕ) (h : ℕ → X) (xs : List ℕ) → sum_by g (map h xs) ≡ sum_by (λ x. g (h x)) xs
sum_map g h [] = refl
sum_map g h (x ∷ xs) = sum_by-cons g (h x) (map h xs) ∙ ap (λ (k : ℕ). g (h x) + k) (sum_map g h xs) ∙ sym (sum_by-cons (λ x. g (h x)) x xs)

pub scopes_of : (table : ℕ → CostTable) (scope : ℕ → List ℕ) (xs : List ℕ) → ((c : ℕ) → has xs c ≡ true → (table c).scope ≡ scope c) → map (λ t. t.scope) (map table xs) ≡ map scope xs
scopes_of table scope [] same = refl
scopes_of table scope (x ∷ xs) same =
    ap (λ (ys : List ℕ). ys ∷ map (λ t. t.scope) (map table xs)) (same x (has_head x xs))
    ∙ ap (λ (yss : List (List ℕ)). scope x ∷ yss) (scopes_of table scope xs (λ c h. same c (has_tail x xs c h)))

pub any_map : (q : List ℕ → Bool) (scope : ℕ → List ℕ) (xs : List ℕ) → list_any q (map scope xs) ≡ list_any (λ c. q (scope c)) xs
any_map q scope [] = refl
any_map q scope (x ∷ xs) = ap (λ (b : Bool). q (scope x) || b) (any_map q scope xs)

pub cap_is : (x : ℕ) → x ≤ amount_limit → cap x ≡ x
cap_is x le = omega (arith, le)

pub child_is : (paths : List (List ℕ)) (i c : ℕ) → has (children_of paths i) c ≡ true → parent_of paths c ≡ Some i
child_is paths i c h = variable_is i (parent_of paths c) (has_filter (λ c. is_variable i (parent_of paths c)) _ c h).1

module _ (p : Dcop) (paths : List (List ℕ)) (problem : IsProblem p) (pseudo : IsPseudotree p paths) where
  -- own tables, sizes and neighbours, whatever is kept
  pub own_is : (i : ℕ) → own_tables (view_with p paths i false [] None 0) ≡ own_tables_of p paths i
  own_is i =
      filter_twice (λ (t : CostTable). has t.scope i) (λ (t : CostTable). list_all (λ u. eqb u i || has (path_of paths i) u) t.scope) p.tables
      ∙ ap (λ (f : ℕ → Bool). filter (λ (t : CostTable). has t.scope i && list_all f t.scope) p.tables) (fun_ext (λ u. ap (λ (b : Bool). b || has (path_of paths i) u) (eqb-swap u i)))
      ∙ tables_on_paths_are_own p paths problem pseudo i

  pub size_is : (i u : ℕ) → is_within paths u i ≡ true → size_of (view_with p paths i false [] None 0) u ≡ get_or p.sizes u 0
  size_is i u h =
      let given : ℕ = or_zero (value_in (zip (path_of paths i) (sizes_of p (path_of paths i))) u) in
      elim (cases_Bool (eqb u i)) [
        | inl same ↦ cond-true (eqb u i) (get_or p.sizes i 0) given same ∙ ap (λ (x : ℕ). get_or p.sizes x 0) (sym (eqb-true u i same))
        | inr other ↦
            let inside : has (path_of paths i) u ≡ true = sym (ap (λ (b : Bool). b || has (path_of paths i) u) (sym (eqb-swap u i) ∙ other)) ∙ h in
            cond-false (eqb u i) (get_or p.sizes i 0) given other ∙ ap or_zero (value_in-zip (path_of paths i) (λ v. get_or p.sizes v 0) u inside)
      ]

  pub sizes_are : (i : ℕ) (vs : List ℕ) → ((u : ℕ) → has vs u ≡ true → is_within paths u i ≡ true) → map (size_of (view_with p paths i false [] None 0)) vs ≡ sizes_of p vs
  sizes_are i vs within = map_alike (size_of (view_with p paths i false [] None 0)) (λ u. get_or p.sizes u 0) vs (λ u h. size_is i u (within u h))

  pub near_is : (i u : ℕ) → u < length p.sizes → has (neighbours p i) u ≡ are_neighbours p i u
  near_is i u lt = filter_range_has (are_neighbours p i) (length p.sizes) u lt

  pub separator_within : (i u : ℕ) → has (separator_of p paths i) u ≡ true → is_within paths u i ≡ true
  separator_within i u h = within_above paths u i (separator_above p paths problem pseudo i u h)

  -- values of the ancestors of a child, where the values of the variable's ancestors and its own are known
  pub child_values : (i c d : ℕ) (value : ℕ → ℕ) → parent_of paths c ≡ Some i → AreValuesAbove p paths i value → d < get_or p.sizes i 0 → AreValuesAbove p paths c (with_own i d value)
  child_values i c d value parent below inside v h = elim (cases_eq v i) [
    | inl same ↦ omega (arith, own_here i d value v same, inside, ap (λ (x : ℕ). get_or p.sizes x 0) same)
    | inr ne ↦
        elim (within_cases paths v i (above_parent paths pseudo.tree c i v parent h)) [
          | inl same ↦ absurd (ne (sym same))
          | inr above ↦ omega (arith, own_else i d value v ne, below v above)
        ]
  ]

  module _ (table : ℕ → CostTable) (table_is : (i : ℕ) → i < length paths → table i ≡ util_table (full p paths table i)) where
    separator_step : (i : ℕ) → ((c : ℕ) → parent_of paths c ≡ Some i → (table c).scope ≡ separator_of p paths c) → separator (full p paths table i) ≡ separator_of p paths i
    separator_step i below =
        let xs : List ℕ = children_of paths i in
        let test : List (List ℕ) → ℕ → Bool = λ scopes u. has (neighbours p i) u || list_any (λ scope. has scope u) scopes in
        ap (λ (ts : List CostTable). filter (test (map (λ t. t.scope) ts)) (path_of paths i)) (kept_all table xs)
        ∙ ap (λ (scopes : List (List ℕ)). filter (test scopes) (path_of paths i)) (scopes_of table (separator_of p paths) xs (λ c h. below c (child_is paths i c h)))
        ∙ filter_same (test (map (separator_of p paths) xs)) (λ u. are_neighbours p i u || list_any (λ c. has (separator_of p paths c) u) xs) (path_of paths i)
        (λ k d lt.
        let u : ℕ = get_or (path_of paths i) k d in
        ap₂ (λ (a : Bool) (b : Bool). a || b) (near_is i u (above_in_problem p paths problem pseudo u i (at_path i k d lt))) (any_map (λ scope. has scope u) (separator_of p paths) xs))
        ∙ sym (separators_decompose p paths pseudo.tree i)
      where
        at_path : (i k d : ℕ) → k < length (path_of paths i) → is_above paths (get_or (path_of paths i) k d) i ≡ true
        at_path i k d lt = stands (path_of paths i) k d lt
          where
            stands : (xs : List ℕ) (k d : ℕ) → k < length xs → has xs (get_or xs k d) ≡ true
            stands [] k d lt = absurd (omega (arith, lt))
            stands (x ∷ xs) zero d lt = has_head x xs
            stands (x ∷ xs) (suc k) d lt = has_tail x xs (get_or xs k d) (stands xs k d (omega (arith, lt)))

    -- the scopes are the separators
    pub scope_is : (i : ℕ) → i < length paths → (table i).scope ≡ separator_of p paths i
    scope_is =
        from_leaves paths pseudo.tree (λ i. (table i).scope ≡ separator_of p paths i)
        (λ i lt below. ap (λ (t : CostTable). t.scope) (table_is i lt) ∙ separator_step i below)

    pub child_scope : (i c : ℕ) → parent_of paths c ≡ Some i → (table c).scope ≡ separator_of p paths c
    child_scope i c parent = scope_is c (within_tree paths c i parent)

    pub full_separator : (i : ℕ) → separator (full p paths table i) ≡ separator_of p paths i
    full_separator i = separator_step i (λ c parent. child_scope i c parent)

    pub sizes_is : (i : ℕ) → i < length paths → (table i).sizes ≡ sizes_of p (separator_of p paths i)
    sizes_is i lt =
        ap (λ (t : CostTable). t.sizes) (table_is i lt)
        ∙ ap (λ (vs : List ℕ). map (size_of (view_with p paths i false [] None 0)) vs) (full_separator i)
        ∙ sizes_are i (separator_of p paths i) (separator_within i)

    pub cells_full : (i : ℕ) → i < length paths → length (table i).cells ≡ product (table i).sizes
    cells_full i lt =
        subst (λ (t : CostTable). length t.cells ≡ product t.sizes) (sym (table_is i lt))
        (length-map (choices (util_table (full p paths table i)).sizes) (util_cell (full p paths table i)) ∙ length-choices (util_table (full p paths table i)).sizes)

    kept_cost : (i : ℕ) (f : ℕ → ℕ) → cost_with (kept_tables (full p paths table i)) f ≡ sum_by (λ c. cell_with (table c) f) (children_of paths i)
    kept_cost i f = ap (λ (ts : List CostTable). cost_with ts f) (kept_all table (children_of paths i)) ∙ sum_map (λ t. cell_with t f) table (children_of paths i)

    -- what the children's tables say
    abbrev pub said : ℕ → (ℕ → ℕ) → ℕ → ℕ → ℕ
    said i value d c = cell_with (table c) (with_own i d value)

    cost_is : (i : ℕ) (value : ℕ → ℕ) (d : ℕ) → joined_cost (full p paths table i) value d ≡ cap (best_cost_at p paths i value (said i value) d)
    cost_is i value d =
        ap₂ (λ (a : ℕ) (b : ℕ). cap (a + b)) (ap (λ (ts : List CostTable). cost_with ts (with_own i d value)) (own_is i)) (kept_cost i (with_own i d value))

    -- the joined cost reads the separator
    plain_reads : (i d : ℕ) (f g : ℕ → ℕ) → ((u : ℕ) → has (separator_of p paths i) u ≡ true → f u ≡ g u) → best_cost_at p paths i f (said i f) d ≡ best_cost_at p paths i g (said i g) d
    plain_reads i d f g same =
        let at : with_own i d f i ≡ with_own i d g i = own_here i d f i refl ∙ sym (own_here i d g i refl) in
        let near : (u : ℕ) → has (separator_of p paths i) u ≡ true → with_own i d f u ≡ with_own i d g u = λ u h. ap (λ (x : ℕ). cond (eqb u i) d x) (same u h) in
        let own = own_reads_near p paths problem pseudo i (with_own i d f) (with_own i d g) at near in
        let children = sum_same (said i f d) (said i g d) (children_of paths i) (λ k e lt.
        let c : ℕ = get_or (children_of paths i) k e in
        let parent : parent_of paths c ≡ Some i = children_parent paths i k e lt in
        cell_same (table c) (with_own i d f) (with_own i d g) (λ u h.
        let inside : has (separator_of p paths c) u ≡ true = sym (ap (λ (vs : List ℕ). has vs u) (child_scope i c parent)) ∙ h in
        elim (separators_nest p paths pseudo.tree c i parent u inside) [
          | inl here ↦ ap (with_own i d f) here ∙ at ∙ sym (ap (with_own i d g) here)
          | inr above ↦ near u above
        ])) in
        ap₂ (λ (a : ℕ) (b : ℕ). a + b) own children

    pub joined_reads : (i : ℕ) (f g : ℕ → ℕ) → ((u : ℕ) → has (separator_of p paths i) u ≡ true → f u ≡ g u) → joined_cost (full p paths table i) f ≡ joined_cost (full p paths table i) g
    joined_reads i f g same = fun_ext (λ d. cost_is i f d ∙ ap cap (plain_reads i d f g same) ∙ sym (cost_is i g d))

    pub best_reads : (i : ℕ) (f g : ℕ → ℕ) → ((u : ℕ) → has (separator_of p paths i) u ≡ true → f u ≡ g u) → best_value (full p paths table i) f ≡ best_value (full p paths table i) g
    best_reads i f g same = ap (λ (cost : ℕ → ℕ). lowest ltb cost (get_or p.sizes i 0 - 1)) (joined_reads i f g same)

    lowest_joined : (i : ℕ) → i < length paths → (value : ℕ → ℕ) → IsLowestLeast (get_or p.sizes i 0) (joined_cost (full p paths table i) value) (best_value (full p paths table i) value)
    lowest_joined i lt value =
        let count = pseudo.sized in
        let some = size_some p problem i (omega (arith, lt, count)) in
        let size : suc (get_or p.sizes i 0 - 1) ≡ get_or p.sizes i 0 = omega (arith, some) in
        subst (λ (n : ℕ). IsLowestLeast n (joined_cost (full p paths table i) value) (best_value (full p paths table i) value)) size
        (lowest_least (joined_cost (full p paths table i) value) (get_or p.sizes i 0 - 1))

    -- a best value is below the size
    pub best_below : (i : ℕ) → i < length paths → (value : ℕ → ℕ) → best_value (full p paths table i) value < get_or p.sizes i 0
    best_below i lt value = (lowest_joined i lt value).within

    module _ (i : ℕ) (lt : i < length paths) (value : ℕ → ℕ) (above : AreValuesAbove p paths i value) (are : AreChildOptima p paths i value (said i value)) where
      uncapped : (d : ℕ) → d < get_or p.sizes i 0 → joined_cost (full p paths table i) value d ≡ best_cost_at p paths i value (said i value) d
      uncapped d inside =
          let count = pseudo.sized in
          cost_is i value d
          ∙ cap_is (best_cost_at p paths i value (said i value) d) ((costs_are_within_cap p paths problem pseudo).best i value (said i value) d (omega (arith, lt, count)) above are inside)

      choice : IsLowestLeast (get_or p.sizes i 0) (best_cost_at p paths i value (said i value)) (best_value (full p paths table i) value)
      choice =
          lowest_alike (get_or p.sizes i 0) (joined_cost (full p paths table i) value) (best_cost_at p paths i value (said i value)) (best_value (full p paths table i) value)
          (lowest_joined i lt value) uncapped

      cell_is : cell_with (table i) value ≡ joined_cost (full p paths table i) value (best_value (full p paths table i) value)
      cell_is =
          let vs : List ℕ = separator (full p paths table i) in
          let near : (u : ℕ) → has vs u ≡ true → has (separator_of p paths i) u ≡ true = λ u h. sym (ap (λ (ws : List ℕ). has ws u) (full_separator i)) ∙ h in
          let far : (u : ℕ) → has (separator_of p paths i) u ≡ true → has vs u ≡ true = λ u h. ap (λ (ws : List ℕ). has ws u) (full_separator i) ∙ h in
          let within : AreWithin (map (size_of (full p paths table i)) vs) (map value vs) =
          within_both value (size_of (full p paths table i)) vs (λ u h.
          let k = near u h in
          let size = size_is i u (separator_within i u k) in
          let less = above u (separator_above p paths problem pseudo i u k) in
          omega (arith, size, less)) in
          let same : (u : ℕ) → has (separator_of p paths i) u ≡ true → valued (zip vs (map value vs)) u ≡ value u = λ u h. ap or_zero (value_in-zip vs value u (far u h)) in
          ap (λ (t : CostTable). cell_with t value) (table_is i lt)
          ∙ made_cell (util_cell (full p paths table i)) (map (size_of (full p paths table i)) vs) (map value vs) within
          ∙ ap (λ (cost : ℕ → ℕ). cost (lowest ltb cost (get_or p.sizes i 0 - 1))) (joined_reads i (valued (zip vs (map value vs))) value same)

      cell_optimum : IsSubtreeOptimum p paths i value (cell_with (table i) value)
      cell_optimum =
          let count = pseudo.sized in
          let best = choice in
          let at = cell_is ∙ uncapped (best_value (full p paths table i) value) best.within in
          ((decomposes p paths problem pseudo).recursion i value (said i value) (omega (arith, lt, count)) above are (cell_with (table i) value)).1 (record {
            attained = (best_value (full p paths table i) value, best.within, sym at);
            lowest = λ d inside. let le = best.least d inside in omega (arith, at, le);
          })

    -- the cells are the subtree optima
    pub cells_are : (i : ℕ) → i < length paths → (value : ℕ → ℕ) → AreValuesAbove p paths i value → IsSubtreeOptimum p paths i value (cell_with (table i) value)
    cells_are =
        from_leaves paths pseudo.tree (λ i. (value : ℕ → ℕ) → AreValuesAbove p paths i value → IsSubtreeOptimum p paths i value (cell_with (table i) value))
        (λ i lt below value above.
        cell_optimum i lt value above (λ d c inside parent. below c parent (with_own i d value) (child_values i c d value parent above inside)))

    -- values that are best under those of the separators are best choices
    pub best_choice : (chosen : ℕ → ℕ) → ((i : ℕ) → i < length paths → chosen i ≡ best_value (full p paths table i) chosen) → (i : ℕ) → i < length p.sizes → IsBestChoice p paths (listed p chosen) i
    best_choice chosen is i inside =
        let count = pseudo.sized in
        let lt : i < length paths = omega (arith, inside, count) in
        let value : ℕ → ℕ = λ u. get_or (listed p chosen) u 0 in
        let value_is : (u : ℕ) → u < length p.sizes → value u ≡ chosen u = λ u l. listed_at p chosen u l in
        let above : AreValuesAbove p paths i value = λ u h.
        let known = above_in_problem p paths problem pseudo u i h in
        let low = best_below u (omega (arith, known, count)) chosen in
        omega (arith, low, value_is u known, is u (omega (arith, known, count))) in
        let are : AreChildOptima p paths i value (said i value) = λ d c d_inside parent. cells_are c (within_tree paths c i parent) (with_own i d value) (child_values i c d value parent above d_inside) in
        let same : best_value (full p paths table i) value ≡ value i =
        best_reads i value chosen (λ u h. value_is u (above_in_problem p paths problem pseudo u i (separator_above p paths problem pseudo i u h)))
        ∙ sym (is i lt) ∙ sym (value_is i inside) in
        record {
          optima = said i value;
          are_optima = are;
          chosen = subst (λ (d : ℕ). IsLowestLeast (get_or p.sizes i 0) (best_cost_at p paths i value (said i value)) d) same (choice i lt value above are);
        }
