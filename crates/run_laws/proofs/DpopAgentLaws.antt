-- One DPOP agent: how it joins, takes a table, and takes values.
use Rattle.std.proofs.Common.{◌≡◌, ℕ, ◌-◌, ◌*◌, ◌<◌, ◌≤◌, Bool, true, false, cond, ◌&&◌, ◌||◌, eqb, leb, List, [], ◌∷◌, ◌++◌, map, length, get_or, set, Option, Some, None, is_some, nat_eq, refl, sym, ap, ap₂, subst, ◌∙◌, inl, inr, arith}
use Rattle.std.specs.Prelude.{slice_get}
use Rattle.std.specs.List.{filter, flat_map, list_all, list_any, zip}
use Rattle.std.specs.Option.{option_map}
use Rattle.std.specs.Cmp.Lexicographic.{pointwise}
use Rattle.std.proofs.Math.Nat.{mul-le-mul_left}
use Rattle.std.proofs.lemmas.Bool.{cases_Bool, cases_eq, both_ways, cond-true, cond-false, eq-eqb, ne_eqb, and_left, and_from, or_cases, lt-ltb, le-leb}
use Rattle.std.proofs.lemmas.Option.{none-some, slice_get-map, slice_get-get_or}
use Rattle.std.proofs.lemmas.List.{get_or_default}
use Rattle.std.proofs.lemmas.List.Elements.{filter-append}
use Rattle.dcop_base.specs.Table.{CostTable, has, product}
use Rattle.dcop_base.specs.Problem.{Dcop}
use Rattle.dcop_base.specs.Graph.{are_neighbours, neighbours}
use Rattle.dcop_base.specs.Whole.{IsProblem}
use Rattle.dcop_base.specs.Values.{with_own}
use Rattle.dcop_base.specs.Limits.{joined_limit}
use Rattle.pseudotree.specs.Tree.{path_of, parent_of, children_of, is_variable, is_above}
use Rattle.pseudotree.specs.Pseudotree.{IsPseudotree, IsLinked, is_within, touches, separator_of}
use Rattle.pseudotree.specs.Place.{sizes_of}
use Rattle.pseudotree.specs.Width.{IsNarrow}
use Rattle.pseudotree.proofs.TreeLaws.{last_there}
use Rattle.pseudotree.proofs.CheckLaws.{within_tree}
use Rattle.pseudotree.proofs.SpreadLaws.{any_in_range, above_child, above_parent, filter_same}
use Rattle.pseudotree.proofs.NestLaws.{has_filter, filter_has, separators_nest, above_shorter}
use Rattle.adopt_context.specs.Context.{Context, value_in, is_value, or_zero}
use Rattle.protocol_steps.specs.declared.message.Message.{Message}
use Rattle.protocol_steps.specs.declared.message.Message.TheVariants.{ValueAll}
use Rattle.protocol_steps.specs.Agent.{Stepped, quiet}
use Rattle.protocol_steps.specs.Values.{valued, context_of}
use Rattle.protocol_steps.specs.Dpop.{DpopView, there, kept_scopes, size_of, separator, joined_cells_with, best_value, util_table}
use Rattle.protocol_steps.specs.DpopJoin.{values_for, decide, send_up, can_join, join}
use Rattle.protocol_steps.specs.DpopStep.{is_below_size, is_open, takes_util, with_table, take_util, takes_values, dpop_message}
use Rattle.dcop_optimum.proofs.LineLaws.{within_above, within_self}
use Rattle.dcop_optimum.proofs.JoinLaws.{size_some, child_named, above_in_problem, separator_above}
use Rattle.protocol_steps.proofs.ValueLaws.{value_in-zip, value_in-context_of, all-context_of, context_of_same}
use Rattle.run_laws.proofs.ListLaws.{same_truth, has_at, product_le, filter_distinct, map_alike, placed, set_map, all_from, all_at, any_where, mark, mark_here, mark_else}
use Rattle.run_laws.proofs.Plan.{view_with, kept_if, full, Plan, util_of_plan, values_for_child, decided, joins}
use Rattle.run_laws.proofs.FullLaws.{scopes_of, any_map, child_is, size_is, sizes_are, near_is, separator_within, child_scope, scope_is, full_separator, sizes_is, cells_full, best_reads, best_below}

four : (a b c d : Bool) → a ≡ true → b ≡ true → c ≡ true → d ≡ true → (a && b && c && d) ≡ true
four a b c d ha hb hc hd = rw (ha, hb, hc, hd) refl

five : (a b c d e : Bool) → a ≡ true → b ≡ true → c ≡ true → d ≡ true → e ≡ true → (a && b && c && d && e) ≡ true
five a b c d e ha hb hc hd he = rw (ha, hb, hc, hd, he) refl

equal_to_self : (xs : List ℕ) → pointwise nat_eq xs xs ≡ true
equal_to_self [] = refl
equal_to_self (x ∷ xs) = and_from (eqb x x) (pointwise nat_eq xs xs) (eq-eqb x x refl) (equal_to_self xs)

kept_step : (table : ℕ → CostTable) (b : Bool) (x : ℕ) (xs : List ℕ) → there (cond b (Some (table x)) None) ++ map table xs ≡ map table (cond b (x ∷ xs) xs)
kept_step table true x xs = refl
kept_step table false x xs = refl

-- the tables that are kept
pub kept_some : (table : ℕ → CostTable) (up : ℕ → Bool) (xs : List ℕ) → flat_map there (map (kept_if table up) xs) ≡ map table (filter up xs)
kept_some table up [] = refl
kept_some table up (x ∷ xs) = ap (λ (ts : List CostTable). there (kept_if table up x) ++ ts) (kept_some table up xs) ∙ kept_step table (up x) x (filter up xs)

one_some : (b : Bool) (t : CostTable) → is_some (cond b (Some t) None) ≡ b
one_some true t = refl
one_some false t = refl

somes : (table : ℕ → CostTable) (up : ℕ → Bool) (xs : List ℕ) → list_all is_some (map (kept_if table up) xs) ≡ list_all up xs
somes table up [] = refl
somes table up (x ∷ xs) =
    ap (λ (b : Bool). b && list_all is_some (map (kept_if table up) xs)) (one_some (up x) (table x)) ∙ ap (λ (b : Bool). up x && b) (somes table up xs)

all_some : (table : ℕ → CostTable) (xs : List ℕ) → list_all is_some (map (λ c. Some (table c)) xs) ≡ true
all_some table [] = refl
all_some table (x ∷ xs) = all_some table xs

-- where all are kept
pub kept_full : (table : ℕ → CostTable) (up : ℕ → Bool) (xs : List ℕ) → list_all up xs ≡ true → map (kept_if table up) xs ≡ map (λ c. Some (table c)) xs
kept_full table up xs all = map_alike (kept_if table up) (λ c. Some (table c)) xs (λ c h. cond-true (up c) (Some (table c)) None (all_at up xs c all h))

-- what goes to the child of a table that is kept
abbrev to_child : (ℕ → ℕ) → ℕ × Option CostTable → List (ℕ × Message)
to_child value kept = map (λ t. (kept.0, ValueAll (context_of t.scope value))) (there kept.1)

abbrev told_by : (ℕ → CostTable) → (ℕ → ℕ) → ℕ → ℕ × Message
told_by table value c = (c, ValueAll (context_of (table c).scope value))

to_children : (table : ℕ → CostTable) (value : ℕ → ℕ) (xs : List ℕ) → flat_map (to_child value) (zip xs (map (λ c. Some (table c)) xs)) ≡ map (told_by table value) xs
to_children table value [] = refl
to_children table value (x ∷ xs) = ap (λ (ms : List (ℕ × Message)). told_by table value x ∷ ms) (to_children table value xs)

pub none_above : (xs : List ℕ) → slice_get xs (length xs - 1) ≡ None → xs ≡ []
none_above [] e = refl
none_above (x ∷ xs) e = absurd (none-some _ (sym e ∙ last_there (x ∷ xs) (omega arith)))

module _ (p : Dcop) (paths : List (List ℕ)) (problem : IsProblem p) (pseudo : IsPseudotree p paths) (linked : IsLinked p paths) (narrow : IsNarrow p paths) (plan : Plan p paths) where
  abbrev all_kept : ℕ → List (Option CostTable)
  all_kept i = map (λ c. Some (plan.table c)) (children_of paths i)

  -- an agent that knows the values of its separator decides as planned
  pub decide_is : (i : ℕ) → i < length paths → (values : Context) → ((u : ℕ) → has (separator_of p paths i) u ≡ true → valued values u ≡ plan.value u)
      → decide (view_with p paths i false (all_kept i) (Some (plan.table i)) 0) values ≡ decided plan i
  decide_is i lt values agrees =
      let f : ℕ → ℕ = with_own i (plan.value i) (valued values) in
      let best : best_value (full p paths plan.table i) (valued values) ≡ plan.value i =
      best_reads p paths problem pseudo plan.table plan.table_is i (valued values) plan.value agrees ∙ sym (plan.value_is i lt) in
      let gives : (u : ℕ) → (u ≡ i → ⊥) → has (separator_of p paths i) u ≡ true → f u ≡ plan.value u = λ u ne h. cond-false (eqb u i) (plan.value i) (valued values u) (ne_eqb u i ne) ∙ agrees u h in
      let each : (c : ℕ) → has (children_of paths i) c ≡ true → told_by plan.table f c ≡ told c = λ c h.
      let parent = child_is paths i c h in
      ap (λ (vs : List ℕ). (c, ValueAll (context_of vs f))) (child_scope p paths problem pseudo plan.table plan.table_is i c parent)
      ∙ ap (λ (x : Context). (c, ValueAll x)) (context_of_same (separator_of p paths c) f plan.value (λ u inside.
      elim (cases_eq u i) [
        | inl same ↦ cond-true (eqb u i) (plan.value i) (valued values u) (eq-eqb u i same) ∙ ap plan.value (sym same)
        | inr ne ↦ elim (separators_nest p paths pseudo.tree c i parent u inside) [
          | inl here ↦ absurd (ne here)
          | inr above ↦ gives u ne above
        ]
      ])) in
      ap (λ (d : ℕ). let s : Stepped DpopView = record {
        view = view_with p paths i true (all_kept i) (Some (plan.table i)) d;
        sends = values_for (full p paths plan.table i) (with_own i d (valued values));
      } in s) best
      ∙ ap (λ (ms : List (ℕ × Message)). let s : Stepped DpopView = record {
        view = view_with p paths i true (all_kept i) (Some (plan.table i)) (plan.value i);
        sends = ms;
      } in s) (to_children plan.table f (children_of paths i) ∙ map_alike (told_by plan.table f) told (children_of paths i) each)
    where
      told : ℕ → ℕ × Message
      told c = (c, values_for_child p paths plan.value c)

  -- the joined table is not too wide
  fits : (i : ℕ) → i < length paths → leb (joined_cells_with (full p paths plan.table i) (kept_scopes (full p paths plan.table i))) joined_limit ≡ true
  fits i lt =
      let size : ℕ = get_or p.sizes i 0 in
      let sizes : map (size_of (full p paths plan.table i)) (separator (full p paths plan.table i)) ≡ sizes_of p (separator_of p paths i) =
      ap (λ (vs : List ℕ). map (size_of (view_with p paths i false [] None 0)) vs) (full_separator p paths problem pseudo plan.table plan.table_is i)
      ∙ sizes_are p paths problem pseudo i (separator_of p paths i) (separator_within p paths problem pseudo i) in
      le-leb (joined_cells_with (full p paths plan.table i) (kept_scopes (full p paths plan.table i))) joined_limit
      (subst (λ (n : ℕ). n ≤ joined_limit) (sym (ap (λ (ss : List ℕ). size * product ss) sizes)) (narrow i lt))

  sent_as : (i : ℕ) → i < length paths → (o : Option ℕ) → parent_of paths i ≡ o
      → send_up (view_with p paths i false (all_kept i) (Some (plan.table i)) 0) (plan.table i) o ≡ joins plan i o
  sent_as i lt (Some u) e = refl
  sent_as i lt None e =
      decide_is i lt [] (λ u h.
      let above = separator_above p paths problem pseudo i u h in
      let none : has (path_of paths i) u ≡ false = ap (λ (xs : List ℕ). has xs u) (none_above (path_of paths i) e) in
      absurd (both_ways (has (path_of paths i) u) none above))

  -- an agent joins where it keeps the tables of all children
  pub join_is : (i : ℕ) → i < length paths → (up : ℕ → Bool)
      → join (view_with p paths i false (map (kept_if plan.table up) (children_of paths i)) None 0)
      ≡ cond (list_all up (children_of paths i)) (joins plan i (parent_of paths i)) (quiet (view_with p paths i false (map (kept_if plan.table up) (children_of paths i)) None 0))
  join_is i lt up =
      let xs : List ℕ = children_of paths i in
      let v : DpopView = view_with p paths i false (map (kept_if plan.table up) xs) None 0 in
      elim (cases_Bool (list_all up xs)) [
        | inr not_so ↦
            cond-false (can_join v) (send_up (record v { made = Some (util_table v) }) (util_table v) (parent_of paths i)) (quiet v)
            (and_left (list_all is_some (map (kept_if plan.table up) xs)) (leb (joined_cells_with v (kept_scopes v)) joined_limit) (somes plan.table up xs ∙ not_so))
            ∙ sym (cond-false (list_all up xs) (joins plan i (parent_of paths i)) (quiet v) not_so)
        | inl is_so ↦
            let w : DpopView = full p paths plan.table i in
            ap (λ (kept : List (Option CostTable)). join (view_with p paths i false kept None 0)) (kept_full plan.table up xs is_so)
            ∙ cond-true (can_join w) (send_up (record w { made = Some (util_table w) }) (util_table w) (parent_of paths i)) (quiet w)
            (and_from (list_all is_some (all_kept i)) (leb (joined_cells_with w (kept_scopes w)) joined_limit) (all_some plan.table xs) (fits i lt))
            ∙ ap (λ (t : CostTable). send_up (view_with p paths i false (all_kept i) (Some t) 0) t (parent_of paths i)) (sym (plan.table_is i lt))
            ∙ sent_as i lt (parent_of paths i) refl
            ∙ sym (cond-true (list_all up xs) (joins plan i (parent_of paths i)) (quiet v) is_so)
      ]

  -- the separator of a child: variables of the path, and the variable itself
  child_separator : (i c : ℕ) → parent_of paths c ≡ Some i → separator_of p paths c ≡ filter (has (separator_of p paths c)) (path_of paths i) ++ (i ∷ [])
  child_separator i c parent =
      let S : List ℕ = separator_of p paths c in
      let touched : touches p paths c i ≡ true =
      any_in_range (λ w. is_within paths c w && are_neighbours p w i) (length paths) c (within_tree paths c i parent)
      (and_from (is_within paths c c) (are_neighbours p c i) (within_self paths c) (linked c i parent)) in
      ap (filter (touches p paths c)) (pseudo.tree.nested c i parent).1
      ∙ filter-append (touches p paths c) (path_of paths i) (i ∷ [])
      ∙ ap₂ (λ (xs : List ℕ) (ys : List ℕ). xs ++ ys)
      (filter_same (touches p paths c) (has S) (path_of paths i) (λ k d lt.
      let u : ℕ = get_or (path_of paths i) k d in
      let above : is_above paths u i ≡ true = subst (λ (x : ℕ). has (path_of paths i) x ≡ true) (get_or_default (path_of paths i) k 0 d lt) (has_at (path_of paths i) k lt) in
      same_truth (touches p paths c u) (has S u)
      (λ h. filter_has (touches p paths c) (path_of paths c) u (above_child paths pseudo.tree c i u parent (within_above paths u i above)) h)
      (λ h. (has_filter (touches p paths c) (path_of paths c) u h).1)))
      (ap (λ (b : Bool). cond b (i ∷ []) []) touched)

  -- the joined table of what is kept is not wider than that of all
  narrow_enough : (i c : ℕ) → i < length paths → parent_of paths c ≡ Some i → (up : ℕ → Bool)
      → joined_cells_with (view_with p paths i false (map (kept_if plan.table up) (children_of paths i)) None 0)
      (separator_of p paths c ∷ kept_scopes (view_with p paths i false (map (kept_if plan.table up) (children_of paths i)) None 0)) ≤ joined_limit
  narrow_enough i c lt parent up =
      let xs : List ℕ = children_of paths i in
      let S : List ℕ = separator_of p paths c in
      let v : DpopView = view_with p paths i false (map (kept_if plan.table up) xs) None 0 in
      let scopes : kept_scopes v ≡ map (separator_of p paths) (filter up xs) =
      ap (λ (ts : List CostTable). map (λ t. t.scope) ts) (kept_some plan.table up xs)
      ∙ scopes_of plan.table (separator_of p paths) (filter up xs) (λ d h. child_scope p paths problem pseudo plan.table plan.table_is i d (child_is paths i d (has_filter up xs d h).0)) in
      let test : ℕ → Bool = λ u. has (neighbours p i) u || list_any (λ scope. has scope u) (S ∷ map (separator_of p paths) (filter up xs)) in
      let below : (d u : ℕ) → parent_of paths d ≡ Some i → is_above paths u i ≡ true → has (separator_of p paths d) u ≡ true → touches p paths i u ≡ true = λ d u is above h.
      elim (separators_nest p paths pseudo.tree d i is u h) [
        | inr there ↦ (has_filter (touches p paths i) (path_of paths i) u there).1
        | inl here ↦
            let short = above_shorter paths pseudo.tree u i above in
            let same : length (path_of paths u) ≡ length (path_of paths i) = ap (λ (x : ℕ). length (path_of paths x)) here in
            absurd (omega (arith, short, same))
      ] in
      let le = product_le (size_of v) test (touches p paths i) (path_of paths i)
      (λ u above h.
      elim (or_cases (has (neighbours p i) u) (list_any (λ scope. has scope u) (S ∷ map (separator_of p paths) (filter up xs))) h) [
        | inl near ↦
            any_in_range (λ w. is_within paths i w && are_neighbours p w u) (length paths) i lt
            (and_from (is_within paths i i) (are_neighbours p i u) (within_self paths i) (sym (near_is p paths problem pseudo i u (above_in_problem p paths problem pseudo u i above)) ∙ near))
        | inr scope ↦ elim (or_cases (has S u) (list_any (λ scope. has scope u) (map (separator_of p paths) (filter up xs))) scope) [
          | inl new ↦ below c u parent above new
          | inr old ↦
              let some = any_where (λ d. has (separator_of p paths d) u) (filter up xs) (sym (any_map (λ scope. has scope u) (separator_of p paths) (filter up xs)) ∙ old) in
              below some.0 u (child_is paths i some.0 (has_filter up xs some.0 some.1).0) above some.2
        ]
      ])
      (λ u above.
      let size = size_is p paths problem pseudo i u (within_above paths u i above) in
      let some = size_some p problem u (above_in_problem p paths problem pseudo u i above) in
      omega (arith, size, some)) in
      let all : map (size_of v) (separator_of p paths i) ≡ sizes_of p (separator_of p paths i) = sizes_are p paths problem pseudo i (separator_of p paths i) (separator_within p paths problem pseudo i) in
      let whole : product (map (size_of v) (filter test (path_of paths i))) ≤ product (sizes_of p (separator_of p paths i)) =
      subst (λ (ss : List ℕ). product (map (size_of v) (filter test (path_of paths i))) ≤ product ss) all le in
      let times = mul-le-mul_left (get_or p.sizes i 0) whole in
      let limit = narrow i lt in
      subst (λ (ss : List (List ℕ)). joined_cells_with v (S ∷ ss) ≤ joined_limit) (sym scopes) (omega (arith, times, limit))

  -- UTIL of a child is taken, and kept in its place
  pub util_taken : (i c : ℕ) → i < length paths → parent_of paths c ≡ Some i → (up : ℕ → Bool) → up c ≡ false
      → dpop_message (view_with p paths i false (map (kept_if plan.table up) (children_of paths i)) None 0) c (util_of_plan plan c)
      ≡ join (view_with p paths i false (map (kept_if plan.table (mark up c)) (children_of paths i)) None 0)
  util_taken i c lt parent up fresh =
      let xs : List ℕ = children_of paths i in
      let v : DpopView = view_with p paths i false (map (kept_if plan.table up) xs) None 0 in
      let S : List ℕ = separator_of p paths c in
      let t : CostTable = plan.table c in
      let lt_c : c < length paths = within_tree paths c i parent in
      let at = placed xs c (child_named paths i c parent) in
      let k : ℕ = at.place in
      let scope : t.scope ≡ S = scope_is p paths problem pseudo plan.table plan.table_is c lt_c in
      let open_there : slice_get (map (kept_if plan.table up) xs) k ≡ Some None =
      slice_get-map (kept_if plan.table up) xs k
      ∙ ap (option_map (kept_if plan.table up)) (slice_get-get_or xs k 0 at.inside ∙ ap (λ (x : ℕ). Some x) at.at)
      ∙ ap (λ (b : Bool). Some (cond b (Some t) None)) fresh in
      let sizes : map (size_of v) t.scope ≡ t.sizes =
      ap (map (size_of v)) scope ∙ sizes_are p paths problem pseudo i S (λ u h. above_parent paths pseudo.tree c i u parent (separator_above p paths problem pseudo c u h))
      ∙ sym (sizes_is p paths problem pseudo plan.table plan.table_is c lt_c) in
      let shaped : pointwise nat_eq t.scope (filter (has t.scope) (path_of paths i) ++ (i ∷ [])) ≡ true =
      subst (λ (s : List ℕ). pointwise nat_eq s (filter (has s) (path_of paths i) ++ (i ∷ [])) ≡ true) (sym scope)
      (subst (λ (s : List ℕ). pointwise nat_eq S s ≡ true) (child_separator i c parent) (equal_to_self S)) in
      let count : eqb (length t.cells) (product (map (size_of v) t.scope)) ≡ true =
      eq-eqb (length t.cells) (product (map (size_of v) t.scope)) (cells_full p paths problem pseudo plan.table plan.table_is c lt_c ∙ ap product (sym sizes)) in
      let wide : leb (joined_cells_with v (t.scope ∷ kept_scopes v)) joined_limit ≡ true =
      le-leb (joined_cells_with v (t.scope ∷ kept_scopes v)) joined_limit
      (subst (λ (s : List ℕ). joined_cells_with v (s ∷ kept_scopes v) ≤ joined_limit) (sym scope) (narrow_enough i c lt parent up)) in
      let takes : takes_util v k t.scope t.cells ≡ true = four _ _ _ _ (ap is_open open_there) shaped count wide in
      let kept : set (map (kept_if plan.table up) xs) k (Some t) ≡ map (kept_if plan.table (mark up c)) xs =
      ap (λ (o : Option CostTable). set (map (kept_if plan.table up) xs) k o) (sym (cond-true (mark up c c) (Some t) None (mark_here up c)))
      ∙ set_map (kept_if plan.table up) (kept_if plan.table (mark up c)) xs k c (filter_distinct (λ d. is_variable i (parent_of paths d)) (length paths) 0) at.inside at.at
      (λ x ne. ap (λ (b : Bool). cond b (Some (plan.table x)) None) (sym (mark_else up c x ne))) in
      ap (λ (o : Option ℕ). take_util v o t.scope t.cells) at.is
      ∙ cond-true (takes_util v k t.scope t.cells) (join (with_table v k t.scope t.cells)) (quiet v) takes
      ∙ ap (λ (ss : List ℕ). let u : CostTable = record { scope = t.scope; sizes = ss; cells = t.cells } in
      join (view_with p paths i false (set (map (kept_if plan.table up) xs) k (Some u)) None 0)) sizes
      ∙ ap (λ (ys : List (Option CostTable)). join (view_with p paths i false ys None 0)) kept

  -- VALUE of the parent is taken
  pub value_taken : (i w : ℕ) → i < length paths → parent_of paths i ≡ Some w
      → dpop_message (view_with p paths i false (all_kept i) (Some (plan.table i)) 0) w (values_for_child p paths plan.value i) ≡ decided plan i
  value_taken i w lt parent =
      let S : List ℕ = separator_of p paths i in
      let v : DpopView = view_with p paths i false (all_kept i) (Some (plan.table i)) 0 in
      let values : Context = context_of S plan.value in
      let sized = all-context_of (λ q. is_below_size (value_in (zip (path_of paths i) (sizes_of p (path_of paths i))) q.0) q.1) S plan.value (λ u h.
      let above = separator_above p paths problem pseudo i u h in
      let known = above_in_problem p paths problem pseudo u i above in
      let count = pseudo.sized in
      let inside : u < length paths = omega (arith, known, count) in
      let low = best_below p paths problem pseudo plan.table plan.table_is u inside plan.value in
      let is = plan.value_is u inside in
      ap (λ (o : Option ℕ). is_below_size o (plan.value u)) (value_in-zip (path_of paths i) (λ x. get_or p.sizes x 0) u above)
      ∙ lt-ltb (plan.value u) (get_or p.sizes u 0) (omega (arith, low, is))) in
      let named : list_all (λ u. is_some (value_in values u)) (separator v) ≡ true =
      subst (λ (vs : List ℕ). list_all (λ u. is_some (value_in values u)) vs ≡ true) (sym (full_separator p paths problem pseudo plan.table plan.table_is i))
      (all_from (λ u. is_some (value_in values u)) S (λ u h. ap is_some (value_in-context_of S plan.value u h))) in
      let from : is_value (parent_of paths i) w ≡ true = ap (λ (o : Option ℕ). is_value o w) parent ∙ eq-eqb w w refl in
      cond-true (takes_values v w values) (decide v values) (quiet v) (five _ _ _ _ _ from refl refl sized named)
      ∙ decide_is i lt values (λ u h. ap or_zero (value_in-context_of S plan.value u h))
