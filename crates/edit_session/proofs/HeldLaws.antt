-- Tables that are held are those of a plan: their cells are the subtree optima, and lowest picks of them the first optimum.
use Rattle.std.proofs.Common.{◌≡◌, ℕ, ◌*◌, ◌<◌, Bool, true, false, cond, ◌&&◌, List, [], ◌∷◌, ◌++◌, map, length, get_or, Option, Some, None, is_some, refl, sym, ap, ap₂, subst, ◌∙◌, arith}
use Rattle.std.specs.List.{filter, range_with_len}
use Rattle.std.proofs.lemmas.Bool.{and_from}
use Rattle.std.proofs.lemmas.Option.{same_Some, get_or_from_slice_get}
use Rattle.std.proofs.lemmas.List.{get_or_default, ext_get_or, length-map}
use Rattle.std.proofs.lemmas.List.Elements.{filter-append}
use Rattle.std.proofs.lemmas.List.FromFn.{length-range_with_len}
use Rattle.dcop_base.specs.Table.{CostTable, has, product}
use Rattle.dcop_base.specs.Problem.{Dcop}
use Rattle.dcop_base.specs.Graph.{are_neighbours}
use Rattle.dcop_base.specs.Whole.{IsProblem}
use Rattle.dcop_base.specs.Knowledge.{private_of}
use Rattle.pseudotree.specs.Tree.{path_of, parent_of, children_of, is_variable, is_above}
use Rattle.pseudotree.specs.Pseudotree.{IsPseudotree, IsLinked, is_within, separator_of, touches}
use Rattle.pseudotree.specs.Width.{IsNarrow, joined_cells}
use Rattle.pseudotree.proofs.CheckLaws.{within_tree}
use Rattle.pseudotree.proofs.OrderLaws.{filter_below}
use Rattle.pseudotree.proofs.SpreadLaws.{any_in_range, above_child, above_parent, filter_same}
use Rattle.pseudotree.proofs.NestLaws.{has_filter, filter_has}
use Rattle.protocol_steps.specs.Dpop.{size_of, separator, util_table, best_value}
use Rattle.protocol_steps.specs.TreeAgents.{place_at}
use Rattle.protocol_steps.proofs.PrivateLaws.{privates_are_knowledge}
use Rattle.protocol_steps.proofs.PlacingLaws.{places_fit}
use Rattle.dcop_optimum.specs.TreeOptimum.{IsBestChoice}
use Rattle.dcop_optimum.proofs.LineLaws.{within_self, within_above, below_child}
use Rattle.dcop_optimum.proofs.JoinLaws.{children_parent, separator_above, within_in_problem, listed, listed_at}
use Rattle.dcop_optimum.proofs.ChoiceLaws.{best_choices_are_first}
use Rattle.run_laws.specs.DpopAgents.{IsOptimumTable}
use Rattle.run_laws.proofs.ListLaws.{same_truth, map_alike, from_leaves, has_at}
use Rattle.run_laws.proofs.Plan.{Plan, view_with, full}
use Rattle.run_laws.proofs.SomePlan.{some_plan}
use Rattle.run_laws.proofs.FullLaws.{child_is, sizes_are, separator_within, scope_is, sizes_is, full_separator, best_reads, best_choice}
use Rattle.run_laws.proofs.TableLaws.{optimum_table}
use Rattle.dpop_agent.specs.declared.made.Made.{Made}
use Rattle.dpop_agent.specs.Keeping.{IsChildTable, MayKeep}
use Rattle.dpop_agent.specs.Remade.{sent_by, sent_at, joined_count}
use Rattle.edit_session.specs.Held.{agent_with, IsHeld, AreHeldFrom, AreAllHeld}
use Rattle.edit_session.specs.MadeLaws.{MadeTablesAreOptima, LowestPicksAreFirst, AreLowestPicks, AreChildrenHeld, MayBeJoined, ChildrenMayBeJoined, ReadsSeparator, PicksReadSeparators}

-- the table that an agent sent, where its tables are held
pub sent_is_made : (p : Dcop) (paths : List (List ℕ)) (kept : List (Option Made)) (i : ℕ) (held : IsHeld p paths kept i) → sent_at kept i ≡ Some held.made.sent
sent_is_made p paths kept i held = ap sent_by (get_or_from_slice_get kept i (Some held.made) None held.there)

-- what is held for a variable and its descendants is held for each child and its descendants
pub held_from_child : (p : Dcop) (paths : List (List ℕ)) (kept : List (Option Made)) → IsPseudotree p paths → (i c : ℕ) → parent_of paths c ≡ Some i → AreHeldFrom p paths kept i → AreHeldFrom p paths kept c
held_from_child p paths kept pseudo i c parent held j within = held j (within_above paths i j (below_child paths pseudo.tree i c j parent within))

module _ (p : Dcop) (paths : List (List ℕ)) (problem : IsProblem p) (pseudo : IsPseudotree p paths) (kept : List (Option Made)) where
  abbrev plan : Plan p paths
  plan = some_plan p paths problem pseudo

  -- what held agents sent is what is planned
  pub sent_is : (i : ℕ) → i < length paths → AreHeldFrom p paths kept i → sent_at kept i ≡ Some (plan.table i)
  sent_is =
      from_leaves paths pseudo.tree (λ i. AreHeldFrom p paths kept i → sent_at kept i ≡ Some (plan.table i))
      (λ i lt below held.
      let here = held i (within_self paths i) in
      let children : map (sent_at kept) (children_of paths i) ≡ map (λ c. Some (plan.table c)) (children_of paths i) =
      map_alike (sent_at kept) (λ c. Some (plan.table c)) (children_of paths i)
      (λ c h. below c (child_is paths i c h) (held_from_child p paths kept pseudo i c (child_is paths i c h) held)) in
      sent_is_made p paths kept i here
      ∙ ap (λ (t : CostTable). Some t) (here.tables.sent ∙ ap (λ (ks : List (Option CostTable)). util_table (view_with p paths i false ks None 0)) children ∙ sym (plan.table_is i lt)))

  children_sent : (i : ℕ) → AreChildrenHeld p paths kept i → (c : ℕ) → parent_of paths c ≡ Some i → sent_at kept c ≡ Some (plan.table c)
  children_sent i held c parent = sent_is c (within_tree paths c i parent) (held c parent)

  children_are : (i : ℕ) → AreChildrenHeld p paths kept i → map (sent_at kept) (children_of paths i) ≡ map (λ c. Some (plan.table c)) (children_of paths i)
  children_are i held = map_alike (sent_at kept) (λ c. Some (plan.table c)) (children_of paths i) (λ c h. children_sent i held c (child_is paths i c h))

  pub optimum_is : (i : ℕ) → i < length p.sizes → AreHeldFrom p paths kept i → (held : IsHeld p paths kept i) → IsOptimumTable p paths i held.made.sent
  optimum_is i lt from held =
      let count = pseudo.sized in
      let inside : i < length paths = omega (arith, lt, count) in
      subst (IsOptimumTable p paths i) (sym (same_Some held.made.sent (plan.table i) (sym (sent_is_made p paths kept i held) ∙ sent_is i inside from))) (optimum_table p paths problem pseudo plan i inside)

  -- lowest picks are the first optimum
  pub picks_first : (values : List ℕ) → AreAllHeld p paths kept → length values ≡ length p.sizes → AreLowestPicks p paths kept values
      → (i : ℕ) → i < length p.sizes → IsBestChoice p paths values i
  picks_first values all long picks i lt =
      let count = pseudo.sized in
      let chosen : ℕ → ℕ = λ u. get_or values u 0 in
      let listed_same : listed p chosen ≡ values =
      ext_get_or 0 (listed p chosen) values (length-map (range_with_len 0 (length p.sizes)) chosen ∙ length-range_with_len 0 (length p.sizes) ∙ sym long)
      (λ k inside. listed_at p chosen k (let size = length-map (range_with_len 0 (length p.sizes)) chosen in let size' = length-range_with_len 0 (length p.sizes) in omega (arith, inside, size, size'))) in
      let is : (j : ℕ) → j < length paths → chosen j ≡ best_value (full p paths plan.table j) chosen = λ j inside.
      let within : j < length p.sizes = omega (arith, inside, count) in
      picks j within
      ∙ ap (λ (ks : List (Option CostTable)). best_value (view_with p paths j false ks None 0) chosen)
      (children_are j (λ c parent k under. all k (within_in_problem p paths problem pseudo c k (let known = within_tree paths c j parent in omega (arith, known, count)) under))) in
      subst (λ (xs : List ℕ). IsBestChoice p paths xs i) listed_same (best_choice p paths problem pseudo plan.table plan.table_is chosen is i lt)

  reads : (i : ℕ) → AreChildrenHeld p paths kept i → ReadsSeparator p paths kept i
  reads i held =
      let are = children_are i held in
      record {
        separator_is = ap (λ (ks : List (Option CostTable)). separator (view_with p paths i false ks None 0)) are ∙ full_separator p paths problem pseudo plan.table plan.table_is i;
        sizes_are = sizes_are p paths problem pseudo i (separator_of p paths i) (separator_within p paths problem pseudo i);
        same = λ f g same.
            ap (λ (ks : List (Option CostTable)). best_value (view_with p paths i false ks None 0) f) are
            ∙ best_reads p paths problem pseudo plan.table plan.table_is i f g same
            ∙ sym (ap (λ (ks : List (Option CostTable)). best_value (view_with p paths i false ks None 0) g) are);
      }

  module _ (linked : IsLinked p paths) (narrow : IsNarrow p paths) where
    -- the separator of a child: variables of the path, and the variable itself
    child_separator : (i c : ℕ) → parent_of paths c ≡ Some i → separator_of p paths c ≡ filter (has (separator_of p paths c)) (path_of paths i) ++ (i ∷ [])
    child_separator i c parent =
        let touched : touches p paths c i ≡ true =
        any_in_range (λ w. is_within paths c w && are_neighbours p w i) (length paths) c (within_tree paths c i parent)
        (and_from (is_within paths c c) (are_neighbours p c i) (within_self paths c) (linked c i parent)) in
        ap (filter (touches p paths c)) (pseudo.tree.nested c i parent).1
        ∙ filter-append (touches p paths c) (path_of paths i) (i ∷ [])
        ∙ ap₂ (λ (xs : List ℕ) (ys : List ℕ). xs ++ ys)
        (filter_same (touches p paths c) (has (separator_of p paths c)) (path_of paths i) (λ k d lt.
        let u : ℕ = get_or (path_of paths i) k d in
        let above : is_above paths u i ≡ true = subst (λ (x : ℕ). has (path_of paths i) x ≡ true) (get_or_default (path_of paths i) k 0 d lt) (has_at (path_of paths i) k lt) in
        same_truth (touches p paths c u) (has (separator_of p paths c) u)
        (λ h. filter_has (touches p paths c) (path_of paths c) u (above_child paths pseudo.tree c i u parent (within_above paths u i above)) h)
        (λ h. (has_filter (touches p paths c) (path_of paths c) u h).1)))
        (ap (λ (b : Bool). cond b (i ∷ []) []) touched)

    child_table : (i c : ℕ) → parent_of paths c ≡ Some i → IsChildTable (private_of p i) (place_at p paths i) (plan.table c)
    child_table i c parent =
        let inside = within_tree paths c i parent in
        let scope : (plan.table c).scope ≡ separator_of p paths c = scope_is p paths problem pseudo plan.table plan.table_is c inside in
        record {
          scope = subst (λ (s : List ℕ). s ≡ filter (has s) (path_of paths i) ++ (i ∷ [])) (sym scope) (child_separator i c parent);
          sizes =
              sizes_is p paths problem pseudo plan.table plan.table_is c inside
              ∙ sym (sizes_are p paths problem pseudo i (separator_of p paths c) (λ u h. above_parent paths pseudo.tree c i u parent (separator_above p paths problem pseudo c u h)))
              ∙ ap (map (size_of (view_with p paths i false [] None 0))) (sym scope);
        }

    counted : (i : ℕ) → AreChildrenHeld p paths kept i → joined_count (agent_with p paths kept i) ≡ joined_cells p paths i
    counted i held =
        let size : ℕ = get_or p.sizes i 0 in
        ap (λ (ks : List (Option CostTable)). size * product (map (size_of (view_with p paths i false [] None 0)) (separator (view_with p paths i false ks None 0)))) (children_are i held)
        ∙ ap (λ (vs : List ℕ). size * product (map (size_of (view_with p paths i false [] None 0)) vs)) (full_separator p paths problem pseudo plan.table plan.table_is i)
        ∙ ap (λ (ss : List ℕ). size * product ss) (sizes_are p paths problem pseudo i (separator_of p paths i) (separator_within p paths problem pseudo i))

    pub may_be_joined : length kept ≡ length p.sizes → (i : ℕ) → i < length p.sizes → AreChildrenHeld p paths kept i → MayBeJoined p paths kept i
    may_be_joined long i lt held =
        let count = pseudo.sized in
        let cells = counted i held in
        let limit = narrow i (omega (arith, lt, count)) in
        record {
          may = record {
            known = privates_are_knowledge p i problem lt;
            placed = places_fit p paths i (place_at p paths i) problem pseudo linked lt (record { me = refl; path = refl; path_sizes = refl; children = refl; lower = refl });
            inside = λ k d l. let below = filter_below (λ c. is_variable i (parent_of paths c)) (length paths) k d l in omega (arith, below, count, long);
            all = λ k d l. ap is_some (children_sent i held (get_or (children_of paths i) k d) (children_parent paths i k d l));
            tables = λ k d l.
                let c : ℕ = get_or (children_of paths i) k d in
                let parent = children_parent paths i k d l in
                subst (MayKeep (private_of p i) (place_at p paths i)) (sym (children_sent i held c parent)) (child_table i c parent);
            narrow = omega (arith, cells, limit);
          };
          cells = cells;
        }

pub made_tables_are_optima : MadeTablesAreOptima
made_tables_are_optima p paths kept i problem pseudo lt from held = optimum_is p paths problem pseudo kept i lt from held

pub lowest_picks_are_first : LowestPicksAreFirst
lowest_picks_are_first p paths kept values problem pseudo all long picks =
    best_choices_are_first p paths values problem pseudo long (picks_first p paths problem pseudo kept values all long picks)

pub children_may_be_joined : ChildrenMayBeJoined
children_may_be_joined p paths kept i problem pseudo linked narrow long lt held = may_be_joined p paths problem pseudo kept linked narrow long i lt held

pub picks_read_separators : PicksReadSeparators
picks_read_separators p paths kept i problem pseudo held = reads p paths problem pseudo kept i held
