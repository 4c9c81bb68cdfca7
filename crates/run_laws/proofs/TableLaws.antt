-- The tables of a plan are those of the subtree optima, and with its values they are a certificate.
use Rattle.std.proofs.Common.{◌≡◌, ℕ, ◌<◌, Bool, true, false, eqb, List, [], ◌∷◌, ◌++◌, map, length, get_or, Some, refl, sym, ap, ap₂, subst, ◌∙◌, inl, inr, arith}
use Rattle.std.specs.List.{range_with_len, All, Contains}
use Rattle.std.proofs.lemmas.Bool.{or_cases, eqb-true}
use Rattle.std.proofs.lemmas.List.{length-map}
use Rattle.std.proofs.lemmas.List.Elements.{All-nil, All-cons}
use Rattle.std.proofs.lemmas.List.FromFn.{get_or-map-range_with_len, length-range_with_len}
use Rattle.dcop_base.specs.Table.{CostTable, has, product}
use Rattle.dcop_base.specs.Problem.{Dcop}
use Rattle.dcop_base.specs.Graph.{neighbours}
use Rattle.dcop_base.specs.Whole.{IsProblem}
use Rattle.dcop_base.specs.Values.{cell_with}
use Rattle.dcop_base.proofs.FirstLaws.{Contains-head, Contains-tail}
use Rattle.dcop_base.proofs.JointLaws.{are_neighbours-sym}
use Rattle.pseudotree.specs.Tree.{parent_of, children_of}
use Rattle.pseudotree.specs.Pseudotree.{IsPseudotree, IsLinked, separator_of}
use Rattle.pseudotree.specs.Place.{sizes_of}
use Rattle.pseudotree.specs.Fault.{parents_of}
use Rattle.pseudotree.proofs.CheckLaws.{within_tree}
use Rattle.adopt_context.specs.Context.{Context}
use Rattle.protocol_steps.specs.declared.message.Message.{Message}
use Rattle.protocol_steps.specs.declared.message.Message.TheVariants.{Util, ValueAll}
use Rattle.dcop_optimum.specs.Subtree.{IsSubtreeOptimum}
use Rattle.dcop_optimum.specs.TreeOptimum.{IsFirstOptimumOf}
use Rattle.dcop_optimum.specs.Certificate.{util_of, IsTableCertificate}
use Rattle.dcop_optimum.specs.OptimumTables.{AreOptimumTables}
use Rattle.dcop_optimum.proofs.JoinLaws.{children_parent, listed}
use Rattle.dcop_optimum.proofs.ChoiceLaws.{best_choices_are_first}
use Rattle.dcop_optimum.proofs.OptimumTableLaws.{optima_make_certificates}
use Rattle.run_laws.specs.DpopAgents.{IsOptimumTable, IsSent}
use Rattle.run_laws.specs.DpopLaws.{separators_of}
use Rattle.run_laws.proofs.Plan.{Plan}
use Rattle.run_laws.proofs.FullLaws.{near_is, scope_is, sizes_is, cells_full, cells_are, best_choice}
use Rattle.run_laws.proofs.Marks.{told}

contained : (xs : List ℕ) (u : ℕ) → has xs u ≡ true → Contains xs u
contained [] u h = absurd (cc)
contained (x ∷ xs) u h = elim (or_cases (eqb x u) (has xs u) h) [
  | inl same ↦ subst (λ (y : ℕ). Contains (x ∷ xs) y) (eqb-true x u same) (Contains-head x xs)
  | inr later ↦ Contains-tail x xs u (contained xs u later)
]

-- what is told is good where both messages are
both_good : (P : Message → Type 0) (a b : Bool) (U V : Message) → P U → P V → All P (told a U ++ told b V)
both_good P true true U V hu hv = All-cons P U (V ∷ []) hu (All-cons P V [] hv (All-nil P))
both_good P true false U V hu hv = All-cons P U [] hu (All-nil P)
both_good P false true U V hu hv = All-cons P V [] hv (All-nil P)
both_good P false false U V hu hv = All-nil P

module _ (p : Dcop) (paths : List (List ℕ)) (problem : IsProblem p) (pseudo : IsPseudotree p paths) (plan : Plan p paths) where
  pub optimum_table : (i : ℕ) → i < length paths → IsOptimumTable p paths i (plan.table i)
  optimum_table i lt = record {
    scope = scope_is p paths problem pseudo plan.table plan.table_is i lt;
    sizes =
        sizes_is p paths problem pseudo plan.table plan.table_is i lt
        ∙ ap (sizes_of p) (sym (scope_is p paths problem pseudo plan.table plan.table_is i lt));
    full = cells_full p paths problem pseudo plan.table plan.table_is i lt;
    cells = cells_are p paths problem pseudo plan.table plan.table_is i lt;
  }

  -- what an agent sends
  pub sent_good : (i : ℕ) → i < length paths → (a b : Bool) (c : Context) → All (IsSent p paths i) (told a (Util (plan.table i).scope (plan.table i).cells) ++ told b (ValueAll c))
  sent_good i lt a b c =
      let t : CostTable = plan.table i in
      let is = optimum_table i lt in
      let same : IsOptimumTable p paths i (record { scope = t.scope; sizes = sizes_of p t.scope; cells = t.cells }) =
      subst (λ (ss : List ℕ). let u : CostTable = record { scope = t.scope; sizes = ss; cells = t.cells } in IsOptimumTable p paths i u) is.sizes is in
      both_good (IsSent p paths i) a b (Util t.scope t.cells) (ValueAll c) same tt

  -- the cells of all tables
  abbrev pub cells_of : List (List ℕ)
  cells_of = map (λ i. (plan.table i).cells) (range_with_len 0 (length paths))

  pub util_is : (i : ℕ) → i < length paths → util_of p (separators_of p paths) cells_of i ≡ plan.table i
  util_is i lt =
      let is = optimum_table i lt in
      let scope : get_or (separators_of p paths) i [] ≡ (plan.table i).scope =
      get_or-map-range_with_len (separator_of p paths) 0 (length paths) i i [] lt (omega arith) ∙ sym is.scope in
      let cells : get_or cells_of i [] ≡ (plan.table i).cells = get_or-map-range_with_len (λ j. (plan.table j).cells) 0 (length paths) i i [] lt (omega arith) in
      ap₂ (λ (vs : List ℕ) (cs : List ℕ). let t : CostTable = record { scope = vs; sizes = sizes_of p vs; cells = cs } in t) scope cells
      ∙ ap (λ (ss : List ℕ). let t : CostTable = record { scope = (plan.table i).scope; sizes = ss; cells = (plan.table i).cells } in t) (sym is.sizes)

  optimum_tables : AreOptimumTables p paths (separators_of p paths) cells_of
  optimum_tables = record {
    scopes_are = refl;
    full = λ i lt. subst (λ (t : CostTable). length t.cells ≡ product t.sizes) (sym (util_is i lt)) (optimum_table i lt).full;
    cells_are = λ i value lt above. subst (λ (t : CostTable). IsSubtreeOptimum p paths i value (cell_with t value)) (sym (util_is i lt)) ((optimum_table i lt).cells value above);
  }

  -- the values are the first optimum
  pub first_values : IsFirstOptimumOf p paths (listed p plan.value)
  first_values =
      best_choices_are_first p paths (listed p plan.value) problem pseudo
      (length-map (range_with_len 0 (length p.sizes)) plan.value ∙ length-range_with_len 0 (length p.sizes))
      (best_choice p paths problem pseudo plan.table plan.table_is plan.value plan.value_is)

  pub certificate : IsTableCertificate p (parents_of paths) (separators_of p paths) cells_of (listed p plan.value)
  certificate = optima_make_certificates p paths (separators_of p paths) cells_of (listed p plan.value) problem pseudo optimum_tables first_values.optimal

  -- an agent stands beside its parent and its children
  beside_parent : IsLinked p paths → (i u : ℕ) → parent_of paths i ≡ Some u → Contains (neighbours p i) u
  beside_parent linked i u parent =
      let inside = (pseudo.tree.nested i u parent).0 in
      let count = pseudo.sized in
      contained (neighbours p i) u (near_is p paths problem pseudo i u (omega (arith, inside, count)) ∙ linked i u parent)

  beside_child : IsLinked p paths → (i c : ℕ) → parent_of paths c ≡ Some i → Contains (neighbours p i) c
  beside_child linked i c parent =
      let inside = within_tree paths c i parent in
      let count = pseudo.sized in
      contained (neighbours p i) c (near_is p paths problem pseudo i c (omega (arith, inside, count)) ∙ are_neighbours-sym p c i (linked c i parent))

  pub stands : IsLinked p paths → (i : ℕ) → ((u : ℕ) → parent_of paths i ≡ Some u → Contains (neighbours p i) u) × All (Contains (neighbours p i)) (children_of paths i)
  stands linked i = (beside_parent linked i, λ k d lt. beside_child linked i (get_or (children_of paths i) k d) (children_parent paths i k d lt))
