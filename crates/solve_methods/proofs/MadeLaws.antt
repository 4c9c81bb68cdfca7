-- The tables that the agents of a problem made are those of its variables, by the nodes of its tree in preorder.
use Rattle.std.proofs.Common.{◌≡◌, ℕ, ◌<◌, List, [], ◌∷◌, map, Option, Some, None, IfSome, is_some, refl, sym, ap, subst, All}
use Rattle.std.specs.Option.{option_map}
use Rattle.dcop_base.specs.Table.{CostTable}
use Rattle.dcop_base.specs.Problem.{Dcop}
use Rattle.pseudotree.specs.DepthFirst.{dfs}
use Rattle.pseudotree.specs.Preorder.{preorder_of}
use Rattle.pseudotree.specs.Pseudotree.{separator_of, IsPseudotree}
use Rattle.certificate_text.specs.declared.certificate.Certificate.{Certificate}
use Rattle.certificate_text.specs.declared.certificate.Util.{Util}
use Rattle.minimised_problem.specs.Utils.{AreUtilsOf, HaveMade, util_with}
use Rattle.minimised_problem.proofs.MadeLaws.{utils_made}
use Rattle.solve_report.specs.declared.tree.NodeRow.{NodeRow}
use Rattle.solve_methods.specs.Agreed.{node_util, certificate_with}
use Rattle.solve_methods.specs.Certified.{HasUtilsOf}
use Rattle.solve_methods.specs.Tree.{row_with, rows_of}
use Rattle.solve_methods.proofs.RowLaws.{preorder_below}

-- the tables of nodes are those of their variables
utils_same : (p : Dcop) (paths : List (List ℕ)) (tables : List (Option CostTable)) (vs : List ℕ) → map (node_util tables) (map (row_with (separator_of p paths) paths) vs) ≡ map (util_with (separator_of p paths) paths tables) vs
utils_same p paths tables [] = refl
utils_same p paths tables (v ∷ vs) = ap (λ (us : List Util). util_with (separator_of p paths) paths tables v ∷ us) (utils_same p paths tables vs)

module _ (p : Dcop) (tables : List (Option CostTable)) (made : HaveMade p (dfs p) tables) where
  utils_are : IsPseudotree p (dfs p) → AreUtilsOf p (dfs p) (map (node_util tables) (rows_of p (dfs p)))
  utils_are is_tree =
      subst (AreUtilsOf p (dfs p)) (sym (utils_same p (dfs p) tables (preorder_of (dfs p))))
      (utils_made p (dfs p) tables made (separator_of p (dfs p)) (λ v lt. refl) (preorder_of (dfs p))
      (subst (λ (n : ℕ). All (λ v. v < n) (preorder_of (dfs p))) is_tree.sized (preorder_below (dfs p))))

  -- a certificate is there exactly where nodes are given, and it has the tables of all variables
  pub certificate_made : IsPseudotree p (dfs p) → (nodes : Option (List NodeRow)) (certificate : Option Certificate) → IfSome nodes (λ rows. rows ≡ rows_of p (dfs p)) → certificate ≡ option_map (certificate_with tables) nodes
      → (is_some certificate ≡ is_some nodes) × IfSome certificate (HasUtilsOf p)
  certificate_made is_tree None certificate are is = (ap is_some is, subst (λ (o : Option Certificate). IfSome o (HasUtilsOf p)) (sym is) tt)
  certificate_made is_tree (Some nodes) certificate are is = (
    ap is_some is,
    subst (λ (o : Option Certificate). IfSome o (HasUtilsOf p)) (sym is)
        (subst (λ (rows : List NodeRow). AreUtilsOf p (dfs p) (map (node_util tables) rows)) (sym are) (utils_are is_tree)),
  )
