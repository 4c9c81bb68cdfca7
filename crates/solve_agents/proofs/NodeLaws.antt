-- The nodes of a tree that are kept from agents, where they are wanted.
use Rattle.std.proofs.Common.{◌≡◌, ℕ, Bool, true, false, cond, List, Option, Some, None, IfSome, is_some, sym, ap, subst}
use Rattle.dcop_base.specs.Problem.{Dcop}
use Rattle.pseudotree.specs.DepthFirst.{dfs}
use Rattle.solve_report.specs.declared.tree.NodeRow.{NodeRow}
use Rattle.solve_methods.specs.Tree.{rows_of}

pub nodes_kept : (p : Dcop) (paths : List (List ℕ)) (wanted : Bool) (nodes : Option (List NodeRow)) → paths ≡ dfs p → nodes ≡ cond wanted (Some (rows_of p paths)) None
    → IfSome nodes (λ rows. rows ≡ rows_of p (dfs p)) × (is_some nodes ≡ wanted)
nodes_kept p paths true nodes same is =
    (subst (λ (o : Option (List NodeRow)). IfSome o (λ rows. rows ≡ rows_of p (dfs p))) (sym is) (ap (rows_of p) same), ap is_some is)
nodes_kept p paths false nodes same is = (subst (λ (o : Option (List NodeRow)). IfSome o (λ rows. rows ≡ rows_of p (dfs p))) (sym is) tt, ap is_some is)
