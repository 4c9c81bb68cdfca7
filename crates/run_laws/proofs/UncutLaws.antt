-- No joined cell is cut at the cap, whatever tables of its children an agent keeps.
use Rattle.std.proofs.Common.{◌≡◌, ℕ, ◌+◌, ◌≤◌, ◌<◌, Bool, true, false, cond, List, length, map, get_or, Option, ap, ◌∙◌, arith}
use Rattle.std.specs.List.{sum_by, filter}
use Rattle.dcop_base.specs.Table.{CostTable}
use Rattle.dcop_base.specs.Problem.{Dcop}
use Rattle.dcop_base.specs.Whole.{IsProblem}
use Rattle.dcop_base.specs.Values.{cell_with, cost_with, with_own}
use Rattle.dcop_base.specs.Limits.{amount_limit}
use Rattle.pseudotree.specs.Tree.{children_of}
use Rattle.pseudotree.specs.Pseudotree.{IsPseudotree}
use Rattle.pseudotree.proofs.CheckLaws.{within_tree}
use Rattle.protocol_steps.specs.Dpop.{DpopView, own_tables, kept_tables}
use Rattle.dcop_optimum.specs.Subtree.{own_tables_of}
use Rattle.dcop_optimum.specs.Decomposition.{best_cost_at}
use Rattle.dcop_optimum.proofs.SumLaws.{sum_filter, sum_le}
use Rattle.dcop_optimum.proofs.OptimumTableLaws.{costs_are_within_cap}
use Rattle.run_laws.specs.DpopAgents.{AreUncut}
use Rattle.run_laws.proofs.Plan.{view_with, kept_if, Plan}
use Rattle.run_laws.proofs.FullLaws.{sum_map, cap_is, own_is, child_values, cells_are}
use Rattle.run_laws.proofs.DpopAgentLaws.{kept_some}

some_part : (b : Bool) (x : ℕ) → cond b x 0 ≤ x
some_part true x = omega arith
some_part false x = omega arith

pub uncut : (p : Dcop) (paths : List (List ℕ)) (problem : IsProblem p) (pseudo : IsPseudotree p paths) (plan : Plan p paths) (i : ℕ) → i < length paths
    → (up : ℕ → Bool) (ended : Bool) (made : Option CostTable) (chosen : ℕ) → AreUncut p paths i (view_with p paths i ended (map (kept_if plan.table up) (children_of paths i)) made chosen)
uncut p paths problem pseudo plan i lt up ended made chosen value d above inside =
    let v : DpopView = view_with p paths i ended (map (kept_if plan.table up) (children_of paths i)) made chosen in
    let f : ℕ → ℕ = with_own i d value in
    let said : ℕ → ℕ → ℕ = λ (e : ℕ) (c : ℕ). cell_with (plan.table c) (with_own i e value) in
    let count = pseudo.sized in
    let own : cost_with (own_tables v) f ≡ cost_with (own_tables_of p paths i) f = ap (λ (ts : List CostTable). cost_with ts f) (own_is p paths problem pseudo i) in
    let kept : cost_with (kept_tables v) f ≡ sum_by (λ c. cond (up c) (said d c) 0) (children_of paths i) =
    ap (λ (ts : List CostTable). cost_with ts f) (kept_some plan.table up (children_of paths i)) ∙ sum_map (λ t. cell_with t f) plan.table (filter up (children_of paths i))
    ∙ sum_filter (said d) up (children_of paths i) in
    let le = sum_le (λ c. cond (up c) (said d c) 0) (said d) (children_of paths i) (λ k e l. some_part (up (get_or (children_of paths i) k e)) (said d (get_or (children_of paths i) k e))) in
    let whole : best_cost_at p paths i value said d ≤ amount_limit =
    (costs_are_within_cap p paths problem pseudo).best i value said d (omega (arith, lt, count)) above
    (λ e c small parent. cells_are p paths problem pseudo plan.table plan.table_is c (within_tree paths c i parent) (with_own i e value) (child_values p paths problem pseudo i c e value parent above small))
    inside in
    cap_is (cost_with (own_tables v) f + cost_with (kept_tables v) f) (omega (arith, own, kept, le, whole))
