use Rattle.std.proofs.Common.{◌≡◌, ℕ, List, is_some, refl, subst, ◌∙◌}
use Rattle.pseudotree.specs.DepthFirst.{dfs}
use Rattle.pseudotree.specs.Width.{IsNarrow}
use Rattle.protocol_steps.specs.TreeAgents.{dpop_agents}
use Rattle.protocol_steps.specs.Outcomes.{HaveRun}
use Rattle.solve_agents.proofs.NodeLaws.{nodes_kept}
use Rattle.solve_agents.proofs.WiringLaws.{fails_on}
use Rattle.solve_agents.proofs.choosing.choose_on.Goals as goal

pub run_over-requires-clause-start : goal.run_over-requires-clause-start
run_over-requires-clause-start g c κs within = record { pseudotree = c.requires.found.tree; linked = c.requires.found.linked }

pub chosen_by-requires-clause-narrow : goal.chosen_by-requires-clause-narrow
chosen_by-requires-clause-narrow g c = subst (λ (paths : List (List ℕ)). IsNarrow c.args.problem.now paths) c.requires.found.paths c.requires.narrow

pub chosen_by-requires-clause-nodes : goal.chosen_by-requires-clause-nodes
chosen_by-requires-clause-nodes g c =
    let kept = rw c.in_ok-rows.was at (c.node_rows_if.ensures c.args.problem.now c.requires.found.tree) in
    (nodes_kept c.args.problem.now c.args.found.tree.paths c.args.certified c.in_ok-rows.rows c.requires.found.paths kept).0

pub chosen_by-requires-clause-run : goal.chosen_by-requires-clause-run
chosen_by-requires-clause-run g c =
    subst (λ (budget : ℕ). HaveRun budget (dpop_agents c.args.problem.now (dfs c.args.problem.now)) c.in_ok-ran.ran.outcome) c.choice_deliveries-budget.ensures.all
    (subst (λ (paths : List (List ℕ)). HaveRun c.choice_deliveries-budget.result (dpop_agents c.args.problem.now paths) c.in_ok-ran.ran.outcome) c.requires.found.paths c.in_ok-ran.ensures.logged.run)

pub returns-clause-asked : goal.returns-clause-asked
returns-clause-asked g c =
    let kept = rw c.in_ok-rows.was at (c.node_rows_if.ensures c.args.problem.now c.requires.found.tree) in
    let same : is_some c.in_ok-rows.rows ≡ c.args.certified = (nodes_kept c.args.problem.now c.args.found.tree.paths c.args.certified c.in_ok-rows.rows c.requires.found.paths kept).1 in
    c.in_ok-chosen_by.ensures.asked ∙ same

pub returns-in_err-ran-clause-links : goal.returns-in_err-ran-clause-links
returns-in_err-ran-clause-links g c = fails_on _ _ _ _ _ _ _ _ _ _ c.from_residual-in_err-ran.result _ c.from_residual-in_err-ran.ensures.1 refl refl (λ many h. h) (λ start most is. (c.args.found.tree, is.0, c.requires.found.paths, is.1 ∙ c.choice_deliveries-budget.ensures.all)) c.in_err-ran.ensures.links
