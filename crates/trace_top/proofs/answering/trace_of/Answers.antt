use Rattle.std.proofs.Common.{◌≡◌, ℕ, List, ap, ◌∙◌, subst}
use Rattle.dcop_base.specs.Problem.{Dcop}
use Rattle.pseudotree.specs.DepthFirst.{dfs}
use Rattle.protocol_steps.specs.Network.{start_state}
use Rattle.protocol_steps.specs.TreeAgents.{adopt_agents}
use Rattle.problem_text.specs.File.{TextFile}
use Rattle.minimised_problem.specs.Goal.{problem_solved}
use Rattle.minimised_problem.specs.LogHolds.{agents_for}
use Rattle.trace_text.specs.Trace.{Traces}
use Rattle.trace_top.proofs.answering.trace_of.Goals as goal

pub returns : goal.returns
returns c =
    let same : c.problem.result.now ≡ problem_solved c.args.file.now = c.problem.ensures ∙ c.in_ok-solved.ensures in
    let names : c.file.inside.names ≡ c.args.file.now.names = ap (λ (f : TextFile). f.names) c.file.view_is in
    subst (λ (ns : List (List ℕ)). Traces ns c.args.from (start_state (agents_for c.args.file.now c.args.error)) c.args.log.now c.trace_in.result) names
    (subst (λ (p : Dcop). Traces c.file.inside.names c.args.from (start_state (adopt_agents p (dfs p) c.args.error)) c.args.log.now c.trace_in.result) same c.trace_in.ensures)
