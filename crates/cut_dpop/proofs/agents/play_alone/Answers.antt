use Rattle.std.proofs.Common.{ℕ, ◌*◌, ◌-◌, List, length, ap, subst, ◌∙◌}
use Rattle.std.specs.Prelude.{IfOk}
use Rattle.dcop_base.specs.Problem.{Dcop}
use Rattle.protocol_steps.specs.Outcomes.{HaveRun}
use Rattle.delivery_core.specs.Agents.{agents_of}
use Rattle.cut_dpop.proofs.agents.play_alone.Goals as goal

pub returns : goal.returns
returns g c = subst (λ (xs : List ℕ). IfOk c.play_out.result (HaveRun (2 * (length xs - 1)) (agents_of c.args.problem.now c.args.start.now))) (c.as_slice.ensures ∙ ap (λ (q : Dcop). q.sizes) c.problem.view_is) c.play_out.ensures.run
