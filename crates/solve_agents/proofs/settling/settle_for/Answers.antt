use Rattle.std.proofs.Common.{refl, subst, ◌∙◌, IfOk}
use Rattle.dcop_base.specs.Problem.{Dcop}
use Rattle.solve_methods.specs.Auto.{GivesSettled}
use Rattle.solve_agents.specs.Phases.{IsPhaseByAuto}
use Rattle.solve_agents.specs.Wiring.{HasUntrustedWire, MayFail}
use Rattle.solve_agents.proofs.WiringLaws.{fails_behind, fails_on}
use Rattle.solve_agents.proofs.settling.settle_for.Goals as goal

pub returns-clause-settled : goal.returns-clause-settled
returns-clause-settled g c = subst (λ (p : Dcop). IfOk c.settle.result (GivesSettled p c.args.asked.error c.args.asked.budget c.args.asked.certified)) (c.problem-problem.ensures ∙ c.in_ok-solved.ensures) c.settle.ensures.settled

pub returns-clause-links : goal.returns-clause-links
returns-clause-links g c =
    subst (λ (p : Dcop). MayFail p (IsPhaseByAuto p c.args.asked.error c.args.asked.budget) c.args.crew.now.nodes (HasUntrustedWire g.D.W.Wire.told (g.D.Dialer.is_honest c.args.dialer.now)) (g.D.Dialer.faults c.args.dialer.now) (g.D.Dialer.faults c.settle.new.dialer) c.settle.result) (c.problem-problem.ensures ∙ c.in_ok-solved.ensures)
    (fails_behind _ _ _ _ _ _ _ _ _ _ c.settle.result c.in_ok-wiring.ensures.links c.in_ok-wiring.ensures.nodes (λ many no. ((λ h. no (c.in_ok-wiring.ensures.honest h)), c.in_ok-wiring.ensures.given many)) (λ start most is. is) c.settle.ensures.links)

pub returns-in_err-wiring-clause-links : goal.returns-in_err-wiring-clause-links
returns-in_err-wiring-clause-links g c =
    subst (λ (p : Dcop). MayFail p (IsPhaseByAuto p c.args.asked.error c.args.asked.budget) c.args.crew.now.nodes (HasUntrustedWire g.D.W.Wire.told (g.D.Dialer.is_honest c.args.dialer.now)) (g.D.Dialer.faults c.args.dialer.now) (g.D.Dialer.faults c.between.new.dialer) c.from_residual-in_err-wiring.result) (c.problem-problem.ensures ∙ c.in_ok-solved.ensures)
    (fails_on _ _ _ _ _ _ _ _ _ _ c.from_residual-in_err-wiring.result _ c.from_residual-in_err-wiring.ensures.1 refl refl (λ many h. h) (λ start most none. absurd none) c.in_err-wiring.ensures.links)
