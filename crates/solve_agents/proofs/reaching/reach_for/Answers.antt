use Rattle.std.proofs.Common.{refl, subst, ◌∙◌, IfOk}
use Rattle.dcop_base.specs.Problem.{Dcop}
use Rattle.solve_methods.specs.Reached.{HaveReached}
use Rattle.solve_agents.specs.Phases.{IsPhaseByAdopt}
use Rattle.solve_agents.specs.Wiring.{HasUntrustedWire, MayFail}
use Rattle.solve_agents.proofs.WiringLaws.{fails_behind, fails_on}
use Rattle.solve_agents.proofs.reaching.reach_for.Goals as goal

pub returns-clause-reached : goal.returns-clause-reached
returns-clause-reached g c = subst (λ (p : Dcop). IfOk c.reach.result (HaveReached p c.args.asked.error c.args.asked.budget c.args.asked.certified)) (c.problem-problem.ensures ∙ c.in_ok-solved.ensures) c.reach.ensures.reached

pub returns-clause-links : goal.returns-clause-links
returns-clause-links g c =
    subst (λ (p : Dcop). MayFail p (IsPhaseByAdopt p c.args.asked.error c.args.asked.budget) c.args.crew.now.nodes (HasUntrustedWire g.D.W.Wire.told (g.D.Dialer.is_honest c.args.dialer.now)) (g.D.Dialer.faults c.args.dialer.now) (g.D.Dialer.faults c.reach.new.dialer) c.reach.result) (c.problem-problem.ensures ∙ c.in_ok-solved.ensures)
    (fails_behind _ _ _ _ _ _ _ _ _ _ c.reach.result c.in_ok-wiring.ensures.links c.in_ok-wiring.ensures.nodes (λ many no. ((λ h. no (c.in_ok-wiring.ensures.honest h)), c.in_ok-wiring.ensures.given many)) (λ start most is. is) c.reach.ensures.links)

pub returns-in_err-wiring-clause-links : goal.returns-in_err-wiring-clause-links
returns-in_err-wiring-clause-links g c =
    subst (λ (p : Dcop). MayFail p (IsPhaseByAdopt p c.args.asked.error c.args.asked.budget) c.args.crew.now.nodes (HasUntrustedWire g.D.W.Wire.told (g.D.Dialer.is_honest c.args.dialer.now)) (g.D.Dialer.faults c.args.dialer.now) (g.D.Dialer.faults c.between.new.dialer) c.from_residual-in_err-wiring.result) (c.problem-problem.ensures ∙ c.in_ok-solved.ensures)
    (fails_on _ _ _ _ _ _ _ _ _ _ c.from_residual-in_err-wiring.result _ c.from_residual-in_err-wiring.ensures.1 refl refl (λ many h. h) (λ start most none. absurd none) c.in_err-wiring.ensures.links)
