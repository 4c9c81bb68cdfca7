use Rattle.std.proofs.Common.{refl, subst, ◌∙◌, IfOk}
use Rattle.dcop_base.specs.Problem.{Dcop}
use Rattle.solve_methods.specs.Dpop.{GivesChosen}
use Rattle.solve_agents.specs.Phases.{IsPhaseByDpop}
use Rattle.solve_agents.specs.Wiring.{HasUntrustedWire, MayFail}
use Rattle.solve_agents.proofs.WiringLaws.{fails_behind, fails_on}
use Rattle.solve_agents.proofs.choosing.choose_for.Goals as goal

pub returns-clause-chosen : goal.returns-clause-chosen
returns-clause-chosen g c = subst (λ (p : Dcop). IfOk c.choose.result (GivesChosen p c.args.certified)) (c.problem-problem.ensures ∙ c.in_ok-solved.ensures) c.choose.ensures.chosen

pub returns-clause-links : goal.returns-clause-links
returns-clause-links g c =
    subst (λ (p : Dcop). MayFail p (IsPhaseByDpop p) c.args.crew.now.nodes (HasUntrustedWire g.D.W.Wire.told (g.D.Dialer.is_honest c.args.dialer.now)) (g.D.Dialer.faults c.args.dialer.now) (g.D.Dialer.faults c.choose.new.dialer) c.choose.result) (c.problem-problem.ensures ∙ c.in_ok-solved.ensures)
    (fails_behind _ _ _ _ _ _ _ _ _ _ c.choose.result c.in_ok-wiring.ensures.links c.in_ok-wiring.ensures.nodes (λ many no. ((λ h. no (c.in_ok-wiring.ensures.honest h)), c.in_ok-wiring.ensures.given many)) (λ start most is. is) c.choose.ensures.links)

pub returns-in_err-wiring-clause-links : goal.returns-in_err-wiring-clause-links
returns-in_err-wiring-clause-links g c =
    subst (λ (p : Dcop). MayFail p (IsPhaseByDpop p) c.args.crew.now.nodes (HasUntrustedWire g.D.W.Wire.told (g.D.Dialer.is_honest c.args.dialer.now)) (g.D.Dialer.faults c.args.dialer.now) (g.D.Dialer.faults c.between.new.dialer) c.from_residual-in_err-wiring.result) (c.problem-problem.ensures ∙ c.in_ok-solved.ensures)
    (fails_on _ _ _ _ _ _ _ _ _ _ c.from_residual-in_err-wiring.result _ c.from_residual-in_err-wiring.ensures.1 refl refl (λ many h. h) (λ start most none. absurd none) c.in_err-wiring.ensures.links)
