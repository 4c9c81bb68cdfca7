use Rattle.std.proofs.Common.{sym, ap, ◌∙◌}
use Rattle.std.proofs.lemmas.Bool.{false≢true}
use Rattle.protocol_steps.specs.Adopt.{AdoptView}
use Rattle.protocol_steps.specs.AdoptStep.{adopt_start}
use Rattle.adopt_agent.specs.Deed.{GivesAdoptStep}
use Rattle.adopt_agent.proofs.AgentLaws.{has_failed, is_start, start_reaches}
use Rattle.adopt_agent.proofs.agent.AdoptAgentMachine.start.Goals as goal
use Rattle.adopt_agent.proofs.agent.AdoptAgentMachine.start.Goals.{in-Failed, in_default}

pub returns-clause-ok : goal.returns-clause-ok
returns-clause-ok c =
    let gives = c.in-Ok.ensures.gives in
    let starts : GivesAdoptStep (adopt_start c.args.self.now) c.begin.new.self c.from_vec-2.result = record { viewed = gives.viewed; sent = c.from_vec-2.ensures ∙ gives.sent } in
    is_start c.args.self.now c.begin.new.self c.from_vec-2.result starts

pub returns-clause-receivers : goal.returns-clause-receivers
returns-clause-receivers c =
    let gives = c.in-Ok.ensures.gives in
    let starts : GivesAdoptStep (adopt_start c.args.self.now) c.begin.new.self c.from_vec-2.result = record { viewed = gives.viewed; sent = c.from_vec-2.ensures ∙ gives.sent } in
    start_reaches c.args.self.now c.begin.new.self c.from_vec-2.result starts

pub returns-clause-again : goal.returns-clause-again
returns-clause-again c = λ failed.
    let at = has_failed c.self.inside.stage (ap (λ (v : AdoptView). v.phase.failed) c.self.view_is ∙ failed) in
    elim c.match-matches.branch [
      | in-Failed w ↦ absurd (false≢true (sym c.if-matches.false ∙ w.matches-is))
      | in_default w ↦ absurd (w.in_default.not-Failed at)
    ]
