use Rattle.std.proofs.Common.{subst}
use Rattle.std.proofs.lemmas.Result.{IfOk-weaker}
use Rattle.protocol_steps.specs.Adopt.{AdoptView}
use Rattle.protocol_steps.specs.AdoptStep.{back_track, adopt_step}
use Rattle.adopt_agent.specs.Deed.{GivesAdoptStep}
use Rattle.adopt_agent.proofs.AgentLaws.{handled, led_to}
use Rattle.adopt_agent.proofs.agent.AdoptAgent.handle_all.Goals as goal

pub returns-clause-gives : goal.returns-clause-gives
returns-clause-gives c =
    let old : AdoptView = c.args.self.now in
    let mid : AdoptView = c.loop-letter.self in
    let after : AdoptView = c.back_track.new.self in
    let ls = c.args.letters.now in
    let led = led_to ls c.loop-letter.letter-index mid (handled ls old) c.loop-letter-test.false c.loop-letter.invariant.leads in
    IfOk-weaker c.back_track.result (λ ps. GivesAdoptStep (back_track mid) after ps.items) (λ ps. GivesAdoptStep (adopt_step old ls) after ps.items)
    (λ ps g. subst (λ (v : AdoptView). GivesAdoptStep (back_track v) after ps.items) led g) c.back_track.ensures.gives
