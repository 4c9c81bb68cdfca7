use Rattle.std.proofs.Common.{subst}
use Rattle.std.proofs.lemmas.Result.{IfOk-weaker}
use Rattle.protocol_steps.specs.Adopt.{AdoptView}
use Rattle.protocol_steps.specs.AdoptStep.{back_track, adopt_start}
use Rattle.adopt_agent.specs.declared.stage.Stage.TheVariants.{Working}
use Rattle.adopt_agent.specs.Stage.{view_at}
use Rattle.adopt_agent.specs.Deed.{GivesAdoptStep}
use Rattle.adopt_agent.proofs.AgentLaws.{begun}
use Rattle.adopt_agent.proofs.agent.AdoptAgent.begin.Goals as goal

pub returns-clause-gives : goal.returns-clause-gives
returns-clause-gives c =
    let a = c.self.inside in
    let old : AdoptView = c.args.self.now in
    let after : AdoptView = c.back_track.new.self in
    let mid : AdoptView = view_at a.own a.place a.error Working a.known c.best_lower-self-inside.result a.threshold a.last_received a.told_to_end a.bounds.rows in
    let starts = begun a.own a.place a.error a.stage a.known a.value a.threshold a.last_received a.told_to_end a.bounds.rows old c.best_lower-self-inside.result c.self.view_is c.requires.waiting c.best_lower-self-inside.ensures.best in
    IfOk-weaker c.back_track.result (λ ps. GivesAdoptStep (back_track mid) after ps.items) (λ ps. GivesAdoptStep (adopt_start old) after ps.items)
    (λ ps g. subst (λ (v : AdoptView). GivesAdoptStep (back_track v) after ps.items) starts g) c.back_track.ensures.gives
