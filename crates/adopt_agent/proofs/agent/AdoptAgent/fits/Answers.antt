use Rattle.std.proofs.Common.{sym, ap, ◌∙◌}
use Rattle.adopt_context.specs.Context.{Context}
use Rattle.protocol_steps.specs.Adopt.{AdoptView}
use Rattle.protocol_steps.specs.AdoptRange.{fits}
use Rattle.adopt_agent.specs.Stage.{view_at}
use Rattle.adopt_agent.proofs.LearnLaws.{part_fits}
use Rattle.adopt_agent.proofs.agent.AdoptAgent.fits.Goals as goal

pub returns-then-is_known : goal.returns-then-is_known
returns-then-is_known c =
    let a = c.self.inside in
    let told = c.args.context.now in
    let v : AdoptView = view_at a.own a.place a.error a.stage a.known a.value a.threshold a.last_received a.told_to_end a.bounds.rows in
    sym (part_fits v told a.known c.self.invariant.ground.known_fits (c.is_known.ensures.part c.if-is_known.true)) ∙ ap (λ (w : AdoptView). fits w told) c.self.view_is

pub returns : goal.returns
returns c =
    let a = c.self.inside in
    let told = c.args.context.now in
    let v : AdoptView = view_at a.own a.place a.error a.stage a.known a.value a.threshold a.last_received a.told_to_end a.bounds.rows in
    c.fit.ensures ∙ ap (λ (x : Context). fits v x) c.pairs.ensures.pairs ∙ ap (λ (w : AdoptView). fits w told) c.self.view_is
