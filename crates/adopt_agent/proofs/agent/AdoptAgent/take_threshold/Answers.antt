use Rattle.std.proofs.Common.{sym, ◌∙◌}
use Rattle.adopt_agent.proofs.MessageLaws.{threshold_taken}
use Rattle.adopt_agent.proofs.agent.AdoptAgent.take_threshold.Goals as goal

pub returns-then-compatible-clause-taken : goal.returns-then-compatible-clause-taken
returns-then-compatible-clause-taken c =
    let a = c.self.inside in
    threshold_taken a.own a.place a.error a.stage a.known a.value a.threshold a.last_received a.told_to_end a.bounds.rows c.args.self.now c.restore.new.self c.args.from c.args.amount c.args.context.now
    c.self.view_is (sym c.takes_from_parent.ensures ∙ c.if-not-takes_from_parent.false) (sym c.compatible.ensures ∙ c.if-compatible.true) c.restore.ensures
