use Rattle.std.proofs.Common.{sym, ◌∙◌}
use Rattle.adopt_agent.proofs.MessageLaws.{end_taken}
use Rattle.adopt_agent.proofs.agent.AdoptAgent.take_end.Goals as goal

pub returns-clause-taken : goal.returns-clause-taken
returns-clause-taken c =
    let a = c.self.inside in
    end_taken a.own a.place a.error a.stage a.known a.value a.threshold a.last_received a.told_to_end a.bounds.rows c.args.self.now c.move_to.new.self c.args.from c.args.context.now c.in_ok-known.known
    c.self.view_is (sym c.takes_from_parent.ensures ∙ c.if-not-takes_from_parent.false) c.in_ok-known.ensures c.move_to.ensures
