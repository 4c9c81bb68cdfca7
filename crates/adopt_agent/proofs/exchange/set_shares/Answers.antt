use Rattle.std.proofs.Common.{ℕ, List, length, subst}
use Rattle.adopt_agent.specs.Sound.{AreAdded}
use Rattle.adopt_agent.proofs.exchange.set_shares.Goals as goal

pub returns : goal.returns
returns c = record {
  count = length c.args.shares.now;
  added = subst (λ (none : List ℕ). AreAdded c.args.own.now c.args.place.now c.args.known.now c.args.var none c.add_tables.new.costs) (c.fill.ensures.after (λ y h. h)) c.add_tables.ensures;
}
