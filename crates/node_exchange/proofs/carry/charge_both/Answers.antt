use Rattle.node_exchange.proofs.CarryLaws.{charged}
use Rattle.node_exchange.proofs.carry.charge_both.Goals as goal

pub returns-clause-rose : goal.returns-clause-rose
returns-clause-rose g c =
    charged (g.D.Dialer.faults c.args.dialer.now) (g.D.Dialer.faults c.charge.new.self) (g.D.Dialer.faults c.charge-2.new.self) (g.D.W.Wire.told c.args.failed.first).faults (g.D.W.Wire.told c.args.failed.second).faults
    c.charge.ensures.none c.charge.ensures.some c.charge-2.ensures.none c.charge-2.ensures.some c.requires
