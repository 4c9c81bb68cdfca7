use Rattle.std.proofs.Common.{subst}
use Rattle.wire_pump.specs.Pump.{EndsPump}
use Rattle.node_exchange.proofs.WholeLaws.{pumped_whole}
use Rattle.node_exchange.proofs.carry.carry.Goals as goal

pub returns-in-Ok-clause-carried : goal.returns-in-Ok-clause-carried
returns-in-Ok-clause-carried g c =
    pumped_whole g.D.W.Wire.told g.D.W.Wire.is_joined c.args.ends.0 c.args.ends.1 c.args.there c.args.back c.in-Ok.pumped
    (subst (λ r. EndsPump g.D.W.Wire.told g.D.W.Wire.is_joined c.args.ends.0 c.args.ends.1 c.args.there c.args.back r) c.in-Ok.is c.in_ok-pumped.ensures.ends)
