use Rattle.wire_pump.proofs.PumpLaws.{new_gives}
use Rattle.wire_pump.proofs.pump.Pump.new.Goals as goal

pub returns-clause-gives : goal.returns-clause-gives
returns-clause-gives g c = λ out q.
    new_gives g.W.Wire.told g.W.Wire.is_joined (record { first = c.args.first; second = c.args.second; there = c.in_ok-there.there; back = c.in_ok-back.back }) c.args.to_second c.args.to_first out
    c.in_ok-there.ensures.0 c.in_ok-there.ensures.1 c.in_ok-there.ensures.2 c.in_ok-back.ensures.0 c.in_ok-back.ensures.1 c.in_ok-back.ensures.2 q
