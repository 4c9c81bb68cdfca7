use Rattle.wire_pump.proofs.PumpLaws.{ends_from, on_ok}
use Rattle.wire_pump.proofs.pump.Turn.take.Goals as goal

pub returns-then-is_done-clause-turned : goal.returns-then-is_done-clause-turned
returns-then-is_done-clause-turned g c =
    ends_from g.W.Wire.told g.W.Wire.is_joined c.args.ends c.pass.new.self c.hand_back.result
    (on_ok c.pass.result c.pass.ensures.later c.if-is_err.ensures.value) c.if-is_done.ensures.done c.pass.ensures.joined
    (λ j. on_ok c.pass.result (c.pass.ensures.reach j) c.if-is_err.ensures.value)
    c.hand_back.ensures.wires.0 c.hand_back.ensures.wires.1 c.hand_back.ensures.bytes.0 c.hand_back.ensures.bytes.1
