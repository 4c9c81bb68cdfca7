use Rattle.std.proofs.Common.{arith}
use Rattle.answer_io.specs.Input.{source_state}
use Rattle.answer_io.proofs.PassLaws.{none_read, more_read}
use Rattle.answer_io.proofs.reading.read_all.Goals as goal

pub loop-source-init : goal.loop-source-init
loop-source-init g c =
    none_read (source_state (g.S.Source.left c.args.source.now) (g.S.Source.faults c.args.source.now) (g.S.Source.gave c.args.source.now))
    c.new-bytes.result.items c.new-bytes.ensures.items

pub loop-source-preserved : goal.loop-source-preserved
loop-source-preserved g c =
    more_read (source_state (g.S.Source.left c.args.source.now) (g.S.Source.faults c.args.source.now) (g.S.Source.gave c.args.source.now))
    (source_state (g.S.Source.left c.loop-source.source) (g.S.Source.faults c.loop-source.source) (g.S.Source.gave c.loop-source.source))
    (source_state (g.S.Source.left c.read_behind.new.self) (g.S.Source.faults c.read_behind.new.self) (g.S.Source.gave c.read_behind.new.self))
    c.loop-source.bytes.items c.read_behind.new.bytes.items 65536 c.in_ok-read_behind.field-0 c.loop-source.invariant
    (let test = c.loop-source-test.true in let long = c.len.ensures in omega (arith, test, long))
    (omega arith) c.in_ok-read_behind.ensures.cause c.in_ok-read_behind.ensures.counted c.in_ok-read_behind.ensures.given
    (let some = c.if-branch-eq0.false in omega (arith, some))
