use Rattle.std.proofs.Common.{◌-◌, ◌+◌, vec_len}
use Rattle.answer_io.specs.Input.{source_state}
use Rattle.answer_io.proofs.PassLaws.{ReadDone}
use Rattle.dcop_base.specs.Limits.{input_limit}
use Rattle.answer_io.proofs.reading.read_all.Given as goal

abbrev pub invariant-loop-source : goal.invariant-loop-source
invariant-loop-source g l =
    ReadDone (source_state (g.S.Source.left l.initial.source) (g.S.Source.faults l.initial.source) (g.S.Source.gave l.initial.source))
    (source_state (g.S.Source.left l.source) (g.S.Source.faults l.source) (g.S.Source.gave l.source)) l.bytes.items

abbrev pub decreases-loop-source : goal.decreases-loop-source
decreases-loop-source g l = input_limit + 1 - vec_len l.bytes
