use Rattle.std.proofs.Common.{sym}
use Rattle.report_reader.proofs.UtilLineLaws.{known-next, known-past, whole-next, whole-past}
use Rattle.report_reader.proofs.cut_line.named_in.Goals as goal

pub loop-word-preserved-in_ok-push-in-Some-variable_of_word : goal.loop-word-preserved-in_ok-push-in-Some-variable_of_word
loop-word-preserved-in_ok-push-in-Some-variable_of_word c = (
  known-next c.args.names.now _ _ c.in-Some.word.now c.loop-word.known.items _ _ c.in-Some-variable_of_word.var c.in-Some.ensures (sym c.in-Some-variable_of_word.ensures) c.in_ok-push-in-Some-variable_of_word.ensures.items c.loop-word.invariant.0,
  whole-next c.args.names.now _ _ c.in-Some.word.now c.loop-word.whole c.loop-word.known.items _ c.in-Some-variable_of_word.var _ c.in-Some.ensures (sym c.in-Some-variable_of_word.ensures) c.in_ok-push-in-Some-variable_of_word.ensures.items c.loop-word.invariant.1,
)

pub loop-word-preserved : goal.loop-word-preserved
loop-word-preserved c = (
  known-past c.args.names.now _ _ c.in-Some.word.now c.loop-word.known.items _ c.in-Some.ensures (sym c.in-None.ensures) c.loop-word.invariant.0,
  whole-past c.args.names.now _ _ c.in-Some.word.now c.loop-word.whole c.loop-word.known.items _ c.in-Some.ensures (sym c.in-None.ensures) c.loop-word.invariant.1,
)
