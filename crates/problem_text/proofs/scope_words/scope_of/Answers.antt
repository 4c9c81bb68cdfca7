use Rattle.std.proofs.Common.{sym}
use Rattle.problem_text.proofs.ScopeLaws.{scope-more}
use Rattle.problem_text.proofs.scope_words.scope_of.Goals as goal

pub loop-word-preserved : goal.loop-word-preserved
loop-word-preserved c =
    scope-more c.args.names.now _ _ c.in-Some.word.now _ _ c.in-Some-variable_of_word.var _ c.in-Some.ensures (sym c.if-is_word.ensures) (sym c.in-Some-variable_of_word.ensures) c.in_ok-push.ensures.ok c.loop-word.invariant
