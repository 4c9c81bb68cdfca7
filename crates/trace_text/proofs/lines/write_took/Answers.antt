use Rattle.std.proofs.Common.{ℕ, List, ◌++◌, sym, ap, ◌∙◌, arith}
use Rattle.std.specs.String.{string_bytes}
use Rattle.problem_text.specs.Canonical.{line}
use Rattle.trace_text.specs.Lines.{took_words}
use Rattle.trace_text.proofs.LineLaws.{one-more, lines-of, all-done}
use Rattle.trace_text.proofs.lines.write_took.Goals as goal

pub loop-letter-preserved : goal.loop-letter-preserved
loop-letter-preserved c =
    one-more (λ x. line (took_words c.args.names.now x)) c.args.letters.now c.loop-letter.letter-index c.letter-item.result _ _ _ (omega (arith, c.loop-letter-test.true)) c.letter-item.is c.in_ok-write_letter.ensures c.loop-letter.invariant

pub returns : goal.returns
returns c =
    all-done (λ x. line (took_words c.args.names.now x)) c.args.letters.now c.loop-letter.letter-index _ _ (omega arith) c.loop-letter.invariant
    ∙ ap (λ (text : List ℕ). string_bytes c.args.text.now ++ text) (sym (lines-of (took_words c.args.names.now) c.args.letters.now))
