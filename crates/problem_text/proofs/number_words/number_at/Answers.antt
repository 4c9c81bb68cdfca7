use Rattle.std.proofs.Common.{◌≡◌, ◌<◌, true, length, get_or, sym, ◌∙◌, arith}
use Rattle.problem_text.specs.Lines.{is_blank}
use Rattle.problem_text.proofs.NumberLaws.{run-digits}
use Rattle.problem_text.proofs.number_words.number_at.Goals.{else-count-text-via-then-count-text+else-not-is_blank_byte, else-count-text-via-else-count-text}
use Rattle.problem_text.proofs.number_words.number_at.Goals as goal

pub returns-clause-run : goal.returns-clause-run
returns-clause-run c =
    let end : c.leading_digits-value.result.1 < length c.args.text.now → is_blank (get_or c.args.text.now c.leading_digits-value.result.1 0) ≡ true =
    elim c.else-count-text.branch [ else-count-text-via-then-count-text+else-not-is_blank_byte w ↦ (λ h. sym w.is_blank_byte.ensures ∙ w.if-not-is_blank_byte.false) | else-count-text-via-else-count-text w ↦ (λ h. absurd (omega (arith, w.if-count-text.false))) ] in
    sym (run-digits c.leading_digits-value.result.1 c.args.text.now c.leading_digits-value.ensures.within c.leading_digits-value.ensures.digits end)
