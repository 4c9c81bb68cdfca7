use Rattle.std.proofs.Common.{◌≡◌, length, ap, ◌∙◌, arith}
use Rattle.problem_text.specs.Lines.{words}
use Rattle.report_reader.proofs.TurnLineLaws.{told-many}
use Rattle.report_reader.proofs.turn_line.turn_of.Goals as goal

pub is_number-requires-clause-many : goal.is_number-requires-clause-many
is_number-requires-clause-many c =
    let many : length (words c.in-Some.rest.now) ≡ length c.args.sizes.now = omega (arith, c.word_count.ensures, c.if-word_count-sizes.false) in
    ap length c.as_slice.ensures ∙ told-many c.args.sizes.now (words c.in-Some.rest.now) c.in_ok-values.values many c.in_ok-values.ensures
