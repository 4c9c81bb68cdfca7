use Rattle.std.proofs.Common.{not, ◌≤◌, arith, length}
use Rattle.std.specs.List.{position_or_len}
use Rattle.std.proofs.lemmas.List.Sums.{prefix_len-le-length}
use Rattle.problem_text.specs.Lines.{is_blank}
use Rattle.problem_text.proofs.NumberLaws.{words-skip}
use Rattle.problem_text.proofs.word.after_blanks.Goals as goal

pub split_at-requires : goal.split_at-requires
split_at-requires c =
    let h : position_or_len (λ b. not (is_blank b)) c.args.text.now ≤ length c.args.text.now = prefix_len-le-length (λ b. not (not (is_blank b))) c.args.text.now in
    omega (arith, c.blanks_of.ensures)

pub returns : goal.returns
returns c = rw (c.split_at.ensures.back, c.blanks_of.ensures) (words-skip c.args.text.now)
