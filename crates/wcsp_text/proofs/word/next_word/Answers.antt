use Rattle.std.proofs.Common.{not, ◌≤◌, arith, length, sym, ◌∙◌}
use Rattle.std.specs.List.{position_or_len}
use Rattle.std.proofs.lemmas.List.Sums.{prefix_len-le-length}
use Rattle.wcsp_text.specs.Words.{is_separator}
use Rattle.wcsp_text.proofs.WordLaws.{next-none, next-some}
use Rattle.wcsp_text.proofs.word.next_word.Goals as goal

pub split_at-requires : goal.split_at-requires
split_at-requires c =
    let h : position_or_len (λ b. not (is_separator b)) c.args.text.now ≤ length c.args.text.now = prefix_len-le-length (λ b. not (not (is_separator b))) c.args.text.now in
    omega (arith, c.gap_of.ensures)

pub returns-then-is_empty : goal.returns-then-is_empty
returns-then-is_empty c = next-none _ _ _ c.gap_of.ensures c.split_at.ensures.back (sym c.is_empty.ensures ∙ c.if-is_empty.true)

pub split_at-requires-2 : goal.split_at-requires-2
split_at-requires-2 c =
    let h : position_or_len is_separator c.split_at.result.1.now ≤ length c.split_at.result.1.now = prefix_len-le-length (λ b. not (is_separator b)) c.split_at.result.1.now in
    omega (arith, c.run_of.ensures)

pub returns : goal.returns
returns c = next-some _ _ _ _ _ _ c.gap_of.ensures c.split_at.ensures.back (sym c.is_empty.ensures ∙ c.if-is_empty.false) c.run_of.ensures c.split_at-2.ensures.front c.split_at-2.ensures.back
