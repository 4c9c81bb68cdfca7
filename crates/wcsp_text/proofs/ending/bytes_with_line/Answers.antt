use Rattle.std.proofs.Common.{arith, sym, ◌∙◌}
use Rattle.wcsp_text.proofs.EndingLaws.{used-some, used-none}
use Rattle.wcsp_text.proofs.ending.bytes_with_line.Goals as goal

pub returns-in-Some : goal.returns-in-Some
returns-in-Some c = used-some c.args.bytes.now c.split_at.result.0.now c.split_at.result.1.now c.args.after c.in-Some.end (rw (← c.saturating_sub.ensures) c.split_at.ensures.front) (rw (← c.saturating_sub.ensures) c.split_at.ensures.back) (sym c.first_line_end.ensures ∙ c.in-Some.is)

pub returns-in-None : goal.returns-in-None
returns-in-None c = used-none c.args.bytes.now c.split_at.result.0.now c.split_at.result.1.now c.args.after (rw (← c.saturating_sub.ensures) c.split_at.ensures.front) (rw (← c.saturating_sub.ensures) c.split_at.ensures.back) (omega (arith, c.split_at.ensures.front_len, c.split_at.ensures.back_len)) (sym c.first_line_end.ensures ∙ c.in-None.is)
