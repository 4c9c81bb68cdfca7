use Rattle.problem_text.proofs.SplitLaws.{first-ended, first-open}
use Rattle.problem_text.proofs.line.first_line.Goals as goal

pub returns-then-end-text-clause-line : goal.returns-then-end-text-clause-line
returns-then-end-text-clause-line c = first-ended _ _ _ _ c.place_of-end.ensures c.if-end-text.true c.split_at.ensures.front c.split_at.ensures.back

pub returns-else-end-text-clause-line : goal.returns-else-end-text-clause-line
returns-else-end-text-clause-line c = first-open _ _ _ _ c.place_of-end.ensures c.requires c.if-end-text.false c.split_at-else-end-text.ensures.front c.split_at-else-end-text.ensures.back
