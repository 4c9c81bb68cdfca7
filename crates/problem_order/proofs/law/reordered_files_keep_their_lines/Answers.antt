use Rattle.problem_order.proofs.LineLaws as laws
use Rattle.problem_order.proofs.law.reordered_files_keep_their_lines.Goals as goal

pub returns : goal.returns
returns c = laws.reordered_files_keep_their_lines
