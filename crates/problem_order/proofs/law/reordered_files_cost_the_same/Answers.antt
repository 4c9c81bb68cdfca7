use Rattle.problem_order.proofs.CostLaws as laws
use Rattle.problem_order.proofs.law.reordered_files_cost_the_same.Goals as goal

pub returns : goal.returns
returns c = laws.reordered_files_cost_the_same
