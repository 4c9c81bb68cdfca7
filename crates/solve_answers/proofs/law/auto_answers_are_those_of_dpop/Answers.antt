use Rattle.solve_answers.proofs.OneLaws.{auto_answers_dpop}
use Rattle.solve_answers.proofs.law.auto_answers_are_those_of_dpop.Goals as goal

pub returns : goal.returns
returns c = auto_answers_dpop
