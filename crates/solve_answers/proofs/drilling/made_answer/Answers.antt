use Rattle.solve_answers.proofs.LinkAnswerLaws.{drill_answers, drill_tells}
use Rattle.solve_answers.proofs.drilling.made_answer.Goals as goal

pub returns-clause-belongs : goal.returns-clause-belongs
returns-clause-belongs g c = rw c.drill_answer.ensures.drilled (drill_answers c.args.drill _ c.in_ok-file.file c.in_ok-solved.solved c.in_ok-file.ensures c.in_ok-solved.ensures.right c.in_ok-solved.ensures.belongs)

pub returns-clause-links : goal.returns-clause-links
returns-clause-links g c = rw c.drill_answer.ensures.drilled (drill_tells _ _ _ _ _ c.in_ok-solved.solved c.in_ok-solved.ensures.links)
