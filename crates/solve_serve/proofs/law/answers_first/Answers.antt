use Rattle.solve_serve.proofs.ExactLaws as found
use Rattle.solve_serve.proofs.law.answers_first.Goals as goal

pub returns : goal.returns
returns g c = found.answers_first g.M.Maker.does g.M.Maker.is_reply
