use Rattle.solve_serve.proofs.ExactLaws as found
use Rattle.solve_serve.proofs.law.ends_exactly.Goals as goal

pub returns : goal.returns
returns g c = found.ends_exactly g.M.Maker.does g.M.Maker.is_reply
