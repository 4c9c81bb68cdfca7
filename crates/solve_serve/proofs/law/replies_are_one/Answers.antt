use Rattle.solve_serve.proofs.ExactLaws as found
use Rattle.solve_serve.proofs.law.replies_are_one.Goals as goal

pub returns : goal.returns
returns g c = found.replies_are_one g.M.Maker.does g.M.Maker.is_reply c.keys_have_one_reply.ensures
