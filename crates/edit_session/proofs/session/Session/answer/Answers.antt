use Rattle.std.proofs.Common.{List, ℕ, length, ap}
use Rattle.minimised_problem.proofs.SolvedLaws.{solved_sizes}
use Rattle.edit_session.proofs.StateLaws.{session_after}
use Rattle.edit_session.proofs.session.Session.answer.Goals as goal

pub invariant_of-self : goal.invariant_of-self
invariant_of-self g c =
    session_after c.answer_with.result c.self.inside.file c.self.inside.turned c.self.inside.top c.self.inside.tree c.self.inside.touched.items c.answer_with.new.touched.items c.self.inside.kept.items c.answer_with.new.kept.items c.solved_of-problem.result.now c.self.invariant
    c.solved_of-problem.ensures (ap (λ (ss : List ℕ). length ss) (solved_sizes c.self.inside.file.goal c.self.inside.file.problem)) c.answer_with.ensures.cleared c.answer_with.ensures.held c.answer_with.ensures.same c.answer_with.ensures.stay
