use Rattle.std.proofs.Common.{sym}
use Rattle.solve_answers.proofs.ServedLaws.{command_served}
use Rattle.solve_answers.proofs.drilling.unread_answer.Goals as goal

pub unreachable-requires : goal.unreachable-requires
unreachable-requires g c = command_served c.args.command.now c.requires.unread (sym c.in-None.ensures.same)
