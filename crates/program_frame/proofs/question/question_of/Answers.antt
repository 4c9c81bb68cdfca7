use Rattle.std.proofs.Common.{refl}
use Rattle.answer_io.specs.Input.{Unread, source_state}
use Rattle.answer_io.proofs.InputLaws.{taken-most}
use Rattle.program_frame.proofs.question.question_of.Goals as goal

pub returns-in-Err-Bad-clause-taken : goal.returns-in-Err-Bad-clause-taken
returns-in-Err-Bad-clause-taken g c =
    let before = source_state (g.S.Source.left c.args.source.now) (g.S.Source.faults c.args.source.now) (g.S.Source.gave c.args.source.now) in
    taken-most Unread before before refl

pub returns-in-Err-NoMemory-clause-taken : goal.returns-in-Err-NoMemory-clause-taken
returns-in-Err-NoMemory-clause-taken g c =
    let before = source_state (g.S.Source.left c.args.source.now) (g.S.Source.faults c.args.source.now) (g.S.Source.gave c.args.source.now) in
    taken-most Unread before before refl
