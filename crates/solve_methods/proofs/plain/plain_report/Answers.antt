use Rattle.std.proofs.Common.{refl}
use Rattle.problem_text.specs.File.{IsFile}
use Rattle.solve_methods.proofs.TellLaws.{CanTell-assignment}
use Rattle.solve_methods.proofs.plain.plain_report.Goals as goal

pub returns-clause-told : goal.returns-clause-told
returns-clause-told c =
    let whole : IsFile c.args.file.now = rw (← c.file.view_is) c.file.invariant in
    CanTell-assignment c.args.file.now _ whole c.requires refl
