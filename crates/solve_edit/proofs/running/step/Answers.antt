use Rattle.std.proofs.Common.{Ok, subst}
use Rattle.problem_text.specs.Lines.{words}
use Rattle.solve_edit.specs.Steps.{IsLinePlayed}
use Rattle.solve_edit.specs.declared.playing.Played.{Played}
use Rattle.solve_edit.proofs.StepLaws.{edit_on}
use Rattle.solve_edit.proofs.running.step.Goals as goal

pub returns-in-Ok-Edit : goal.returns-in-Ok-Edit
returns-in-Ok-Edit g c =
    let s = c.args.session.now.state in
    let after = c.play.new.session.state in
    edit_on (record { number = c.args.number; words = words c.args.text.now }) c.in-Ok.line s after c.args.answers.now.items c.in-Ok.ensures
    (subst (λ (p : Played). IsLinePlayed s c.in-Ok.line (Ok p) after) c.in-Ok-Edit.field-0-is c.in-Ok-Edit.ensures)
