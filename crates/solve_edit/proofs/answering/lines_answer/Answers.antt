use Rattle.std.proofs.Common.{ℕ, ◌+◌, Err, ap, subst, ◌∙◌}
use Rattle.edit_text.specs.Kinds.{number_of_edit}
use Rattle.problem_text.specs.PlainLines.{plain_lines}
use Rattle.solve_report.specs.declared.answer.Answer.TheVariants as answers
use Rattle.solve_edit.specs.Editing.{line_behind}
use Rattle.solve_edit.specs.Running.{EditsTold, refused}
use Rattle.solve_edit.specs.Steps.{IsRun}
use Rattle.solve_edit.specs.declared.stop.Stop.{Stop}
use Rattle.solve_edit.proofs.NamedLaws.{all_named}
use Rattle.solve_edit.proofs.answering.lines_answer.Goals as goal

pub returns-in-Ok-clause-told : goal.returns-in-Ok-clause-told
returns-in-Ok-clause-told g c =
    let told : EditsTold = record { answers = c.in-Ok.answers; file = c.run_lines.new.session.state.file } in
    rw c.into_file.ensures (all_named (plain_lines (c.args.before + 1) c.args.text.now) c.args.session.state (line_behind c.args.before c.args.text.now) told c.requires.whole c.in-Ok.ensures)

pub returns-in-Err-Refused-clause-lines : goal.returns-in-Err-Refused-clause-lines
returns-in-Err-Refused-clause-lines g c = record {
  told = refused c.in-Err-Refused.line c.in-Err-Refused.kind;
  lines = subst (λ (stop : Stop). IsRun c.args.session.state (line_behind c.args.before c.args.text.now) (plain_lines (c.args.before + 1) c.args.text.now) (Err stop) c.run_lines.new.session.state) c.in-Err-Refused.field-0-is c.in-Err-Refused.ensures;
  is = ap (λ (l : ℕ). answers.EditText l c.number.result) c.in-Err-Refused.line-is ∙ ap (λ (n : ℕ). answers.EditText c.in-Err-Refused.line n) (c.number.ensures ∙ ap number_of_edit c.in-Err-Refused.kind-is);
}
