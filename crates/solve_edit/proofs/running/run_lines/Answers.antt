use Rattle.std.proofs.Common.{ℕ, ◌+◌, Bool, List, Ok, sym, subst, arith}
use Rattle.problem_text.specs.Lines.{words}
use Rattle.problem_text.specs.PlainLines.{Plain, plain_lines}
use Rattle.problem_text.specs.declared.edited.Edited.{Edited}
use Rattle.edit_text.specs.declared.kind.EditKind.TheVariants as kinds
use Rattle.solve_edit.specs.Editing.{line_behind}
use Rattle.solve_edit.specs.Running.{refused, AreLinesTold}
use Rattle.solve_edit.specs.Steps.{IsLineStep}
use Rattle.solve_edit.proofs.StepLaws.{run_more, run_stopped, run_over, run_ended, run_further}
use Rattle.solve_edit.proofs.running.run_lines.Goals as goal

pub returns-in_err-step : goal.returns-in_err-step
returns-in_err-step g c =
    let line : Plain = record { number = c.in-Some.line.number; words = words c.in-Some.line.text.now } in
    run_stopped c.args.session.now.state (line_behind c.args.before c.args.text.now) (plain_lines (c.args.before + 1) c.args.text.now) c.loop-line.session.state c.step.new.session.state line (plain_lines (c.in-Some.line.number + 1) c.in-Some.line.after.now) (plain_lines c.loop-line.number c.loop-line.rest.now)
    c.loop-line.answers.items c.step.new.answers.items c.in_err-step.field-0.0 c.from_residual.result c.loop-line.invariant.1 c.in-Some.ensures.line c.in_err-step.ensures c.from_residual.ensures.1

pub returns-in-Some-next_plain_line : goal.returns-in-Some-next_plain_line
returns-in-Some-next_plain_line g c =
    let line : Plain = record { number = c.in-Some.line.number; words = words c.in-Some.line.text.now } in
    let further : Plain = record { number = c.in-Some-next_plain_line.further.number; words = words c.in-Some-next_plain_line.further.text.now } in
    run_further c.args.session.now.state (line_behind c.args.before c.args.text.now) (plain_lines (c.args.before + 1) c.args.text.now) c.loop-line.session.state c.step.new.session.state line further (plain_lines (c.in-Some.line.number + 1) c.in-Some.line.after.now) (plain_lines (c.in-Some-next_plain_line.further.number + 1) c.in-Some-next_plain_line.further.after.now) (plain_lines c.loop-line.number c.loop-line.rest.now)
    c.loop-line.answers.items c.step.new.answers.items c.loop-line.invariant.1 c.in-Some.ensures.line
    (subst (λ (b : Bool). IsLineStep line c.loop-line.session.state c.step.new.session.state c.loop-line.answers.items c.step.new.answers.items (Ok b)) c.if-branch.true c.in_ok-step.ensures) c.in-Some-next_plain_line.ensures.line

pub returns-in-None : goal.returns-in-None
returns-in-None g c =
    let line : Plain = record { number = c.in-Some.line.number; words = words c.in-Some.line.text.now } in
    subst (λ (es : List Edited). AreLinesTold c.args.session.now.state (line_behind c.args.before c.args.text.now) (plain_lines (c.args.before + 1) c.args.text.now) (Ok (record { answers = es; file = c.step.new.session.state.file }))) (sym c.from_vec.ensures)
    (run_ended c.args.session.now.state (line_behind c.args.before c.args.text.now) (plain_lines (c.args.before + 1) c.args.text.now) c.loop-line.session.state c.step.new.session.state line (plain_lines (c.in-Some.line.number + 1) c.in-Some.line.after.now) (plain_lines c.loop-line.number c.loop-line.rest.now)
    c.loop-line.answers.items c.step.new.answers.items c.loop-line.invariant.1 c.in-Some.ensures.line
    (subst (λ (b : Bool). IsLineStep line c.loop-line.session.state c.step.new.session.state c.loop-line.answers.items c.step.new.answers.items (Ok b)) c.if-branch.true c.in_ok-step.ensures) c.in-None.ensures.line)

pub loop-line-preserved : goal.loop-line-preserved
loop-line-preserved g c =
    let low = c.loop-line.invariant.0 in
    let step = c.in-Some.ensures.lines in
    let line : Plain = record { number = c.in-Some.line.number; words = words c.in-Some.line.text.now } in (
      omega (arith, low, step),
      run_more c.args.session.now.state (line_behind c.args.before c.args.text.now) (plain_lines (c.args.before + 1) c.args.text.now) c.loop-line.session.state c.step.new.session.state line (plain_lines (c.in-Some.line.number + 1) c.in-Some.line.after.now) (plain_lines c.loop-line.number c.loop-line.rest.now)
          c.loop-line.answers.items c.step.new.answers.items c.loop-line.invariant.1 c.in-Some.ensures.line
          (subst (λ (b : Bool). IsLineStep line c.loop-line.session.state c.step.new.session.state c.loop-line.answers.items c.step.new.answers.items (Ok b)) c.if-branch.false c.in_ok-step.ensures),
    )

pub returns : goal.returns
returns g c =
    let last = line_behind c.args.before c.args.text.now in
    subst (λ (n : ℕ). AreLinesTold c.args.session.now.state last (plain_lines (c.args.before + 1) c.args.text.now) (refused (c.args.before + n) kinds.NoEnd)) (sym c.line_behind.ensures)
    (run_over c.args.session.now.state last (plain_lines (c.args.before + 1) c.args.text.now) c.loop-line.session.state (plain_lines c.loop-line.number c.loop-line.rest.now) c.loop-line.answers.items c.loop-line.invariant.1 c.in_default.ensures.line)
