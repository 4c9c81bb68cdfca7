use Rattle.dcop_base.specs.Whole.{IsProblem}
use Rattle.problem_text.specs.File.{IsFile}
use Rattle.report_reader.proofs.AgainLaws.{report-again}
use Rattle.report_reader.proofs.law.written_reports_are_read.Goals as goal

pub returns : goal.returns
returns c some fits =
    let file : IsFile c.args.file.now = rw (← c.file.view_is) c.file.invariant in
    let p : IsProblem c.args.file.now.problem = rw (← c.file.view_is, ← c.problem.view_is) c.problem.invariant in
    report-again c.args.report.now c.args.file.now file p some fits
