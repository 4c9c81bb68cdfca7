use Rattle.std.proofs.Common.{length, ◌<◌}
use Rattle.std.proofs.lemmas.List.Elements.{length_all_zip}
use Rattle.std.proofs.lemmas.Result.{IfOk-weaker}
use Rattle.problem_text.specs.File.{TextFile, IsFile}
use Rattle.certificate_check.specs.Verdicts.{IsVerdict}
use Rattle.solve_report.specs.Verdict.{IsNamedVerdict}
use Rattle.solve_printed.proofs.NamedLaws.{verdict-named}
use Rattle.solve_printed.proofs.checking.verdict_on.Goals as goal

pub returns-clause-named : goal.returns-clause-named
returns-clause-named c =
    let f : TextFile = c.args.file.now in
    let whole : IsFile f = rw (← c.file.view_is) c.file.invariant in
    IfOk-weaker c.check.result (IsVerdict f c.args.report.now) (IsNamedVerdict (length f.names))
    (λ verdict. verdict-named f c.args.report.now c.args.report.now.certificate verdict whole.named (length_all_zip (λ v s. v < s) c.args.report.now.values f.problem.sizes c.requires.1.values) c.requires.1.certificate) c.check.ensures.verdict
