use Rattle.std.proofs.Common.{rules, ◌≡◌, Ok, length, ap, ◌∙◌}
use Rattle.problem_text.specs.File.{IsFile}
use Rattle.report_reader.specs.CertificateLine.{certificate_line}
use Rattle.report_reader.specs.ReportLines.{one_line}
use Rattle.report_reader.specs.declared.certificate_line.Form.{Form}
use Rattle.report_reader.specs.declared.certificate_line.Form.TheVariants as forms
use Rattle.report_reader.specs.ReportReading.{certificate_read}
use Rattle.report_reader.specs.Steps.{IsFault}
use Rattle.report_reader.proofs.FitsLaws.{cut-within}
use Rattle.report_reader.proofs.StepLaws.{cut-fault}
use Rattle.report_reader.proofs.reader.read_certificate.Goals as goal

pub read_cut-requires : goal.read_cut-requires
read_cut-requires c =
    let file : IsFile c.args.file.now = rw (← c.file.view_is) c.file.invariant in
    let read : one_line (certificate_line c.args.file.now.names c.args.method) c.args.lines.now ≡ Ok (forms.Cut c.in-Cut.cut, c.read_form.new.lines) =
    c.in_ok-form.ensures ∙ ap (λ (form : Form). Ok (form, c.read_form.new.lines)) c.in-Cut.is in
    rw c.as_slice.ensures (cut-within c.args.file.now.names c.args.method c.args.lines.now c.in-Cut.cut c.read_form.new.lines (length c.args.file.now.problem.sizes) file.named read)

pub returns-in_err-turns-in-Cut : goal.returns-in_err-turns-in-Cut
returns-in_err-turns-in-Cut c =
    let told : IsFault (certificate_read c.args.file.now c.args.method c.args.lines.now) c.in_err-turns-in-Cut.field-0.0 =
    cut-fault c.args.file.now c.args.method c.args.lines.now c.read_form.new.lines c.in_ok-form.form c.in-Cut.cut c.as_slice.result.now c.in_err-turns-in-Cut.field-0.0 c.in_ok-form.ensures c.in-Cut.is c.as_slice.ensures c.in_err-turns-in-Cut.ensures in
    search rules
