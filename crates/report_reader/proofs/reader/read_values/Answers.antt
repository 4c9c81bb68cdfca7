use Rattle.std.proofs.Common.{rules, ◌≡◌, ◌<◌, length, ap, arith}
use Rattle.std.proofs.lemmas.Slice.Zip.{AllZip-long}
use Rattle.problem_text.specs.File.{TextFile, IsFile, AreLabels}
use Rattle.report_reader.specs.ReportReading.{values_read}
use Rattle.report_reader.specs.Steps.{IsFault}
use Rattle.report_reader.proofs.StepLaws.{value-next, value-fault}
use Rattle.report_reader.proofs.reader.read_values.Goals as goal

pub returns-in_err-value : goal.returns-in_err-value
returns-in_err-value c =
    let file : IsFile c.args.file.now = rw (← c.file.view_is) c.file.invariant in
    let long = AllZip-long AreLabels c.args.file.now.problem.sizes c.args.file.now.labels file.labels in
    let named = file.named in
    let many : length c.file.inside.names ≡ length c.args.file.now.names = ap (λ (f : TextFile). length f.names) c.file.view_is in
    let inside : c.loop-place.place < length c.args.file.now.names = omega (arith, many) in
    let told : IsFault (values_read c.args.file.now.names c.args.file.now.labels c.args.file.now.problem.sizes c.args.lines.now) c.in_err-value.field-0.0 =
    value-fault c.args.file.now.names c.args.file.now.labels c.args.file.now.problem.sizes c.loop-place.values.items c.loop-place.place c.loop-place.lines c.in_err-value.field-0.0 _ inside (omega (arith, inside, named, long)) (omega (arith, inside, named)) c.in_err-value.ensures c.loop-place.invariant in
    search rules

pub loop-place-preserved : goal.loop-place-preserved
loop-place-preserved c =
    let file : IsFile c.args.file.now = rw (← c.file.view_is) c.file.invariant in
    let long = AllZip-long AreLabels c.args.file.now.problem.sizes c.args.file.now.labels file.labels in
    let named = file.named in
    let many : length c.file.inside.names ≡ length c.args.file.now.names = ap (λ (f : TextFile). length f.names) c.file.view_is in
    let inside : c.loop-place.place < length c.args.file.now.names = omega (arith, many) in
    value-next c.args.file.now.names c.args.file.now.labels c.args.file.now.problem.sizes c.loop-place.values.items c.push.new.self.items c.loop-place.place c.in_ok-value.value c.loop-place.lines c.read_value.new.lines _ inside (omega (arith, inside, named, long)) (omega (arith, inside, named)) c.in_ok-value.ensures c.in_ok-push.ensures.items c.loop-place.invariant
