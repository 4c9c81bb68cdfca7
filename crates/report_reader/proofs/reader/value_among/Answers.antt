use Rattle.std.proofs.Common.{◌<◌, length, arith, []}
use Rattle.std.proofs.lemmas.Slice.Zip.{AllZip-long}
use Rattle.std.proofs.lemmas.Option.{get_or_from_slice_get}
use Rattle.problem_text.specs.File.{AreLabels}
use Rattle.report_reader.proofs.ValueLineLaws.{get-same, labels-here}
use Rattle.report_reader.proofs.reader.value_among.Goals as goal

pub overflow_cast-place : goal.overflow_cast-place
overflow_cast-place c = omega (arith, c.requires.within, c.requires.many, c.requires.few)

pub offset_bounds-labels-place : goal.offset_bounds-labels-place
offset_bounds-labels-place c = omega (arith, c.requires.within, c.requires.many, c.requires.few)

pub bounds-labels-place : goal.bounds-labels-place
bounds-labels-place c =
    let many = AllZip-long AreLabels c.args.sizes.now c.args.labels.now c.requires.labelled in
    omega (arith, c.requires.within, c.requires.many, many)

pub value_of-requires-clause-few : goal.value_of-requires-clause-few
value_of-requires-clause-few c =
    let many = AllZip-long AreLabels c.args.sizes.now c.args.labels.now c.requires.labelled in
    (labels-here c.args.sizes.now c.args.labels.now c.args.place c.index-labels-place.result c.requires.labelled c.requires.small (omega (arith, c.requires.within, c.requires.many, many)) (omega (arith, c.requires.within, c.requires.many)) c.index-labels-place.is).0

pub value_of-requires-clause-named : goal.value_of-requires-clause-named
value_of-requires-clause-named c =
    let many = AllZip-long AreLabels c.args.sizes.now c.args.labels.now c.requires.labelled in
    (labels-here c.args.sizes.now c.args.labels.now c.args.place c.index-labels-place.result c.requires.labelled c.requires.small (omega (arith, c.requires.within, c.requires.many, many)) (omega (arith, c.requires.within, c.requires.many)) c.index-labels-place.is).1

pub returns : goal.returns
returns c =
    let many = AllZip-long AreLabels c.args.sizes.now c.args.labels.now c.requires.labelled in
    let within : c.args.place < length c.args.labels.now = omega (arith, c.requires.within, c.requires.many, many) in
    let name = get_or_from_slice_get c.args.names.now c.args.place c.name-name.result.now [] c.name-name.ensures in
    let labels = get-same c.args.labels.now c.args.place [] c.index-labels-place.result within in
    rw (name, labels, ← c.index-labels-place.is) c.value_of.ensures
