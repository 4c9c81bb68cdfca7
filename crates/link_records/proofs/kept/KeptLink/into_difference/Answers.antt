use Rattle.std.proofs.Common.{◌++◌, Option, sym, ap, ◌∙◌}
use Rattle.worker_laws.specs.Wires.{Wire}
use Rattle.link_records.specs.declared.first.FirstDifference.{FirstDifference}
use Rattle.link_records.specs.Passed.{passed_since}
use Rattle.link_records.proofs.DifferLaws.{difference_of}
use Rattle.link_records.proofs.kept.KeptLink.into_difference.Goals as goal

pub returns : goal.returns
returns c =
    let link = c.self.inside in
    let first = c.in_ok-first.first in
    let passages = sym (ap (λ (w : Wire). w.passages) c.self.view_is) ∙ ap (λ (o : Option FirstDifference). link.held.items ++ passed_since o) c.in_ok-first.was in (
      ap (λ (w : Wire). w.sender) c.self.view_is,
      ap (λ (w : Wire). w.receiver) c.self.view_is,
      difference_of c.args.self link.held.items first.since.items link.drained first.place c.saturating_add.result first.sent first.taken passages link.same link.counted c.saturating_add.ensures first.some first.differs,
    )
