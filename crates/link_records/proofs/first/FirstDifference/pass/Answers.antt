use Rattle.link_records.proofs.DifferLaws.{differs_still}
use Rattle.link_records.proofs.first.FirstDifference.pass.Goals as goal

pub invariant_of-self : goal.invariant_of-self
invariant_of-self c =
    let self = c.args.self.now in
    let still = differs_still self.since.items c.and-self.result.items c.args.passage.now self.place self.sent self.taken c.and-self.ensures self.some self.differs in
    record { some = still.0; differs = still.1 }
