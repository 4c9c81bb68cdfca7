use Rattle.std.proofs.Common.{sym, ap}
use Rattle.worker_laws.specs.Wires.{Wire}
use Rattle.link_records.proofs.DifferLaws.{held_by}
use Rattle.link_records.proofs.kept.KeptLink.has_held.Goals as goal

pub returns : goal.returns
returns c = held_by c.args.self.now c.self.inside.held.items c.self.inside.first c.is_none.result c.is_none.ensures (sym (ap (λ (w : Wire). w.passages) c.self.view_is)) c.self.inside.same
