use Rattle.std.proofs.Common.{sym}
use Rattle.std.proofs.lemmas.Bool.{eqb-true}
use Rattle.agent_cells.proofs.PlaceLaws.{place_right}
use Rattle.agent_cells.proofs.places.place_near.Goals as goal

pub returns-then-eq : goal.returns-then-eq
returns-then-eq g c = place_right c.args.ends.now c.args.peer c.args.near c.index-ends-near.result c.requires.ascend c.if-near-ends.true (eqb-true _ _ (sym c.if-eq.ensures))
