use Rattle.std.proofs.Common.{◌≡◌, length}
use Rattle.tcp_links.specs.Woven.{AreStill}
use Rattle.tcp_links.proofs.seen.still_cells.Given as goal

abbrev pub invariant-loop-agent : goal.invariant-loop-agent
invariant-loop-agent g l = (length l.still ≡ 1000) × AreStill (λ b. (goal.Machine-dyn g (b.vtable, b.value)).meaning b.value) l.seen l.still l.cells
