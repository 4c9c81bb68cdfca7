use Rattle.std.proofs.Common.{◌≡◌, length, map, take}
use Rattle.agent_cells.specs.State.{state_of}
use Rattle.tcp_links.proofs.seen.note_all.Given as goal

abbrev pub invariant-loop-cell : goal.invariant-loop-cell
invariant-loop-cell g l = l.seen.items ≡ map (λ c. length (state_of (λ b. (goal.Machine-dyn g (b.vtable, b.value)).meaning b.value) c).journal) (take l.cell-index l.cells)
