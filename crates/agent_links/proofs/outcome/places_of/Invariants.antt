use Rattle.std.proofs.Common.{◌≡◌, map, take}
use Rattle.protocol_steps.specs.View.{place_of}
use Rattle.agent_cells.specs.State.{state_of}
use Rattle.agent_links.proofs.outcome.places_of.Given as goal

abbrev pub invariant-loop-cell : goal.invariant-loop-cell
invariant-loop-cell g l = l.places ≡ map (λ c. place_of (state_of (λ b. (goal.Machine-dyn g (b.vtable, b.value)).meaning b.value) c).view) (take l.cell-index l.cells)
