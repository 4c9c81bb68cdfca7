use Rattle.std.proofs.Common.{◌≡◌, map, take}
use Rattle.protocol_steps.specs.View.{value_of}
use Rattle.agent_cells.specs.State.{state_of}
use Rattle.agent_links.proofs.outcome.values_of.Given as goal

abbrev pub invariant-loop-cell : goal.invariant-loop-cell
invariant-loop-cell g l = l.values.items ≡ map (λ c. value_of (state_of (λ b. (goal.Machine-dyn g (b.vtable, b.value)).meaning b.value) c).view) (take l.cell-index l.cells)
