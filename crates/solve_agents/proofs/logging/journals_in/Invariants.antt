use Rattle.std.proofs.Common.{◌≡◌, map, take}
use Rattle.agent_cells.specs.State.{state_of}
use Rattle.solve_agents.proofs.logging.journals_in.Given as goal

abbrev pub invariant-loop-cell : goal.invariant-loop-cell
invariant-loop-cell g l = l.journals.items ≡ map (λ c. (state_of (λ b. (goal.Machine-dyn g (b.vtable, b.value)).meaning b.value) c).journal) (take l.cell-index l.cells)
