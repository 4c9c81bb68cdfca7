use Rattle.std.proofs.Common.{◌≡◌, true, take}
use Rattle.std.specs.List.{list_all}
use Rattle.protocol_steps.specs.View.{ended_of}
use Rattle.agent_cells.specs.State.{state_of}
use Rattle.agent_links.proofs.outcome.all_ended.Given as goal

abbrev pub invariant-loop-cell : goal.invariant-loop-cell
invariant-loop-cell g l = list_all (λ c. ended_of (state_of (λ b. (goal.Machine-dyn g (b.vtable, b.value)).meaning b.value) c).view) (take l.cell-index l.cells) ≡ true
