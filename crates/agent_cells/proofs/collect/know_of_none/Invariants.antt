use Rattle.std.proofs.Common.{◌≡◌, ℕ, take}
use Rattle.worker_laws.specs.Cells.{known_from}
use Rattle.agent_cells.specs.Links.{known_of}
use Rattle.agent_cells.proofs.collect.know_of_none.Given as goal

abbrev pub invariant-loop-end : goal.invariant-loop-end
invariant-loop-end l = (j : ℕ) → known_from j (known_of (take l.end-index l.heads)) ≡ 0
