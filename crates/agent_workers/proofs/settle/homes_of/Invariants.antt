use Rattle.std.proofs.Common.{◌≡◌, ℕ, ◌<◌, length}
use Rattle.std.specs.Prelude.{slice_index_or}
use Rattle.worker_laws.specs.OneNode.{home as home_of}
use Rattle.agent_workers.proofs.settle.homes_of.Given as goal

abbrev pub invariant-loop-agent : goal.invariant-loop-agent
invariant-loop-agent l = (length l.homes ≡ 1000) × ((k d : ℕ) → k < l.agent → slice_index_or l.homes k d ≡ home_of l.nodes l.agents k)
