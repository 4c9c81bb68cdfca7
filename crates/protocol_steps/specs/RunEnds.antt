-- How a run of agents under a budget of deliveries ended, by the network in which it ended.
use Rattle.std.specs.Prelude.{◌≡◌, ℕ, ◌<◌, ◌≤◌, true, false, []}
use Rattle.protocol_steps.specs.declared.run_end.RunEnd.{RunEnd}
use Rattle.protocol_steps.specs.declared.run_end.RunEnd.TheVariants.{AllEnded, Spent, Still}
use Rattle.protocol_steps.specs.Network.{Network}
use Rattle.protocol_steps.specs.Effect.{pending, has_ended, deliveries}

-- nothing is pending at any agent
abbrev pub NothingPending : Network → Type 0
NothingPending net = (i j : ℕ) → pending net i j ≡ []

-- a run ended in this way with n deliveries: all agents have ended; or some agent has not, and the deliveries are at least the budget; or some agent has not, the deliveries are below the budget, and nothing is pending. At most one of these holds of a network.
abbrev pub IsRunEnd : ℕ → Network → RunEnd → Type 0
IsRunEnd budget net (AllEnded n) = (n ≡ deliveries net) × (has_ended net ≡ true)
IsRunEnd budget net (Spent n) = (n ≡ deliveries net) × (has_ended net ≡ false) × (budget ≤ deliveries net)
IsRunEnd budget net (Still n) = (n ≡ deliveries net) × (has_ended net ≡ false) × (deliveries net < budget) × NothingPending net
