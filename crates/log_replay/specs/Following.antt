-- When stamps are those of a run that has reached a network.
use Rattle.std.specs.Prelude.{◌≡◌, ℕ, ◌<◌, ◌≤◌, length, drop, Some, max, slice_get}
use Rattle.std.specs.List.{fold}
use Rattle.dcop_base.specs.Limits.{amount_limit}
use Rattle.dcop_base.specs.Problem.{Dcop}
use Rattle.dcop_base.specs.Graph.{neighbours}
use Rattle.protocol_steps.specs.Network.{Network, link}
use Rattle.protocol_steps.specs.Links.{taken_at}
use Rattle.run_log.specs.LogStamps.{LinkStamps}
use Rattle.log_replay.specs.Queues.{StampsView, row_at, stamps_at, receivers}

-- the stamps agree with a network: they have each agent's last stamp and a queue for each of its
-- neighbours; the queue of a link has the stamps of what was sent there and not taken; and no stamp
-- is above amount_limit
pub record AreStamps (p : Dcop) (net : Network) (s : LinkStamps) (v : StampsView) : Type 0 where
  pub size : length v.rows ≡ length p.sizes
  pub last : (i : ℕ) → i < length p.sizes → slice_get v.last i ≡ Some (s.last i)
  pub receivers : (j : ℕ) → j < length p.sizes → receivers (row_at v.rows j) ≡ neighbours p j
  pub queues : (i j : ℕ) → i < length p.sizes → stamps_at v.rows i j ≡ drop (taken_at net.desks i j) (s.sent i j)
  pub many : (i j : ℕ) → length (s.sent i j) ≡ length (link net.desks j i)
  pub taken : (i j : ℕ) → i < length p.sizes → taken_at net.desks i j ≤ length (link net.desks j i)
  pub few : (i : ℕ) → s.last i ≤ amount_limit
  pub bounded : (i j : ℕ) → fold max 0 (s.sent i j) ≤ amount_limit
