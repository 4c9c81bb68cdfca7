-- When a core state is a network state.
use Rattle.std.specs.Prelude.{◌≡◌, ℕ, ◌<◌, length, None, min}
use Rattle.std.specs.List.{last_or}
use Rattle.dcop_base.specs.Limits.{count_limit}
use Rattle.protocol_steps.specs.Network.{Network, link, waiting}
use Rattle.protocol_steps.specs.Effect.{deliveries}
use Rattle.letter_queues.specs.Links.{letters_of, waiting_from}
use Rattle.delivery_core.specs.State.{CoreView, inbox_at, last_sent, views_of}

-- the most deliveries that are counted, 2^64 - 1
abbrev pub most_counted : ℕ
most_counted = count_limit

-- the core state is this network state: it has the same views, on each link the same messages that
-- wait and the same last message, and the same number of deliveries, or 2^64 - 1 if they are more
pub record IsStateOf (net : Network) (s : CoreView) : Type 0 where
  pub views : views_of s.seats ≡ net.views
  pub size : length net.desks ≡ length s.seats
  pub waits : (i j : ℕ) → i < length s.seats → waiting_from (inbox_at s.seats i) j ≡ letters_of j (waiting net.desks i j)
  pub last : (i j : ℕ) → i < length s.seats → last_sent s j i ≡ last_or None (link net.desks j i)
  pub delivered : s.delivered ≡ min (deliveries net) most_counted
