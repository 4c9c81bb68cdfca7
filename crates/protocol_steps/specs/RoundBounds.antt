-- How many messages rounds take.
use Rattle.std.specs.Prelude.{ℕ, ◌+◌, ◌*◌, ◌≤◌, List, length}
use Rattle.std.specs.List.{flat_map}
use Rattle.protocol_steps.specs.declared.event.Event.{Event}
use Rattle.protocol_steps.specs.View.{View}
use Rattle.protocol_steps.specs.Network.{Network, start_state}
use Rattle.protocol_steps.specs.Effect.{deliveries}
use Rattle.protocol_steps.specs.Run.{SameJournals}
use Rattle.protocol_steps.specs.Rounds.{most_events, link_share, TakeShares, AreRounds}

-- the most messages that n agents take in one round: each in at most 32 events, and in each of these at most 64 from every sender
abbrev pub round_share : ℕ → ℕ
round_share n = (link_share * n) * (most_events * n)

-- each event of rounds takes at most 64 messages from any one sender, and so does each event of
-- every run with the same journals; rounds from a start take no more messages than the budget plus
-- those of one round
pub record RoundsAreBounded : Type 0 where
  pub shares : (budget : ℕ) (before after : Network) (pieces : List (List Event)) → AreRounds budget before pieces after → TakeShares (flat_map (λ es. es) pieces)
  pub same : (es fs : List Event) → SameJournals es fs → TakeShares fs → TakeShares es
  pub delivered : (budget : ℕ) (made : List View) (end : Network) (pieces : List (List Event)) → AreRounds budget (start_state made) pieces end
      → deliveries end ≤ budget + round_share (length made)
