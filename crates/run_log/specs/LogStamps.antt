-- The stamps of a log: what they must be, given the run of the log.
use Rattle.std.specs.Prelude.{◌≡◌, ℕ, ◌+◌, ◌-◌, Bool, List, [], ◌∷◌, ◌++◌, length, take, drop, replicate, Option, Some, None, max, ◌==◌, nat_lt, ◌||◌, ◌&&◌, if◌then◌else◌}
use Rattle.std.specs.List.{flat_map, fold}
use Rattle.protocol_steps.specs.declared.event.Take.{Take}
use Rattle.protocol_steps.specs.View.{View}
use Rattle.protocol_steps.specs.Network.{Network, start_state, link}
use Rattle.protocol_steps.specs.Effect.{effect}
use Rattle.protocol_steps.specs.Links.{taken_at}
use Rattle.protocol_steps.specs.Run.{happen}
use Rattle.run_log.specs.declared.log.LogEvent.{LogEvent}
use Rattle.run_log.specs.Logs.{event_of}

-- the stamps in a network: each agent's last one, and those of all messages on each link, by
-- receiver and then sender
pub record LinkStamps : Type 0 where
  pub last : ℕ → ℕ
  pub sent : ℕ → ℕ → List ℕ

-- in a start state every stamp is 0
abbrev pub start_stamps : Network → LinkStamps
start_stamps net = record { last = λ i. 0; sent = λ i j. replicate (length (link net.desks j i)) 0 }

-- the stamps of the messages that a take of agent i takes: the next ones on its link
abbrev pub next_stamps : Network → LinkStamps → ℕ → Take → List ℕ
next_stamps net s i t = take t.count (drop (taken_at net.desks i t.from) (s.sent i t.from))

-- the stamps of the messages that these takes of agent i take
abbrev pub taken_stamps : Network → LinkStamps → ℕ → List Take → List ℕ
taken_stamps net s i ts = flat_map (λ t. next_stamps net s i t) ts

-- the right stamp of an event: 1 plus the greatest of its agent's last stamp and the stamps of the
-- messages taken
abbrev pub right_stamp : Network → LinkStamps → LogEvent → ℕ
right_stamp net s e = max (s.last e.agent) (fold max 0 (taken_stamps net s e.agent e.takes)) + 1

-- the stamps after an event that leads from one network to another: its stamp becomes its agent's
-- last stamp, and the stamp of each message that it puts on a link
abbrev pub stamps_after : Network → LinkStamps → LogEvent → Network → LinkStamps
stamps_after net s e after = record {
  last = λ i. if e.agent == i then e.stamp else s.last i;
  sent = λ i j. s.sent i j ++ replicate (length (link after.desks j i) - length (link net.desks j i)) e.stamp;
}

-- an event whose stamp is wrong: its number in the log, counted from 1, its stamp, and the right
-- stamp or the stamp that it must follow
pub record StampDifference : Type 0 where
  pub event : ℕ
  pub left : ℕ
  pub right : ℕ

-- whether an event of a log follows another by stamp and then agent
abbrev pub follows : LogEvent → LogEvent → Bool
follows before e = nat_lt before.stamp e.stamp || (before.stamp == e.stamp && nat_lt before.agent e.agent)

-- what is wrong with an event's position after the event before it
abbrev pub order_difference : ℕ → Option LogEvent → LogEvent → Option StampDifference
order_difference k None e = None
order_difference k (Some before) e = if follows before e then None else Some (record { event = k; left = e.stamp; right = before.stamp })

-- what is wrong with one event: its stamp is not the right one, or else its position is wrong
abbrev pub event_difference : ℕ → ℕ → Option LogEvent → LogEvent → Option StampDifference
event_difference k right before e = if e.stamp == right then order_difference k before e else Some (record { event = k; left = e.stamp; right = right })

-- the first of two differences
abbrev pub or_later : Option StampDifference → Option StampDifference → Option StampDifference
or_later (Some d) later = Some d
or_later None later = later

-- the first event of a log whose stamp is wrong, from event k on, in a run that has reached this
-- network with these stamps. After an event that is not lawful, the search ends
abbrev pub stamp_difference : ℕ → Option Network → LinkStamps → Option LogEvent → List LogEvent → Option StampDifference
stamp_difference k net s before [] = None
stamp_difference k None s before (e ∷ log) = None
stamp_difference k (Some net) s before (e ∷ log) =
    or_later (event_difference k (right_stamp net s e) before e)
    (stamp_difference (k + 1) (happen (Some net) (event_of e)) (stamps_after net s e (effect net (event_of e))) (Some e) log)

-- the stamps of a log of agents with these start views are right, and the log is in order of stamp
-- and then agent, up to its first event that is not lawful
abbrev pub HasRightStamps : List View → List LogEvent → Type 0
HasRightStamps made log = stamp_difference 1 (Some (start_state made)) (start_stamps (start_state made)) None log ≡ None
