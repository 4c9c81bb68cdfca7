-- The messages that were delivered in a network.
use Rattle.std.specs.Prelude.{ℕ, List, length, take, slice_get}
use Rattle.std.specs.List.{flat_map, range_with_len}
use Rattle.protocol_steps.specs.declared.message.Message.{Message}
use Rattle.protocol_steps.specs.Network.{Desk, Network, taken_from, takes_at, link}

-- the messages of agent j that agent i has taken: the first ones on the link
abbrev pub taken_on : List Desk → ℕ → ℕ → List Message
taken_on ds i j = take (taken_from j (takes_at (slice_get ds i))) (link ds j i)

-- the messages that were delivered, receiver by receiver and sender by sender
abbrev pub delivered : Network → List Message
delivered net =
    flat_map (λ i. flat_map (λ j. taken_on net.desks i j) (range_with_len 0 (length net.desks))) (range_with_len 0 (length net.desks))
