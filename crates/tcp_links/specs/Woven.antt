-- Cells whose links between nodes are those of a plan, during a run.
use Rattle.std.specs.Prelude.{◌≡◌, ◌≢◌, ℕ, ◌<◌, ◌≤◌, Bool, true, false, List, [], ◌++◌, map, length, Some, slice_get}
use Rattle.std.specs.List.{All, Contains}
use Rattle.std.specs.declared.dyn_box.DynBox.{DynBox}
use Rattle.std.specs.declared.alloc.Global.{Global}
use Rattle.protocol_steps.specs.declared.message.Message.{Message}
use Rattle.protocol_steps.specs.View.{View}
use Rattle.worker_laws.specs.Cells.{peers, lane, known_from}
use Rattle.worker_laws.specs.OneNode.{home}
use Rattle.worker_laws.specs.Wires.{Wire, AreApart}
use Rattle.fifo_links.specs.Link.{sent_on, taken_from, SameHead, SameTail}
use Rattle.link_records.specs.Keeping.{keeps}
use Rattle.agent_cells.specs.declared.cell.Cell.{Cell}
use Rattle.agent_cells.specs.Settled.{TailJoins, HeadJoins}
use Rattle.agent_cells.specs.State.{state_of, tails_in, heads_in, IsCell}
use Rattle.tcp_links.specs.declared.plan.InnerEnds.{InnerEnds}
use Rattle.tcp_links.specs.Plans.{IsBetween}
use Rattle.tcp_links.specs.Kept.{IsLinkKept}
use Rattle.tcp_links.specs.Drains.{HasDrained}
use Rattle.tcp_links.specs.Feeds.{AllWaits}
use Rattle.node_exchange.specs.Passings.{Passing, emptied as emptied_of}

-- the `Passing` of a link between nodes: it names the link's two agents, and the nodes in which
-- they are
pub record IsPassingOf (node : ℕ → ℕ) (w : Wire) (p : Passing) : Type 0 where
  pub from : p.from ≡ w.sender
  pub to : p.to ≡ w.receiver
  pub from_node : p.from_node ≡ node w.sender
  pub to_node : p.to_node ≡ node w.receiver

-- a link of which nothing was drained, and on which nothing has arrived
pub record IsLinkIdle (node : ℕ → ℕ) (w : Wire) (p : Passing) : Type 0 where
  pub link : IsPassingOf node w p
  pub drained : p.drained ≡ []
  pub arrived : p.arrived ≡ []

-- nothing was drained of any of these links, and nothing has arrived on them
pub record AreLinksIdle (node : ℕ → ℕ) (ws : List Wire) (ps : List Passing) : Type 0 where
  pub size : length ps ≡ length ws
  pub each : (k : ℕ) (w : Wire) (p : Passing) → slice_get ws k ≡ Some w → slice_get ps k ≡ Some p → IsLinkIdle node w p

-- each passing leads from its link's sender to its receiver
pub record AreLinksOf (ws : List Wire) (ps : List Passing) : Type 0 where
  pub each : (k : ℕ) (w : Wire) (p : Passing) → slice_get ws k ≡ Some w → slice_get ps k ≡ Some p → (p.from ≡ w.sender) × (p.to ≡ w.receiver)

-- the first `count` passings are empty, and the others are as before
pub record AreEmptied (count : ℕ) (before after : List Passing) : Type 0 where
  pub size : length after ≡ length before
  pub rest : (k : ℕ) → count ≤ k → slice_get after k ≡ slice_get before k
  pub emptied : (k : ℕ) (p q : Passing) → k < count → slice_get before k ≡ Some p → slice_get after k ≡ Some q → q ≡ emptied_of p

module _ {X : Type 0} {F : X → Type 0} where
  -- the inner ends of a link belong to the two cells that it links, each of them a peer of the
  -- other, and its passages are all that went through these ends
  pub record IsWoven (meaning : DynBox X Global F → View) (from to : Cell X F) (w : Wire) (ends : InnerEnds) : Type 0 where
    pub drains : TailJoins (tails_in from) w.receiver ends.drain
    pub feeds : HeadJoins (heads_in to) w.sender ends.feed
    pub sends : Contains (peers (state_of meaning from).sent) w.receiver
    pub takes : Contains (peers (state_of meaning to).taken) w.sender
    pub kept : IsLinkKept w ends

  -- each link is woven with its two cells; the links lead between different nodes, no two with the
  -- same sender and receiver, and each cell has a link to each of its peers in another node
  pub record AreWoven (meaning : DynBox X Global F → View) (nodes agents : ℕ) (ws : List Wire) (es : List InnerEnds) (cells : List (Cell X F)) : Type 0 where
    pub size : length cells ≡ agents
    pub ends : length es ≡ length ws
    pub between : All (IsBetween agents nodes) ws
    pub apart : AreApart ws
    pub woven : (k : ℕ) (w : Wire) (e : InnerEnds) (from to : Cell X F) → slice_get ws k ≡ Some w → slice_get es k ≡ Some e → slice_get cells w.sender ≡ Some from → slice_get cells w.receiver ≡ Some to → IsWoven meaning from to w e
    pub every : (i j : ℕ) (from : Cell X F) → slice_get cells i ≡ Some from → Contains (peers (state_of meaning from).sent) j → home nodes agents i ≢ home nodes agents j
        → (k : ℕ) × (w : Wire) × (slice_get ws k ≡ Some w) × (w.sender ≡ i) × (w.receiver ≡ j)

  -- a cell can be drained of what it has sent on a link
  pub record CanDrain (meaning : DynBox X Global F → View) (from : Cell X F) (w : Wire) (ends : InnerEnds) : Type 0 where
    pub cell : IsCell meaning from
    pub joined : TailJoins (tails_in from) w.receiver ends.drain
    pub peer : Contains (peers (state_of meaning from).sent) w.receiver

  -- the senders' cells of all these links can be drained
  pub record CanDrainAll (meaning : DynBox X Global F → View) (ws : List Wire) (es : List InnerEnds) (cells : List (Cell X F)) : Type 0 where
    pub inside : (k : ℕ) (w : Wire) → slice_get ws k ≡ Some w → w.sender < length cells
    pub each : (k : ℕ) (w : Wire) (e : InnerEnds) (from : Cell X F) → slice_get ws k ≡ Some w → slice_get es k ≡ Some e → slice_get cells w.sender ≡ Some from → CanDrain meaning from w e

  -- a cell can be fed on a link
  pub record CanFeed (meaning : DynBox X Global F → View) (to : Cell X F) (w : Wire) (ends : InnerEnds) : Type 0 where
    pub cell : IsCell meaning to
    pub joined : HeadJoins (heads_in to) w.sender ends.feed
    pub peer : Contains (peers (state_of meaning to).taken) w.sender

  -- the receivers' cells of all these links can be fed; no two links have the same sender and
  -- receiver
  pub record CanFeedAll (meaning : DynBox X Global F → View) (ws : List Wire) (es : List InnerEnds) (cells : List (Cell X F)) : Type 0 where
    pub apart : AreApart ws
    pub inside : (k : ℕ) (w : Wire) → slice_get ws k ≡ Some w → w.receiver < length cells
    pub each : (k : ℕ) (w : Wire) (e : InnerEnds) (to : Cell X F) → slice_get ws k ≡ Some w → slice_get es k ≡ Some e → slice_get cells w.receiver ≡ Some to → CanFeed meaning to w e

  -- the journal of each cell that is marked as still is as long as was noted
  pub record AreStill (meaning : DynBox X Global F → View) (seen : List ℕ) (still : List Bool) (cells : List (Cell X F)) : Type 0 where
    pub each : (k : ℕ) (c : Cell X F) → slice_get cells k ≡ Some c → slice_get still k ≡ Some true → slice_get seen k ≡ Some (length (state_of meaning c).journal)

  -- if the sender's journal is as long as was noted, all that it has sent on a link was drained
  pub record SentWasDrained (meaning : DynBox X Global F → View) (seen : List ℕ) (ws : List Wire) (es : List InnerEnds) (cells : List (Cell X F)) : Type 0 where
    pub each : (k : ℕ) (w : Wire) (e : InnerEnds) (from : Cell X F) → slice_get ws k ≡ Some w → slice_get es k ≡ Some e → slice_get cells w.sender ≡ Some from
        → slice_get seen w.sender ≡ Some (length (state_of meaning from).journal) → taken_from e.drain ≡ lane w.receiver (state_of meaning from).sent

  -- if the receiver's journal is as long as was noted, and nothing waited, the receiver has taken
  -- all that was fed to it
  pub record FedWasTaken (meaning : DynBox X Global F → View) (seen : List ℕ) (ws : List Wire) (es : List InnerEnds) (cells : List (Cell X F)) : Type 0 where
    pub each : (k : ℕ) (w : Wire) (e : InnerEnds) (to : Cell X F) → slice_get ws k ≡ Some w → slice_get es k ≡ Some e → slice_get cells w.receiver ≡ Some to
        → slice_get seen w.receiver ≡ Some (length (state_of meaning to).journal) → e.waits ≡ false → lane w.sender (state_of meaning to).taken ≡ sent_on e.feed

  -- if the sender is marked as still, all that it has sent on a link was drained
  pub record SentIsDrained (meaning : DynBox X Global F → View) (still : List Bool) (ws : List Wire) (es : List InnerEnds) (cells : List (Cell X F)) : Type 0 where
    pub each : (k : ℕ) (w : Wire) (e : InnerEnds) (from : Cell X F) → slice_get ws k ≡ Some w → slice_get es k ≡ Some e → slice_get cells w.sender ≡ Some from
        → slice_get still w.sender ≡ Some true → taken_from e.drain ≡ lane w.receiver (state_of meaning from).sent

  -- if the receiver is marked as still, and nothing waited, it has taken all that was fed to it
  pub record FedIsTaken (meaning : DynBox X Global F → View) (still : List Bool) (ws : List Wire) (es : List InnerEnds) (cells : List (Cell X F)) : Type 0 where
    pub each : (k : ℕ) (w : Wire) (e : InnerEnds) (to : Cell X F) → slice_get ws k ≡ Some w → slice_get es k ≡ Some e → slice_get cells w.receiver ≡ Some to
        → slice_get still w.receiver ≡ Some true → e.waits ≡ false → lane w.sender (state_of meaning to).taken ≡ sent_on e.feed

  -- the journals were noted after an exchange that drained all that was sent; if nothing waited,
  -- the receiver had taken all that was fed to it
  pub record HaveCaughtUp (meaning : DynBox X Global F → View) (seen : List ℕ) (ws : List Wire) (es : List InnerEnds) (cells : List (Cell X F)) : Type 0 where
    pub noted : seen ≡ map (λ c. length (state_of meaning c).journal) cells
    pub sent : (k : ℕ) (w : Wire) (e : InnerEnds) (from : Cell X F) → slice_get ws k ≡ Some w → slice_get es k ≡ Some e → slice_get cells w.sender ≡ Some from → taken_from e.drain ≡ lane w.receiver (state_of meaning from).sent
    pub fed : (k : ℕ) (w : Wire) (e : InnerEnds) (to : Cell X F) → slice_get ws k ≡ Some w → slice_get es k ≡ Some e → slice_get cells w.receiver ≡ Some to → e.waits ≡ false → lane w.sender (state_of meaning to).taken ≡ sent_on e.feed

  -- on every link but the one to agent i from agent j, cells know as much as before
  pub record KnowsElse (meaning : DynBox X Global F → View) (i j : ℕ) (before after : List (Cell X F)) : Type 0 where
    pub other : (k l : ℕ) (a b : Cell X F) → slice_get before k ≡ Some a → slice_get after k ≡ Some b → (k ≡ i → l ≡ j → ⊥) → known_from l (state_of meaning b).known ≡ known_from l (state_of meaning a).known

  -- all that the sender's cell has sent on a link was drained
  pub record HasDrainedLink (meaning : DynBox X Global F → View) (from : Cell X F) (w : Wire) (before after : InnerEnds) (drained : List (ℕ × Message)) : Type 0 where
    pub end : SameHead before.drain after.drain
    pub more : HasDrained before.drain [] after.drain drained
    pub all : taken_from after.drain ≡ lane w.receiver (state_of meaning from).sent
    pub feed : after.feed ≡ before.feed
    pub waits : after.waits ≡ before.waits

  -- the first `count` links were drained completely, and the others are as before
  pub record HaveDrained (meaning : DynBox X Global F → View) (node : ℕ → ℕ) (count : ℕ) (cells : List (Cell X F)) (ws : List Wire) (before after : List InnerEnds) (ps : List Passing) : Type 0 where
    pub size : length after ≡ length before
    pub counted : length ps ≡ length ws
    pub rest : (k : ℕ) (a b : InnerEnds) → count ≤ k → slice_get before k ≡ Some a → slice_get after k ≡ Some b → b ≡ a
    pub passing : (k : ℕ) (w : Wire) (p : Passing) → slice_get ws k ≡ Some w → slice_get ps k ≡ Some p → IsPassingOf node w p × (p.arrived ≡ [])
    pub idle : (k : ℕ) (p : Passing) → count ≤ k → slice_get ps k ≡ Some p → p.drained ≡ []
    pub drained : (k : ℕ) (w : Wire) (from : Cell X F) (a b : InnerEnds) (p : Passing) → k < count → slice_get ws k ≡ Some w → slice_get cells w.sender ≡ Some from → slice_get before k ≡ Some a → slice_get after k ≡ Some b → slice_get ps k ≡ Some p
        → HasDrainedLink meaning from w a b p.drained

  -- what arrived on a link was fed to it, all of it waits for the receiver's cell, and the link has
  -- passed it together with what was drained
  pub record HasFedLink (meaning : DynBox X Global F → View) (to : Cell X F) (w v : Wire) (before after : InnerEnds) (p : Passing) : Type 0 where
    pub end : SameTail before.feed after.feed
    pub fed : sent_on after.feed ≡ sent_on before.feed ++ p.arrived
    pub waits : AllWaits (state_of meaning to) w.sender after.feed
    pub none : after.waits ≡ false → lane w.sender (state_of meaning to).taken ≡ sent_on after.feed
    pub drain : after.drain ≡ before.drain
    pub kept : v ≡ keeps w p.drained p.arrived

  -- the first `count` links were fed in this way, and the others are as before
  pub record HaveFed (meaning : DynBox X Global F → View) (count : ℕ) (cells : List (Cell X F)) (ws vs : List Wire) (before after : List InnerEnds) (ps : List Passing) : Type 0 where
    pub size : length after ≡ length before
    pub wires : length vs ≡ length ws
    pub rest : (k : ℕ) (a b : InnerEnds) → count ≤ k → slice_get before k ≡ Some a → slice_get after k ≡ Some b → b ≡ a
    pub left : (k : ℕ) (w v : Wire) → count ≤ k → slice_get ws k ≡ Some w → slice_get vs k ≡ Some v → v ≡ w
    pub fed : (k : ℕ) (w v : Wire) (to : Cell X F) (a b : InnerEnds) (p : Passing) → k < count → slice_get ws k ≡ Some w → slice_get vs k ≡ Some v → slice_get cells w.receiver ≡ Some to
        → slice_get before k ≡ Some a → slice_get after k ≡ Some b → slice_get ps k ≡ Some p → HasFedLink meaning to w v a b p
