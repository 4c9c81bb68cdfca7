-- What the wires of a plan carried in a run.
use Rattle.std.specs.Prelude.{◌≡◌, ℕ, List, ◌++◌, Some, Result, Ok, Err, slice_get, option_to_list}
use Rattle.std.specs.List.{All, flat_map}
use mathlib.Core.List.{IsPrefix}
use Rattle.protocol_steps.specs.declared.message.Message.{Message}
use Rattle.fifo_links.specs.Link.{taken_from}
use Rattle.worker_laws.specs.Cells.{CellState, lane, EachAre}
use Rattle.worker_laws.specs.OneNode.{home}
use Rattle.worker_laws.specs.Wires.{Wire}
use Rattle.wire_pump.specs.Wire.{Told}
use Rattle.node_exchange.specs.Passings.{Passing}
use Rattle.node_exchange.specs.Turned.{Load, loads, AreTurnedWith, HaveCarriedFirst}
use Rattle.tcp_links.specs.declared.fault.NodeFault.{NodeFault}
use Rattle.tcp_links.specs.declared.plan.InnerEnds.{InnerEnds}
use Rattle.tcp_links.specs.declared.plan.NodePlan.{NodePlan}
use Rattle.tcp_links.specs.Left.{pairs_lost_by}
use Rattle.tcp_links.specs.Woven.{IsPassingOf}

-- what these exchanges drained, one after the other, of the link at a place
abbrev pub drained_at : List (List Passing) → ℕ → List (ℕ × Message)
drained_at exchanges place = flat_map (λ ps. flat_map (λ p. p.drained) (option_to_list (slice_get ps place))) exchanges

-- of the link at each place exactly this was taken at its inner end, between two states of the ends
abbrev pub AreTaken : List InnerEnds → List InnerEnds → (ℕ → List (ℕ × Message)) → Type 0
AreTaken before after drained = (k : ℕ) (a b : InnerEnds) → slice_get before k ≡ Some a → slice_get after k ≡ Some b → taken_from a.drain ++ drained k ≡ taken_from b.drain

-- of the link at each place this was taken at its inner end, and maybe more after it
abbrev pub AreTakenFirst : List InnerEnds → List InnerEnds → (ℕ → List (ℕ × Message)) → Type 0
AreTakenFirst before after drained = (k : ℕ) (a b : InnerEnds) → slice_get before k ≡ Some a → slice_get after k ≡ Some b → IsPrefix (taken_from a.drain ++ drained k) (taken_from b.drain)

-- on the link at each place exactly this is what the sender's cell has sent to the receiver
abbrev pub AreSent : List Wire → List CellState → (ℕ → List (ℕ × Message)) → Type 0
AreSent ws cells drained = (k : ℕ) (w : Wire) (from : CellState) → slice_get ws k ≡ Some w → slice_get cells w.sender ≡ Some from → drained k ≡ lane w.receiver from.sent

-- in exchanges over these links the pairs of wires carried, exchange by exchange and pair by pair,
-- the frames of what was drained of the links between their two nodes: `Drained` holds of what was
-- drained of the link at each place, and `Carried` of these frames in order
pub record HaveCarriedOver (nodes : ℕ) (node : ℕ → ℕ) (ws : List Wire) (Drained : (ℕ → List (ℕ × Message)) → Type 0) (Carried : List Load → Type 0) : Type 0 where
  pub exchanges : List (List Passing)
  pub links : All (λ ps. EachAre (IsPassingOf node) ws ps) exchanges
  pub drained : Drained (drained_at exchanges)
  pub carried : Carried (flat_map (loads nodes) exchanges)

module _ {W : Type 0} (told : W → Told) (is_joined : W → W → Type 0) where
  -- the wires of a plan have carried, in frames, exactly what was taken of its links; or, after a
  -- fault, a first part of that
  abbrev pub HaveCarriedTaken : {T : Type 0} → NodePlan W → NodePlan W → Result T NodeFault → Type 0
  HaveCarriedTaken p q (Ok value) =
      HaveCarriedOver p.nodes (home p.nodes p.agents) p.kept.items (AreTaken p.ends.items q.ends.items) (λ loads. AreTurnedWith told is_joined 0 loads p.wires.items q.wires.items)
  HaveCarriedTaken {T = T} p q (Err e) =
      HaveCarriedOver p.nodes (home p.nodes p.agents) p.kept.items (AreTakenFirst p.ends.items q.ends.items) (λ loads. HaveCarriedFirst told is_joined (pairs_lost_by {T = T} (Err e)) loads p.wires.items q.wires.items)

  -- after a run the wires of a plan have carried, in frames, exactly what these cells have sent on
  -- its links; or, after a fault, a first part of what was taken of them
  abbrev pub HaveCarriedSent : {T : Type 0} → NodePlan W → NodePlan W → List CellState → Result T NodeFault → Type 0
  HaveCarriedSent p q cells (Ok value) =
      HaveCarriedOver p.nodes (home p.nodes p.agents) p.kept.items (AreSent p.kept.items cells) (λ loads. AreTurnedWith told is_joined 0 loads p.wires.items q.wires.items)
  HaveCarriedSent {T = T} p q cells (Err e) = HaveCarriedTaken {T = T} p q (Err e)
