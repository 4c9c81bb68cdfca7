-- What a link has passed, by its inner ends.
use Rattle.std.specs.Prelude.{◌≡◌, ◌≢◌, ℕ, ◌⊎◌, List, Some, ◌++◌, slice_get}
use Rattle.std.specs.List.{flat_map}
use mathlib.Core.List.{IsPrefix}
use Rattle.fifo_links.specs.Link.{sent_on, taken_from}
use Rattle.worker_laws.specs.Cells.{EachAre}
use Rattle.worker_laws.specs.Wires.{Wire}
use Rattle.link_records.specs.Keeping.{keeps}
use Rattle.node_exchange.specs.Passings.{Passing}
use Rattle.tcp_links.specs.declared.plan.InnerEnds.{InnerEnds}

-- all that was ever drained of a link is what its passages drained, in order, and all that was ever
-- fed to its receiver is what arrived in them
pub record IsLinkKept (w : Wire) (ends : InnerEnds) : Type 0 where
  pub drained : flat_map (λ p. p.drained) w.passages ≡ taken_from ends.drain
  pub arrived : flat_map (λ p. p.arrived) w.passages ≡ sent_on ends.feed

-- each link's passages have exactly what went through its inner ends
abbrev pub AreLinksKept : List Wire → List InnerEnds → Type 0
AreLinksKept ws es = EachAre IsLinkKept ws es

-- what a link's passages say was drained is a first part of all that was ever drained at its one
-- inner end; and what they say arrived is a first part of all that was ever fed to the other
pub record IsNoted (w : Wire) (ends : InnerEnds) : Type 0 where
  pub drained : IsPrefix (flat_map (λ p. p.drained) w.passages) (taken_from ends.drain)
  pub arrived : IsPrefix (flat_map (λ p. p.arrived) w.passages) (sent_on ends.feed)

-- what a link's passages say was drained is a first part of what was drained at its one inner end;
-- and what they say arrived is all that was fed to the other
pub record IsFedNoted (w : Wire) (ends : InnerEnds) : Type 0 where
  pub drained : IsPrefix (flat_map (λ p. p.drained) w.passages) (taken_from ends.drain)
  pub arrived : flat_map (λ p. p.arrived) w.passages ≡ sent_on ends.feed

-- `IsFedNoted` holds of each link: what its passages say arrived is all that was fed to its inner
-- end
abbrev pub AreFedNoted : List Wire → List InnerEnds → Type 0
AreFedNoted ws es = EachAre IsFedNoted ws es

-- nothing was fed in between
abbrev pub HasSameFeed : InnerEnds → InnerEnds → Type 0
HasSameFeed before after = sent_on after.feed ≡ sent_on before.feed

-- `IsNoted` holds of each link: its passages have a first part of what was drained at its one inner
-- end, and a first part of what was fed to the other
abbrev pub AreNoted : List Wire → List InnerEnds → Type 0
AreNoted ws es = EachAre IsNoted ws es

-- what the exchange drained of a link is all that its passages lack, and nothing was fed since
pub record IsToNote (w : Wire) (ends : InnerEnds) (p : Passing) : Type 0 where
  pub drained : flat_map (λ q. q.drained) w.passages ++ p.drained ≡ taken_from ends.drain
  pub arrived : flat_map (λ q. q.arrived) w.passages ≡ sent_on ends.feed

-- this is so of each link
abbrev pub AreToNote : List Wire → List InnerEnds → List Passing → Type 0
AreToNote ws es ps = (k : ℕ) (w : Wire) (e : InnerEnds) (p : Passing)
    → slice_get ws k ≡ Some w → slice_get es k ≡ Some e → slice_get ps k ≡ Some p → IsToNote w e p

-- the link has noted what this exchange drained of it and what arrived, or nothing yet
abbrev pub MayKeep : Wire → Passing → Wire → Type 0
MayKeep before p after = (after ≡ before) ⊎ (after ≡ keeps before p.drained p.arrived)

-- this is so of each link
abbrev pub MayKeepAll : List Wire → List Passing → List Wire → Type 0
MayKeepAll before ps after = (k : ℕ) (v : Wire) (p : Passing) (w : Wire)
    → slice_get before k ≡ Some v → slice_get ps k ≡ Some p → slice_get after k ≡ Some w → MayKeep v p w

-- for each link but the one at this place, what its passages say arrived is all that was fed to its
-- receiver; for that one it is a first part
pub record AreFedButOne (ws : List Wire) (es : List InnerEnds) : Type 0 where
  pub place : ℕ
  pub noted : AreNoted ws es
  pub fed : (k : ℕ) (w : Wire) (e : InnerEnds)
      → slice_get ws k ≡ Some w → slice_get es k ≡ Some e → k ≢ place → IsFedNoted w e
