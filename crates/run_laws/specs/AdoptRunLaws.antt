-- The law on runs of ADOPT agents.
use Rattle.std.specs.Prelude.{◌≡◌, ℕ, ◌<◌, true, Option, ◌==◌, List, ◌∷◌, ◌++◌, length, Some, slice_get}
use Rattle.std.specs.List.{All, fold, position}
use Rattle.dcop_base.specs.Problem.{Dcop}
use Rattle.dcop_base.specs.Whole.{IsProblem}
use Rattle.pseudotree.specs.Pseudotree.{IsPseudotree}
use Rattle.protocol_steps.specs.declared.event.Event.{Event}
use Rattle.protocol_steps.specs.Network.{Network, link}
use Rattle.adopt_context.specs.Context.{Context, value_in, part_of}
use Rattle.protocol_steps.specs.declared.message.Message.{Message}
use Rattle.protocol_steps.specs.declared.message.Message.TheVariants.{Cost}
use Rattle.protocol_steps.specs.Adopt.{AdoptView}
use Rattle.protocol_steps.specs.AdoptCost.{without, learn, may_store}
use Rattle.protocol_steps.specs.AdoptMessage.{adopt_message}
use Rattle.protocol_steps.specs.AdoptRange.{fits}
use Rattle.protocol_steps.specs.Network.{batch}
use Rattle.protocol_steps.specs.Run.{happen}
use Rattle.protocol_steps.specs.View.{AdoptKind}
use Rattle.run_laws.specs.AdoptRun.{IsAdoptRun}
use Rattle.run_laws.specs.AdoptAgents.{IsSent, AreAgents}

-- the end of a run of ADOPT, whether or not all agents have ended: there is an agent for each
-- variable, `AreAgents` holds of the agents, and `IsSent` of all that they have sent
pub record HoldsOfAdopt (p : Dcop) (paths : List (List ℕ)) (error : ℕ) (end : Network) : Type 0 where
  pub sized : length end.views ≡ length p.sizes
  pub agents : AreAgents p paths error end.views
  pub sent : (i j : ℕ) → All (IsSent p paths i) (link end.desks i j)

-- in every run of ADOPT on a pseudotree, for every requested error, the bounds of all agents, of their entries and of what they send enclose the subtree optima
abbrev pub AdoptBoundsEnclose : Type 0
AdoptBoundsEnclose = (p : Dcop) (paths : List (List ℕ)) (error : ℕ) → IsProblem p → IsPseudotree p paths
    → (es : List Event) (end : Network) → IsAdoptRun p paths error es end → HoldsOfAdopt p paths error end

-- about a COST from agent j. If j is a child, the context of the COST gives the agent a value below
-- its size, and the rest of this context fits and is part of what the agent knows after it has
-- learned from it, then the bounds may be stored: they do not cross the stored ones
abbrev pub DoesNotCross : AdoptView → ℕ → Context → ℕ → Option ℕ → Type 0
DoesNotCross v j c l u = (k d : ℕ) → position (λ child. child == j) v.place.children ≡ Some k → value_in c v.own.me ≡ Some d → d < v.own.size
    → fits v (without v.own.me c) ≡ true → part_of (without v.own.me c) (learn v (without v.own.me c)).known ≡ true
    → may_store (learn v (without v.own.me c)) d k (without v.own.me c) l u ≡ true

-- in every run of ADOPT on a pseudotree no COST is ignored because its bounds cross the stored ones, in no event and at no message of its batch
abbrev pub NoBoundsCross : Type 0
NoBoundsCross = (p : Dcop) (paths : List (List ℕ)) (error : ℕ) → IsProblem p → IsPseudotree p paths
    → (es : List Event) (net after : Network) (e : Event) → IsAdoptRun p paths error es net → happen (Some net) e ≡ Some after
    → (v : AdoptView) → slice_get net.views e.agent ≡ Some (AdoptKind v)
    → (done rest : List (ℕ × Message)) (j : ℕ) (c : Context) (l : ℕ) (u : Option ℕ) → batch net.desks e.agent e.takes ≡ done ++ ((j, Cost c l u) ∷ rest)
    → DoesNotCross (fold (λ w m. adopt_message w m.0 m.1) v done) j c l u
