-- The law that runs of ADOPT can continue until they end.
use Rattle.std.specs.Prelude.{◌≡◌, ℕ, false, List}
use Rattle.dcop_base.specs.Problem.{Dcop}
use Rattle.dcop_base.specs.Whole.{IsProblem}
use Rattle.pseudotree.specs.Pseudotree.{IsPseudotree, IsLinked}
use Rattle.protocol_steps.specs.declared.event.Event.{Event}
use Rattle.protocol_steps.specs.Network.{Network}
use Rattle.protocol_steps.specs.Effect.{SomePending, has_ended}
use Rattle.run_laws.specs.AdoptRun.{IsAdoptRun}

-- in every run of ADOPT on a linked pseudotree, for every requested error, a message is pending until all agents have ended
abbrev pub AdoptPending : Type 0
AdoptPending = (p : Dcop) (paths : List (List ℕ)) (error : ℕ) → IsProblem p → IsPseudotree p paths → IsLinked p paths
    → (es : List Event) (end : Network) → IsAdoptRun p paths error es end → has_ended end ≡ false → SomePending end
