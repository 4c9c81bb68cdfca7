-- Laws of steps and of runs.
use Rattle.std.specs.Prelude.{◌≡◌, ℕ, List, Some}
use Rattle.std.specs.List.{All, Contains}
use Rattle.protocol_steps.specs.declared.message.Message.{Message}
use Rattle.protocol_steps.specs.declared.event.Event.{Event}
use Rattle.protocol_steps.specs.Agent.{Stepped, last_of}
use Rattle.protocol_steps.specs.View.{View, TokenKind, DpopKind, AdoptKind, made_of}
use Rattle.protocol_steps.specs.Step.{start_of, step_of}
use Rattle.protocol_steps.specs.Machine.{IsToNeighbour}
use Rattle.protocol_steps.specs.Network.{Network}
use Rattle.protocol_steps.specs.Run.{run, SameJournals}

-- what an agent was made from never changes, neither by its start nor by a step
pub record OriginsStay : Type 0 where
  pub started : (v : View) → made_of (start_of v).view ≡ made_of v
  pub stepped : (v : View) (ls : List (ℕ × Message)) → made_of (step_of v ls).view ≡ made_of v

-- the parent on this path, if there is one, is one of these neighbours
abbrev pub IsParentBeside : List ℕ → List ℕ → Type 0
IsParentBeside neighbours path = (parent : ℕ) → last_of path ≡ Some parent → Contains neighbours parent

-- the parent of a token agent, and the parent and the children of a DPOP agent, are among its
-- neighbours; nothing is asked of an ADOPT agent
abbrev pub IsBeside : View → Type 0
IsBeside (TokenKind v) = IsParentBeside v.own.neighbours v.path
IsBeside (DpopKind v) = IsParentBeside v.own.neighbours v.place.path × All (Contains v.own.neighbours) v.place.children
IsBeside (AdoptKind v) = Unit {0}

-- after a start or a step what `IsBeside` says holds again, and each parcel goes to a neighbour
pub record ReachesNeighbours (before : View) (s : Stepped View) : Type 0 where
  pub beside : IsBeside s.view
  pub receivers : All (IsToNeighbour before) s.sends

-- each parcel of a start or a step goes to a neighbour that the view names, if what `IsBeside` says
-- holds of the view and each letter comes from a neighbour
pub record ParcelsGoToNeighbours : Type 0 where
  pub started : (v : View) → IsBeside v → ReachesNeighbours v (start_of v)
  pub stepped : (v : View) (ls : List (ℕ × Message)) → IsBeside v → All (IsToNeighbour v) ls → ReachesNeighbours v (step_of v ls)

-- the journal law: two runs from one network state with the same journals end in the same network state
abbrev pub JournalsDecide : Type 0
JournalsDecide = (net one other : Network) (es fs : List Event) → run net es ≡ Some one → run net fs ≡ Some other → SameJournals es fs → one ≡ other
