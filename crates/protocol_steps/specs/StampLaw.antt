-- The stamp law: activations ordered by piece, and in each piece by stamp, are a run.
use Rattle.std.specs.Prelude.{◌≡◌, ℕ, ◌<◌, ◌≤◌, List, [], ◌∷◌, ◌++◌, map, length, Some, slice_get}
use Rattle.std.specs.List.{flat_map}
use Rattle.protocol_steps.specs.declared.message.Message.{Message}
use Rattle.protocol_steps.specs.Network.{Desk, Network}
use Rattle.protocol_steps.specs.Run.{run}
use Rattle.protocol_steps.specs.Stamps.{Deed, Account}
use Rattle.protocol_steps.specs.Deeds.{takes_of, event_of, AreDeeds, deeds_of, after_all, posted_to, gained_from}

-- one list of messages is the first part of another
abbrev pub IsPrefix : List (ℕ × Message) → List (ℕ × Message) → Type 0
IsPrefix es all = (rest : List (ℕ × Message)) × (es ++ rest ≡ all)

-- on each link, what was taken is the first part of what was sent
abbrev pub TakenIsPrefix : (ℕ → Account) → Type 0
TakenIsPrefix now = (i j : ℕ) → IsPrefix (gained_from j (now i).gains) (posted_to i (now j).posted)

-- the stamps are at least b, and they do not descend
abbrev pub ByStampFrom : ℕ → List Deed → Type 0
ByStampFrom b [] = Unit {0}
ByStampFrom b (d ∷ ds) = (b ≤ d.stamp) × ByStampFrom d.stamp ds

-- pieces of activations, each in order of the stamps; at the end of each piece, what was taken on each link is the first part of what was sent
abbrev pub ArePieces : (ℕ → Account) → List (List Deed) → Type 0
ArePieces now [] = Unit {0}
ArePieces now (ds ∷ pieces) = ByStampFrom 0 ds × TakenIsPrefix (after_all now ds) × ArePieces (after_all now ds) pieces

-- all activations of the pieces
abbrev pub all_of : List (List Deed) → List Deed
all_of pieces = flat_map (λ ds. ds) pieces

-- the desk of an account: the same without the stamps
abbrev pub desk_of : Account → Desk
desk_of x = record { sent = map (λ p. (p.to, p.envelope.1)) x.posted; takes = takes_of x.gains }

-- a network of n agents is the one that these accounts show
pub record Shows (n : ℕ) (net : Network) (now : ℕ → Account) : Type 0 where
  pub agents : length net.views ≡ n
  pub size : length net.desks ≡ n
  pub views : (i : ℕ) → i < n → slice_get net.views i ≡ Some (now i).view
  pub desks : (i : ℕ) → i < n → slice_get net.desks i ≡ Some (desk_of (now i))

-- these activations are a run, and it ends in the network that these accounts show
pub record EndsAt (n : ℕ) (net : Network) (ds : List Deed) (now : ℕ → Account) : Type 0 where
  pub end : Network
  pub leads : run net (map event_of ds) ≡ Some end
  pub shows : Shows n end now

-- the stamp law. Let accounts show a network, on whose links what was taken is the first part of
-- what was sent. Let activations be given in pieces (`ArePieces`), such as rounds, each in order of
-- the stamps, and let each agent's activations in all pieces be such as may follow its account.
-- Then all these activations, piece by piece, are a run from this network to the one that the
-- accounts show after them
abbrev pub StampsOrder : Type 0
StampsOrder = (n : ℕ) (net : Network) (now : ℕ → Account) (pieces : List (List Deed)) → Shows n net now → TakenIsPrefix now
    → ((i : ℕ) → AreDeeds n (now i) (deeds_of i (all_of pieces))) → ArePieces now pieces → EndsAt n net (all_of pieces) (after_all now (all_of pieces))
