-- Links between nodes that have held.
use Rattle.std.proofs.Common.{◌≡◌, ℕ, ◌==◌, ◌&&◌, if◌then◌else◌, List, [], ◌∷◌, ◌++◌, refl, ap₂, subst}
use Rattle.std.specs.List.{All, flat_map}
use Rattle.std.specs.Option.{option_to_list}
use Rattle.std.proofs.lemmas.List.Elements.{All-nil, All-cons, All-head, All-tail}
use Rattle.protocol_steps.specs.declared.message.Message.{Message}
use Rattle.worker_laws.specs.Wires.{Passage, Wire, IsSame, HasHeld, HaveHeld, HasPassed, ArePassedOn, drained_in, arrived_in}

-- the first part of a list that is so is so
pub all_left : {X : Type 0} (P : X → Type 0) (xs ys : List X) → All P (xs ++ ys) → All P xs
all_left P [] ys h = All-nil P
all_left P (x ∷ xs) ys h = All-cons P x xs (All-head P x (xs ++ ys) h) (all_left P xs ys (All-tail P x (xs ++ ys) h))

-- and so is the rest
pub all_right : {X : Type 0} (P : X → Type 0) (xs ys : List X) → All P (xs ++ ys) → All P ys
all_right P [] ys h = h
all_right P (x ∷ xs) ys h = all_right P xs ys (All-tail P x (xs ++ ys) h)

wire_before : (before after : Wire) → HasPassed before after → HasHeld after → HasHeld before
wire_before before after p h = all_left IsSame before.passages (option_to_list p.passage) (subst (λ (ps : List Passage). All IsSame ps) p.passages h)

-- links that have held with one passage more had held before
pub held_before : (wires more : List Wire) → ArePassedOn wires more → HaveHeld more → HaveHeld wires
held_before [] [] p h = h
held_before [] (v ∷ vs) p h = absurd p
held_before (w ∷ ws) [] p h = absurd p
held_before (w ∷ ws) (v ∷ vs) p h = All-cons HasHeld w ws (wire_before w v p.0 (All-head HasHeld v vs h)) (held_before ws vs p.1 (All-tail HasHeld v vs h))

same_passages : (ps : List Passage) → All IsSame ps → flat_map (λ (p : Passage). p.arrived) ps ≡ flat_map (λ (p : Passage). p.drained) ps
same_passages [] h = refl
same_passages (p ∷ ps) h = ap₂ (λ (es : List (ℕ × Message)) (fs : List (ℕ × Message)). es ++ fs) (All-head IsSame p ps h) (same_passages ps (All-tail IsSame p ps h))

-- on links that have held all that was drained arrived
pub all_arrived : (i j : ℕ) (ws : List Wire) → HaveHeld ws → arrived_in i j ws ≡ drained_in i j ws
all_arrived i j [] h = refl
all_arrived i j (w ∷ ws) h =
    ap₂ (λ (es : List (ℕ × Message)) (fs : List (ℕ × Message)). (if w.receiver == i && w.sender == j then es else []) ++ fs) (same_passages w.passages (All-head HasHeld w ws h))
    (all_arrived i j ws (All-tail HasHeld w ws h))
