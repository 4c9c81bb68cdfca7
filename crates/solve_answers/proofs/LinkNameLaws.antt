-- The agents at the ends of a link that differs are agents of the problem.
use Rattle.std.proofs.Common.{◌≡◌, ℕ, ◌<◌, inl, inr, List, [], ◌∷◌, Some, sym, subst}
use Rattle.std.specs.List.{All, slice_get}
use Rattle.std.proofs.lemmas.Option.{slice_get_within, get_or_from_slice_get}
use Rattle.std.proofs.lemmas.List.Elements.{All-nil, All-cons, All-head, All-tail}
use Rattle.worker_laws.specs.Cells.{CellState}
use Rattle.worker_laws.specs.Wires.{Wire, ArePassedOn}
use Rattle.worker_laws.specs.NodeRounds.{AreNodeRounds}
use Rattle.tcp_links.specs.declared.fault.Difference.{Difference}
use Rattle.tcp_links.specs.declared.fault.Difference.TheVariants.{Message, Bytes}
use Rattle.tcp_links.specs.declared.fault.NodeFault.TheVariants.{Differs}
use Rattle.tcp_links.specs.declared.plan.InnerEnds.{InnerEnds}
use Rattle.tcp_links.specs.Plans.{IsBetween}
use Rattle.tcp_links.specs.Ends.{AreThere, IsDifference}
use Rattle.solve_answers.specs.Nodes.{IsFaultNamed}

-- a link is between agents with numbers below this one
abbrev IsInside : ℕ → Wire → Type 0
IsInside agents w = (w.sender < agents) × (w.receiver < agents)

inside_between : (agents nodes : ℕ) (ws : List Wire) → All (IsBetween agents nodes) ws → All (IsInside agents) ws
inside_between agents nodes [] all = All-nil (IsInside agents)
inside_between agents nodes (w ∷ ws) all =
    let own = All-head (IsBetween agents nodes) w ws all in
    All-cons (IsInside agents) w ws (own.sender, own.receiver) (inside_between agents nodes ws (All-tail (IsBetween agents nodes) w ws all))

-- an exchange keeps this
inside_passed : (agents : ℕ) (ws vs : List Wire) → ArePassedOn ws vs → All (IsInside agents) ws → All (IsInside agents) vs
inside_passed agents [] [] passed all = All-nil (IsInside agents)
inside_passed agents [] (v ∷ vs) passed all = absurd passed
inside_passed agents (w ∷ ws) [] passed all = absurd passed
inside_passed agents (w ∷ ws) (v ∷ vs) passed all =
    let own = All-head (IsInside agents) w ws all in
    All-cons (IsInside agents) v vs (subst (λ (k : ℕ). k < agents) (sym passed.0.sender) own.0, subst (λ (k : ℕ). k < agents) (sym passed.0.receiver) own.1)
    (inside_passed agents ws vs passed.1 (All-tail (IsInside agents) w ws all))

-- so do rounds
inside_rounds : (agents : ℕ) (node : ℕ → ℕ) (budget : ℕ) (ws : List Wire) (before : List CellState) (rounds : List (List CellState)) (vs : List Wire) (after : List CellState) → AreNodeRounds node budget ws before rounds vs after
    → All (IsInside agents) ws → All (IsInside agents) vs
inside_rounds agents node budget ws before [] vs after r all = subst (λ (xs : List Wire). All (IsInside agents) xs) r.0 all
inside_rounds agents node budget ws before (next ∷ rounds) vs after r all =
    inside_rounds agents node budget r.1.0 next rounds vs after r.1.2 (inside_passed agents ws r.1.0 r.1.1.exchange.passed all)

inside_there : (agents : ℕ) (node : ℕ → ℕ) (budget : ℕ) (begun : List Wire) (started : List CellState) (wires : List Wire) (now : List CellState) (count : ℕ) → AreThere node budget begun started wires now count
    → All (IsInside agents) begun → All (IsInside agents) wires
inside_there agents node budget begun started wires now count (inl p) all = inside_rounds agents node budget begun started p.0.rounds wires now p.0.are all
inside_there agents node budget begun started wires now count (inr b) all =
    inside_passed agents b.1.passed wires b.1.exchange.passed (inside_rounds agents node budget begun started b.1.played.rounds b.1.passed b.1.before b.1.played.are all)

all_at : (P : Wire → Type 0) (ws : List Wire) (i : ℕ) (w : Wire) → All P ws → slice_get ws i ≡ Some w → P w
all_at P ws i w all is = subst P (get_or_from_slice_get ws i w w is) (all i w (slice_get_within ws i w is))

-- a difference that agents reach over links between them reports two of these agents
pub difference_named : (agents nodes : ℕ) (node : ℕ → ℕ) (budget : ℕ) (begun : List Wire) (started : List CellState) (left : List Wire) (ends : List InnerEnds) (last : List CellState) (d : Difference) → All (IsBetween agents nodes) begun → IsDifference nodes node budget begun started left ends last d
    → IsFaultNamed agents (Differs d)
difference_named agents nodes node budget begun started left ends last (Message from to at sent taken) all is =
    let before = inside_there agents node budget begun started is.wires is.now is.count is.there (inside_between agents nodes begun all) in
    let behind = inside_passed agents is.wires is.passed is.end.exchange.passed before in
    let own = all_at (IsInside agents) is.passed is.differs.link is.differs.first.wire behind is.differs.first.is in
    (subst (λ (k : ℕ). k < agents) (sym is.differs.from_is) own.0, subst (λ (k : ℕ). k < agents) (sym is.differs.to_is) own.1)
difference_named agents nodes node budget begun started left ends last (Bytes round from_node to_node place sent taken) all is = tt
