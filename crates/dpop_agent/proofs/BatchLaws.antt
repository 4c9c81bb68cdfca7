-- How the messages of a batch make up a step of a DPOP agent, and how starts and steps are those of a machine.
use Rattle.std.proofs.Common.{◌≡◌, ℕ, ◌+◌, ◌<◌, ◌≤◌, true, false, List, [], ◌∷◌, length, drop, get_or, refl, sym, ap, ◌∙◌}
use Rattle.std.specs.List.{All, Contains, fold}
use Rattle.std.proofs.lemmas.Bool.{true≢false}
use Rattle.std.proofs.lemmas.List.{at_drop_more, at_drop_all}
use Rattle.std.proofs.lemmas.List.Elements.{All-same, All-weaker, All-contains_itself}
use Rattle.dcop_base.specs.Table.{has}
use Rattle.protocol_steps.specs.declared.message.Message.{Message}
use Rattle.protocol_steps.specs.Agent.{Stepped, next_letter, not_started}
use Rattle.protocol_steps.specs.Dpop.{DpopView}
use Rattle.protocol_steps.specs.DpopStep.{dpop_message, dpop_start, dpop_step}
use Rattle.protocol_steps.specs.View.{DpopKind}
use Rattle.protocol_steps.specs.Step.{start_of, step_of}
use Rattle.protocol_steps.specs.Machine.{IsStart, IsStep, IsToNeighbour}
use Rattle.protocol_steps.specs.Placing.{IsPlaceFor}
use Rattle.protocol_steps.specs.Laws.{IsBeside}
use Rattle.protocol_steps.proofs.ParcelLaws.{parcels_go_to_neighbours}
use Rattle.dpop_agent.specs.declared.stage.Stage.{Stage}
use Rattle.dpop_agent.specs.declared.stage.Stage.TheVariants.{Waiting, Working, Ended, Failed}
use Rattle.dpop_agent.specs.Stage.{phase_at}
use Rattle.dpop_agent.specs.Deed.{GivesDpopStep}
use Rattle.dpop_agent.proofs.OverLaws.{had_of}

-- what is handled so far leads, with the letters that are left, to the step on all letters
pub record Leads (start : DpopView) (all : List (ℕ × Message)) (view : DpopView) (sends rest : List (ℕ × Message)) : Type 0 where
  pub leads : fold (next_letter dpop_message) (record { view = view; sends = sends }) rest ≡ dpop_step start all

pub leads_on : (start : DpopView) (all : List (ℕ × Message)) (k : ℕ) (letter : ℕ × Message) (view after : DpopView) (sends more : List (ℕ × Message)) → k < length all → letter ≡ get_or all k letter → Leads start all view sends (drop k all) → GivesDpopStep (dpop_message view letter.0 letter.1) after sends more → Leads start all after more (drop (k + 1) all)
leads_on start all k letter view after sends more lt e l g =
    let F : List (ℕ × Message) → Stepped DpopView = fold (next_letter dpop_message) (record { view = view; sends = sends }) in
    let first = sym (at_drop_more F all k letter lt) ∙ l.leads in
    let now = ap (λ x. F (x ∷ drop (k + 1) all)) e ∙ first in
    let views = ap (λ w. let s : Stepped DpopView = record { view = w; sends = more } in fold (next_letter dpop_message) s (drop (k + 1) all)) g.viewed in
    let lists = ap (λ ps. let s : Stepped DpopView = record { view = (dpop_message view letter.0 letter.1).view; sends = ps } in fold (next_letter dpop_message) s (drop (k + 1) all)) g.sent in
    record { leads = views ∙ lists ∙ now }

-- when no letter is left
pub led_to : (start : DpopView) (all : List (ℕ × Message)) (k : ℕ) (view : DpopView) (sends : List (ℕ × Message)) → length all ≤ k → Leads start all view sends (drop k all) → (view ≡ (dpop_step start all).view) × (sends ≡ (dpop_step start all).sends)
led_to start all k view sends le l =
    let F : List (ℕ × Message) → Stepped DpopView = fold (next_letter dpop_message) (record { view = view; sends = sends }) in
    let end = sym (at_drop_all F all k le) ∙ l.leads in
    (ap (λ s. s.view) end, ap (λ s. s.sends) end)

-- an agent that may start waits
pub waits : (stage : Stage) → (phase_at stage).started ≡ false → phase_at stage ≡ not_started
waits Waiting h = refl
waits Working h = absurd (true≢false h)
waits Ended h = absurd (true≢false h)
waits Failed h = absurd (true≢false h)

-- the children of a place are neighbours
children_near : (near lower children : List ℕ) → All (λ u. has near u ≡ true) lower → All (λ u. has lower u ≡ true) children → All (Contains near) children
children_near near lower children below all =
    All-weaker (λ u. has lower u ≡ true) (Contains near) (λ u h. had_of (Contains near) near u (All-contains_itself near) (had_of (λ v. has near v ≡ true) lower u below h)) children all

-- an agent with a place for what it knows stands beside its parent and its children
pub stands_beside : (v : DpopView) → IsPlaceFor v.own v.place → IsBeside (DpopKind v)
stands_beside v placed = (placed.parent, children_near v.own.neighbours v.place.lower v.place.children placed.lower.1 placed.children.1)

-- the start of a DPOP agent is that of a machine, and reaches neighbours
pub is_start : (v w : DpopView) (ps : List (ℕ × Message)) → GivesDpopStep (dpop_start v) w [] ps → IsStart (DpopKind v) (DpopKind w) ps
unfolding start_of
is_start v w ps g = record { viewed = ap (λ (x : DpopView). DpopKind x) g.viewed; sent = g.sent }

pub start_reaches : (v w : DpopView) (ps : List (ℕ × Message)) → IsBeside (DpopKind v) → GivesDpopStep (dpop_start v) w [] ps → All (IsToNeighbour (DpopKind v)) ps
unfolding start_of
start_reaches v w ps beside g = All-same (IsToNeighbour (DpopKind v)) ps (dpop_start v).sends g.sent (parcels_go_to_neighbours.started (DpopKind v) beside).receivers

-- a batch of a DPOP agent is a step of a machine, and reaches neighbours
pub is_step : (v w : DpopView) (ls ps : List (ℕ × Message)) → w ≡ (dpop_step v ls).view → ps ≡ (dpop_step v ls).sends → IsStep (DpopKind v) ls (DpopKind w) ps
unfolding step_of
is_step v w ls ps e m = record { viewed = ap (λ (x : DpopView). DpopKind x) e; sent = m }

pub step_reaches : (v : DpopView) (ls ps : List (ℕ × Message)) → IsBeside (DpopKind v) → All (IsToNeighbour (DpopKind v)) ls → ps ≡ (dpop_step v ls).sends → All (IsToNeighbour (DpopKind v)) ps
unfolding step_of
step_reaches v ls ps beside near m = All-same (IsToNeighbour (DpopKind v)) ps (dpop_step v ls).sends m (parcels_go_to_neighbours.stepped (DpopKind v) ls beside near).receivers
