-- How an ADOPT agent's messages, batches and starts make up those of a machine.
use Rattle.std.proofs.Common.{◌≡◌, ℕ, ◌+◌, ◌<◌, ◌≤◌, Bool, true, List, ◌∷◌, length, drop, get_or, refl, sym, ap, ap₂, ◌∙◌}
use Rattle.std.specs.List.{All, fold}
use Rattle.std.proofs.lemmas.Bool.{false≢true}
use Rattle.std.proofs.lemmas.List.{at_drop_more, at_drop_all}
use Rattle.std.proofs.lemmas.List.Elements.{All-same}
use Rattle.protocol_steps.specs.declared.message.Message.{Message}
use Rattle.protocol_steps.specs.Adopt.{AdoptView}
use Rattle.protocol_steps.specs.AdoptMessage.{adopt_message}
use Rattle.protocol_steps.specs.AdoptStep.{adopt_start, adopt_step}
use Rattle.protocol_steps.specs.View.{AdoptKind}
use Rattle.protocol_steps.specs.Step.{start_of, step_of}
use Rattle.protocol_steps.specs.Machine.{IsStart, IsStep, IsToNeighbour}
use Rattle.protocol_steps.proofs.ParcelLaws.{parcels_go_to_neighbours}
use Rattle.dcop_base.specs.declared.knowledge.Private.{Private}
use Rattle.pseudotree.specs.declared.agent.Place.{Place}
use Rattle.adopt_context.specs.Context.{Context}
use Rattle.adopt_context.specs.Bounds.{Entry}
use Rattle.protocol_steps.specs.Agent.{Phase, not_started}
use Rattle.protocol_steps.specs.AdoptBounds.{best_lower}
use Rattle.adopt_agent.specs.declared.stage.Stage.{Stage}
use Rattle.adopt_agent.specs.declared.stage.Stage.TheVariants.{Waiting, Working, Ended, Failed}
use Rattle.adopt_agent.specs.Stage.{phase_at, view_at}
use Rattle.adopt_agent.specs.Deed.{GivesAdoptStep}

-- the view after these letters
abbrev pub handled : List (ℕ × Message) → AdoptView → AdoptView
handled ls v = fold (λ w l. adopt_message w l.0 l.1) v ls

-- one more letter
pub leads_on : (all : List (ℕ × Message)) (k : ℕ) (letter : ℕ × Message) (view after whole : AdoptView) → k < length all → letter ≡ get_or all k letter → handled (drop k all) view ≡ whole → after ≡ adopt_message view letter.0 letter.1 → handled (drop (k + 1) all) after ≡ whole
leads_on all k letter view after whole lt e leads is =
    ap (λ (v : AdoptView). handled (drop (k + 1) all) v) is
    ∙ ap (λ (l : ℕ × Message). handled (l ∷ drop (k + 1) all) view) e
    ∙ sym (at_drop_more (λ (ls : List (ℕ × Message)). handled ls view) all k letter lt) ∙ leads

-- when no letter is left
pub led_to : (all : List (ℕ × Message)) (k : ℕ) (view whole : AdoptView) → length all ≤ k → handled (drop k all) view ≡ whole → view ≡ whole
led_to all k view whole le leads = sym (at_drop_all (λ (ls : List (ℕ × Message)). handled ls view) all k le) ∙ leads

-- the start of an ADOPT agent is that of a machine, and reaches neighbours
pub is_start : (v w : AdoptView) (ps : List (ℕ × Message)) → GivesAdoptStep (adopt_start v) w ps → IsStart (AdoptKind v) (AdoptKind w) ps
unfolding start_of
is_start v w ps g = record { viewed = ap (λ (x : AdoptView). AdoptKind x) g.viewed; sent = g.sent }

pub start_reaches : (v w : AdoptView) (ps : List (ℕ × Message)) → GivesAdoptStep (adopt_start v) w ps → All (IsToNeighbour (AdoptKind v)) ps
unfolding start_of
start_reaches v w ps g = All-same (IsToNeighbour (AdoptKind v)) ps (adopt_start v).sends g.sent (parcels_go_to_neighbours.started (AdoptKind v) tt).receivers

-- a batch of an ADOPT agent is a step of a machine, and reaches neighbours
pub is_step : (v w : AdoptView) (ls ps : List (ℕ × Message)) → GivesAdoptStep (adopt_step v ls) w ps → IsStep (AdoptKind v) ls (AdoptKind w) ps
unfolding step_of
is_step v w ls ps g = record { viewed = ap (λ (x : AdoptView). AdoptKind x) g.viewed; sent = g.sent }

pub step_reaches : (v w : AdoptView) (ls ps : List (ℕ × Message)) → All (IsToNeighbour (AdoptKind v)) ls → GivesAdoptStep (adopt_step v ls) w ps → All (IsToNeighbour (AdoptKind v)) ps
unfolding step_of
step_reaches v w ls ps near g = All-same (IsToNeighbour (AdoptKind v)) ps (adopt_step v ls).sends g.sent (parcels_go_to_neighbours.stepped (AdoptKind v) ls tt near).receivers

-- an agent whose phase is that of a failure has failed
pub has_failed : (s : Stage) → (phase_at s).failed ≡ true → s ≡ Failed
has_failed Waiting h = absurd (false≢true h)
has_failed Working h = absurd (false≢true h)
has_failed Ended h = absurd (false≢true h)
has_failed Failed h = refl

-- the view with which a start ends its activation
abbrev pub awake : AdoptView → AdoptView
awake v = record v { value = best_lower v; phase = record v.phase { started = true } }

pub begun : (own : Private) (place : Place) (error : ℕ) (stage : Stage) (known : Context) (value threshold last : ℕ) (told : Bool) (rows : List (List Entry)) (v : AdoptView) (best : ℕ)
    → view_at own place error stage known value threshold last told rows ≡ v → v.phase ≡ not_started → best ≡ best_lower v
    → view_at own place error Working known best threshold last told rows ≡ awake v
begun own place error stage known value threshold last told rows v best view phase is =
    let w : AdoptView = view_at own place error stage known value threshold last told rows in
    let starts : phase_at Working ≡ record (phase_at stage) { started = true } = ap (λ (p : Phase). let q : Phase = record p { started = true } in q) (sym (ap (λ (x : AdoptView). x.phase) view ∙ phase)) in
    let best_is : best ≡ best_lower w = is ∙ ap best_lower (sym view) in
    ap₂ (λ (d : ℕ) (p : Phase). let x : AdoptView = record w { value = d; phase = p } in x) best_is starts
    ∙ ap awake view
