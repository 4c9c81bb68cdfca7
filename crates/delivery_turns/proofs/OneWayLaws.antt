-- Two runs of agents with the same start views go one way.
use Rattle.std.proofs.Common.{◌≡◌, ◌≢◌, ℕ, ◌<◌, Bool, false, List, [], ◌∷◌, ◌++◌, length, refl, sym, ap, subst, ◌∙◌, arith}
use Rattle.std.specs.List.{flat_map, range_with_len}
use Rattle.std.proofs.lemmas.Bool.{false≢true}
use Rattle.std.proofs.lemmas.Option.{same_Some}
use Rattle.protocol_steps.specs.declared.event.Event.{Event}
use Rattle.protocol_steps.specs.declared.event.Take.{Take}
use Rattle.protocol_steps.specs.declared.message.Message.{Message}
use Rattle.protocol_steps.specs.declared.outcome.Outcome.{Outcome}
use Rattle.protocol_steps.specs.declared.run_end.RunEnd.{RunEnd}
use Rattle.protocol_steps.specs.declared.run_end.RunEnd.TheVariants.{AllEnded, Spent, Still}
use Rattle.protocol_steps.specs.View.{View}
use Rattle.protocol_steps.specs.Network.{Network, start_state}
use Rattle.protocol_steps.specs.Effect.{pending, has_ended, deliveries}
use Rattle.protocol_steps.specs.Outcomes.{IsOutcomeOf}
use Rattle.protocol_steps.specs.RunEnds.{NothingPending, IsRunEnd}
use Rattle.protocol_steps.specs.Rounds.{most_events, AreRounds}
use Rattle.letter_queues.specs.Takes.{take_some}
use Rattle.delivery_turns.specs.Turns.{turn_takes, event_with, turn, after, turns, sprint, AreEventfulRounds}
use Rattle.delivery_turns.specs.PlayedOut.{HavePlayedOut}
use Rattle.delivery_turns.specs.declared.sprint.PlayedOut.{PlayedOut}
use Rattle.delivery_turns.proofs.KeptLaws.{ran_after}
use Rattle.delivery_turns.proofs.SprintLaws.{sprint_done}

-- nobody takes anything where nothing is pending
takes_still : (counts : ℕ → ℕ) → ((j : ℕ) → counts j ≡ 0) → (js : List ℕ) → flat_map (λ j. take_some j (counts j)) js ≡ []
takes_still counts none [] = refl
takes_still counts none (j ∷ js) = ap (λ (n : ℕ). take_some j n ++ flat_map (λ k. take_some k (counts k)) js) (none j) ∙ takes_still counts none js

turns_still : (net : Network) → NothingPending net → (is : List ℕ) → turns net is ≡ []
turns_still net none [] = refl
turns_still net none (i ∷ is) =
    let takes : turn_takes net i ≡ [] = takes_still (λ j. length (pending net i j)) (λ j. ap (λ (ms : List Message). length ms) (none i j)) (range_with_len 0 (length net.views)) in
    let own : turn net i ≡ [] = ap (λ (ts : List Take). event_with i ts) takes in
    ap (λ (es : List Event). es ++ turns (after net es) is) own ∙ turns_still net none is

-- where a run has ended no round goes on
ended_here : (budget : ℕ) (net : Network) (how : RunEnd) (es : List Event) → IsRunEnd budget net how → has_ended net ≡ false → deliveries net < budget → es ≢ [] → es ≡ sprint net most_events → ⊥
ended_here budget net (AllEnded n) es stopped awake below some all = false≢true (sym awake ∙ stopped.1)
ended_here budget net (Spent n) es stopped awake below some all = let spent = stopped.2 in omega (arith, spent, below)
ended_here budget net (Still n) es stopped awake below some all =
    some (all ∙ sprint_done net most_events (ap (λ (fs : List Event). length fs) (turns_still net stopped.3 (range_with_len 0 (length net.views)))))

-- rounds from one network, each of all turns, go one way
same_rounds : (budget : ℕ) (net x y : Network) (a b : RunEnd) (es fs : List (List Event)) → AreEventfulRounds net es → AreEventfulRounds net fs → AreRounds budget net es x → AreRounds budget net fs y → IsRunEnd budget x a → IsRunEnd budget y b
    → (es ≡ fs) × (x ≡ y)
same_rounds budget net x y a b [] [] busy more are also ends too = (refl, sym are ∙ also)
same_rounds budget net x y a b [] (f ∷ fs) busy more are also ends too =
    absurd (ended_here budget net a f (subst (λ (n : Network). IsRunEnd budget n a) (sym are) ends) more.0 also.0 more.1 more.2)
same_rounds budget net x y a b (e ∷ es) [] busy more are also ends too =
    absurd (ended_here budget net b e (subst (λ (n : Network). IsRunEnd budget n b) (sym also) too) busy.0 are.0 busy.1 busy.2)
same_rounds budget net x y a b (e ∷ es) (f ∷ fs) busy more are also ends too =
    let first : e ≡ f = busy.2 ∙ sym more.2 in
    let left : AreRounds budget (after net e) es x = subst (λ (n : Network). AreRounds budget n es x) (sym (ran_after net are.1.0 e are.1.1.leads)) are.1.2 in
    let right : AreRounds budget (after net e) fs y = subst (λ (n : Network). AreRounds budget n fs y) (sym (ran_after net also.1.0 f also.1.1.leads) ∙ ap (λ (gs : List Event). after net gs) (sym first)) also.1.2 in
    let rest = same_rounds budget (after net e) x y a b es fs busy.3 (subst (λ (gs : List Event). AreEventfulRounds (after net gs) fs) (sym first) more.3) left right ends too in
    (ap (λ (gs : List Event). gs ∷ es) first ∙ ap (λ (gss : List (List Event)). f ∷ gss) rest.0, rest.1)

-- a network has one outcome
same_outcome : (net : Network) (a b : Outcome) → IsOutcomeOf net a → IsOutcomeOf net b → a ≡ b
same_outcome net a b x y =
    let values = x.values ∙ sym y.values in
    let tables = x.tables ∙ sym y.tables in
    let places = x.places ∙ sym y.places in
    let top = same_Some a.top b.top (sym x.top ∙ y.top) in
    let taken = x.deliveries ∙ sym y.deliveries in
    let ended = x.ended ∙ sym y.ended in
    ap (λ v. record a { values = v }) values
    ∙ ap (λ t. record a { values = b.values; tables = t }) tables
    ∙ ap (λ s. record a { values = b.values; tables = b.tables; places = s }) places
    ∙ ap (λ d. record a { values = b.values; tables = b.tables; places = b.places; top = d }) top
    ∙ ap (λ n. record b { deliveries = n; ended = a.ended }) taken
    ∙ ap (λ e. record b { ended = e }) ended

pub one-way : (budget : ℕ) (made : List View) (some other : Bool) (a b : PlayedOut) → (x : HavePlayedOut budget made some a) → (y : HavePlayedOut budget made other b) → (x.run.rounds ≡ y.run.rounds) × (a.outcome ≡ b.outcome)
one-way budget made some other a b x y =
    let same = same_rounds budget (start_state made) x.run.end y.run.end x.run.how y.run.how x.run.rounds y.run.rounds x.due.busy y.due.busy x.run.are_rounds y.run.are_rounds x.run.stopped y.run.stopped in
    (same.0, same_outcome y.run.end a.outcome b.outcome (subst (λ (net : Network). IsOutcomeOf net a.outcome) same.1 x.run.told) y.run.told)
