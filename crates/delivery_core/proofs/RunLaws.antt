-- Runs by one more event, and core states as network states.
use Rattle.std.proofs.Common.{◌≡◌, ℕ, ◌+◌, ◌<◌, List, [], ◌∷◌, ◌++◌, take, length, get_or, Option, Some, None, refl, sym, ap, ◌∙◌}
use Rattle.std.specs.List.{last_or}
use Rattle.std.proofs.lemmas.List.{take_more, map-append, length-map}
use Rattle.dcop_base.specs.Problem.{Dcop}
use Rattle.protocol_steps.specs.declared.message.Message.{Message}
use Rattle.protocol_steps.specs.declared.event.Event.{Event}
use Rattle.protocol_steps.specs.Network.{Network, waiting}
use Rattle.protocol_steps.specs.Effect.{effect}
use Rattle.protocol_steps.specs.Run.{event_fault, run}
use Rattle.protocol_steps.proofs.RunLaws.{run_push}
use Rattle.letter_queues.specs.Links.{waiting_from, letters_of}
use Rattle.delivery_core.specs.State.{CoreView, message_of, inbox_at, count_waiting}
use Rattle.delivery_core.specs.NetworkState.{IsStateOf}
use Rattle.delivery_core.specs.Shown.{IsCore}
use Rattle.delivery_core.proofs.ShownLaws.{waits_is, last_append}

-- a run by one more of its events
pub run_more : (first net : Network) (es : List Event) (at : ℕ) (e : Event) → at < length es → e ≡ get_or es at e → run first (take at es) ≡ Some net → event_fault net e ≡ None
    → run first (take (at + 1) es) ≡ Some (effect net e)
run_more first net es at e lt is so fine =
    ap (λ (fs : List Event). run first fs) (take_more es at e lt ∙ ap (λ (x : Event). take at es ++ x ∷ []) (sym is)) ∙ run_push first net (take at es) e so fine

last_message : (j : ℕ) (ms : List Message) (o : Option (ℕ × Message)) → message_of (last_or o (letters_of j ms)) ≡ last_or (message_of o) ms
last_message j [] o = refl
last_message j (m ∷ ms) o = let l : ℕ × Message = (j, m) in last_message j ms (Some l)

-- a core state that shows a network is that network state
pub is_state : (p : Dcop) (net : Network) (s : CoreView) → IsCore p net s → IsStateOf net s
is_state p net s core =
    let h = core.shows in
    record {
      views = h.views;
      size = h.desks;
      waits = λ i j lt. waits_is p net s.seats h i j lt;
      last = λ i j lt.
          ap (λ (o : Option (ℕ × Message)). message_of (last_or o (waiting_from (inbox_at s.seats i) j))) (h.last i j lt)
          ∙ ap (λ (ms : List (ℕ × Message)). message_of (last_or (last_or None (letters_of j (h.past i j))) ms)) (h.waits i j lt)
          ∙ ap message_of (last_append None (letters_of j (h.past i j)) (letters_of j (h.rest i j)))
          ∙ ap (λ (ms : List (ℕ × Message)). message_of (last_or None ms)) (sym (map-append (λ (m : Message). (j, m)) (h.past i j) (h.rest i j)))
          ∙ last_message j (h.past i j ++ h.rest i j) None
          ∙ ap (λ (ms : List Message). last_or None ms) (sym (h.sent i j lt));
      delivered = core.delivered;
    }

-- the event that a loop reads
pub item_is : (read es : List Event) (at : ℕ) (e : Event) → read ≡ es → e ≡ get_or read at e → e ≡ get_or es at e
item_is read es at e same is = is ∙ ap (λ (xs : List Event). get_or xs at e) same

-- how many letters wait is how many messages wait in the network
pub counts_waiting : (p : Dcop) (net : Network) (s : CoreView) (i j : ℕ) → IsCore p net s → i < length s.seats → count_waiting s i j ≡ length (waiting net.desks i j)
counts_waiting p net s i j core lt =
    ap (λ (ms : List (ℕ × Message)). length ms) (waits_is p net s.seats core.shows i j lt) ∙ length-map (waiting net.desks i j) (λ (m : Message). (j, m))
