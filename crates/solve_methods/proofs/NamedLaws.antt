-- The events of a run are of agents that are there, which is what the names of a file can tell.
use Rattle.std.proofs.Common.{◌≡◌, ℕ, ◌<◌, false, nat_le, List, [], ◌∷◌, length, get_or, Option, Some, None, refl, sym, ap, subst, ◌∙◌, inl, inr}
use Rattle.std.specs.List.{All, list_any, range_with_len}
use Rattle.std.proofs.lemmas.Bool.{cases_Bool, false≢true, leb-false}
use Rattle.std.proofs.lemmas.List.{length-set, length-map}
use Rattle.std.proofs.lemmas.List.FromFn.{length-range_with_len}
use Rattle.std.proofs.lemmas.List.Elements.{All-nil, All-cons}
use Rattle.std.proofs.lemmas.List.Folds.{list_any_at}
use Rattle.std.proofs.lemmas.Option.{slice_get_within}
use Rattle.dcop_base.specs.Problem.{Dcop}
use Rattle.pseudotree.specs.DepthFirst.{dfs}
use Rattle.protocol_steps.specs.declared.event.Take.{Take}
use Rattle.protocol_steps.specs.declared.event.EventFault.{EventFault}
use Rattle.dcop_base.specs.Knowledge.{private_of}
use Rattle.protocol_steps.specs.Adopt.{new_adopt}
use Rattle.protocol_steps.specs.Step.{start_of}
use Rattle.protocol_steps.specs.View.{View, AdoptKind, ended_of}
use Rattle.protocol_steps.specs.Network.{Desk, Network, start_state}
use Rattle.protocol_steps.specs.Run.{or_else, form_fault, too_many, run}
use Rattle.protocol_steps.specs.TreeAgents.{adopt_agents, place_at}
use Rattle.protocol_steps.proofs.EventLaws.{Happens, begins}
use Rattle.protocol_steps.proofs.AccountLaws.{form_parts}
use Rattle.run_log.specs.declared.log.LogEvent.{LogEvent}
use Rattle.run_log.specs.Laws.{IsStampedRun}
use Rattle.run_log.specs.Logs.{event_of, events_of}
use Rattle.run_log.specs.LogText.{IsNamedEvent}

first_none : (f g : Option EventFault) → or_else f g ≡ None → f ≡ None
first_none None g none = refl
first_none (Some x) g none = none

-- takes with no sender that is not there
senders_known : (n : ℕ) (ts : List Take) → list_any (λ t. nat_le n t.from) ts ≡ false → All (λ t. t.from < n) ts
senders_known n ts known k d lt =
    elim (cases_Bool (nat_le n (get_or ts k d).from)) [
      | inl over ↦ absurd (false≢true (sym known ∙ list_any_at (λ (t : Take). nat_le n t.from) ts k d lt over))
      | inr below ↦ leb-false n (get_or ts k d).from below
    ]

event_named : (net next : Network) (e : LogEvent) → Happens net (event_of e) next → IsNamedEvent (length net.desks) e
event_named net next e happens =
    let form : form_fault (length net.desks) (ended_of happens.view) e.takes ≡ None =
    first_none (form_fault (length net.desks) (ended_of happens.view) e.takes) (too_many net.desks e.agent e.takes) happens.fine in
    record {
      agent = slice_get_within net.desks e.agent happens.desk happens.desks;
      senders = senders_known (length net.desks) e.takes (form_parts (length net.desks) (ended_of happens.view) e.takes form).0;
    }

-- an event takes no desk away
desks_stay : (net next : Network) (e : LogEvent) → Happens net (event_of e) next → length next.desks ≡ length net.desks
desks_stay net next e happens = ap (λ (other : Network). length other.desks) (sym happens.after) ∙ length-set net.desks e.agent _

run_named : (n : ℕ) (net end : Network) (log : List LogEvent) → length net.desks ≡ n → run net (events_of log) ≡ Some end → All (IsNamedEvent n) log
run_named n net end [] size leads = All-nil (IsNamedEvent n)
run_named n net end (e ∷ log) size leads =
    let first = begins net end (event_of e) (events_of log) leads in
    All-cons (IsNamedEvent n) e log (subst (λ (m : ℕ). IsNamedEvent m e) size (event_named net first.next e first.first))
    (run_named n first.next end log (desks_stay net first.next e first.first ∙ size) first.rest)

-- an agent's desk at the start
abbrev desk_of : View → Desk
desk_of v = record { sent = (start_of v).sends; takes = [] }

-- the events of a log of the ADOPT agents of a problem
pub log_named : (p : Dcop) (error : ℕ) (end : Network) (log : List LogEvent) → IsStampedRun (adopt_agents p (dfs p) error) log end → All (IsNamedEvent (length p.sizes)) log
log_named p error end log is = run_named (length p.sizes) (start_state (adopt_agents p (dfs p) error)) end log size is.leads where
  size : length (start_state (adopt_agents p (dfs p) error)).desks ≡ length p.sizes
  size =
      length-map (adopt_agents p (dfs p) error) desk_of
      ∙ length-map (range_with_len 0 (length p.sizes)) (λ i. AdoptKind (new_adopt (private_of p i) (place_at p (dfs p) i) error))
      ∙ length-range_with_len 0 (length p.sizes)
