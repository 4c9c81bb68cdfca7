-- A log is a run exactly where no event of it is not lawful.
use Rattle.std.proofs.Common.{◌≡◌, ℕ, ◌+◌, List, [], ◌∷◌, Option, Some, None, refl, sym, ap, ◌∙◌}
use Rattle.std.specs.List.{fold}
use Rattle.std.specs.Option.{option_or}
use Rattle.std.proofs.lemmas.Option.{none-some, same_Some}
use Rattle.protocol_steps.specs.declared.event.Event.{Event}
use Rattle.protocol_steps.specs.declared.event.EventFault.{EventFault}
use Rattle.protocol_steps.specs.Network.{Network}
use Rattle.protocol_steps.specs.Effect.{effect}
use Rattle.protocol_steps.specs.Run.{event_fault, unless, happen, run}
use Rattle.protocol_steps.proofs.RunLaws.{happens_next}
use Rattle.run_log.specs.declared.log.LogEvent.{LogEvent}
use Rattle.run_log.specs.Logs.{event_of, events_of}
use Rattle.certificate_text.specs.declared.verdict.Differs.{Differs}
use Rattle.certificate_text.specs.declared.verdict.Differs.TheVariants.{Event as EventDiffers}
use Rattle.minimised_problem.specs.Differences.{unlawful, fault_in, played}

-- neither of two answers
pub or_none : (a b : Option Differs) → a ≡ None → b ≡ None → option_or a b ≡ None
or_none a b e f = ap (λ (o : Option Differs). option_or o b) e ∙ f

pub or_parts : (a b : Option Differs) → option_or a b ≡ None → (a ≡ None) × (b ≡ None)
or_parts None b e = (refl, e)
or_parts (Some x) b e = absurd (none-some x (sym e))

unlawful-none : (k : ℕ) (o : Option EventFault) → unlawful k o ≡ None → o ≡ None
unlawful-none k None none = refl
unlawful-none k (Some fault) none = absurd (none-some (EventDiffers k fault) (sym none))

pub lawful-leads : (k : ℕ) (net : Network) (log : List LogEvent) → fault_in k net log ≡ None → run net (events_of log) ≡ Some (played net log)
lawful-leads k net [] none = refl
lawful-leads k net (e ∷ log) none =
    let parts = or_parts (unlawful k (event_fault net (event_of e))) (fault_in (k + 1) (effect net (event_of e)) log) none in
    let fine = unlawful-none k (event_fault net (event_of e)) parts.0 in
    ap (λ (o : Option Network). fold happen o (events_of log)) (happens_next net (event_of e) fine) ∙ lawful-leads (k + 1) (effect net (event_of e)) log parts.1

none_stays : (es : List Event) → fold happen None es ≡ None
none_stays [] = refl
none_stays (e ∷ es) = none_stays es

-- the first event of a run is lawful
event-fine : (net end : Network) (e : Event) (es : List Event) (f : Option EventFault) → event_fault net e ≡ f → run net (e ∷ es) ≡ Some end → f ≡ None
event-fine net end e es None is ran = refl
event-fine net end e es (Some fault) is ran =
    let stops : happen (Some net) e ≡ None = ap (λ (o : Option EventFault). unless o (effect net e)) is in
    let none : fold happen (happen (Some net) e) es ≡ None = ap (λ (o : Option Network). fold happen o es) stops ∙ none_stays es in
    absurd (none-some end (sym none ∙ ran))

pub run-lawful : (k : ℕ) (net end : Network) (log : List LogEvent) → run net (events_of log) ≡ Some end → (fault_in k net log ≡ None) × (played net log ≡ end)
run-lawful k net end [] ran = (refl, same_Some net end ran)
run-lawful k net end (e ∷ log) ran =
    let fine : event_fault net (event_of e) ≡ None = event-fine net end (event_of e) (events_of log) (event_fault net (event_of e)) refl ran in
    let rest : run (effect net (event_of e)) (events_of log) ≡ Some end = sym (ap (λ (o : Option Network). fold happen o (events_of log)) (happens_next net (event_of e) fine)) ∙ ran in
    let later = run-lawful (k + 1) (effect net (event_of e)) end log rest in
    (or_none (unlawful k (event_fault net (event_of e))) (fault_in (k + 1) (effect net (event_of e)) log) (ap (unlawful k) fine) later.0, later.1)
