-- What an answer to a replay tells, by what comes of the replay.
use Rattle.std.proofs.Common.{◌≡◌, ℕ, zero, suc, ◌<◌, List, [], ◌∷◌, length, Option, Some, None, slice_get, Err, sym, ap, subst, ◌∙◌, arith}
use Rattle.std.specs.List.{All}
use Rattle.std.proofs.lemmas.List.Elements.{All-head, All-tail, All-take}
use Rattle.std.proofs.lemmas.Option.{none-some, same_Some}
use Rattle.protocol_steps.specs.declared.event.Event.{Event}
use Rattle.protocol_steps.specs.declared.event.EventFault.{EventFault}
use Rattle.protocol_steps.specs.Network.{Network}
use Rattle.run_log.specs.declared.log.LogEvent.{LogEvent}
use Rattle.run_log.specs.Logs.{event_of, events_of}
use Rattle.run_log.specs.LogText.{FitsEvent}
use Rattle.std.proofs.lemmas.List.{length-map}
use Rattle.problem_text.specs.File.{TextFile}
use Rattle.delivery_core.specs.Faults.{FirstFault, Replays}
use Rattle.delivery_core.specs.State.{SeatView, views_of}
use Rattle.delivery_core.specs.declared.replaying.ReplayFault.{ReplayFault}
use Rattle.delivery_core.specs.declared.replaying.ReplayFault.TheVariants.{BadEvent, NoMemory}
use Rattle.solve_report.specs.AnswerText.{HasText}
use Rattle.solve_report.specs.Replay.{IsNamedAgent}
use Rattle.solve_report.specs.declared.answer.Answer.{Answer}
use Rattle.solve_report.specs.declared.replay.AgentRow.{AgentRow}
use Rattle.solve_printed.specs.Replaying.{log_up_to, IsFaultAnswer}
use Rattle.solve_printed.specs.Rows.{rows_from}
use Rattle.solve_printed.proofs.RowLaws.{rows-named}
use Rattle.solve_report.specs.Verdict.{IsNamedFault}
use Rattle.solve_report.proofs.FaultNamedLaws.{IsFaultNamed, event-named}

-- the senders of an event of a log that fits
senders-at : (n : ℕ) (log : List LogEvent) (at : ℕ) (e : Event) → All (FitsEvent n) log → slice_get (events_of log) at ≡ Some e → All (λ t. t.from < n) e.takes
senders-at n [] at e fit is = absurd (none-some e is)
senders-at n (x ∷ log) zero e fit is =
    subst (λ (y : Event). All (λ t. t.from < n) y.takes) (same_Some (event_of x) e is) (All-head (FitsEvent n) x log fit).named.senders
senders-at n (x ∷ log) (suc at) e fit is = senders-at n log at e (All-tail (FitsEvent n) x log fit) is

-- the first fault of a log that fits speaks of a variable that is there
pub fault-named : (n : ℕ) (net : Network) (log : List LogEvent) (at : ℕ) (fault : EventFault) → All (FitsEvent n) log → FirstFault net (events_of log) at fault → IsNamedFault n fault
fault-named n net log at fault fit first =
    subst (IsFaultNamed n) first.unlawful (event-named n first.middle first.event (senders-at n log at first.event fit first.is))

-- each row of a core state of so many agents is of a variable that has its name
pub rows-told : (names : List (List ℕ)) (agents : List AgentRow) (seats : List SeatView) → length seats ≡ length names → agents ≡ rows_from 0 (views_of seats) → All (IsNamedAgent (length names)) agents
rows-told names agents seats many is =
    let size = length-map seats (λ (x : SeatView). x.view) in
    subst (λ (rows : List AgentRow). All (IsNamedAgent (length names)) rows) (sym is) (rows-named (length names) 0 (views_of seats) (omega (arith, size, many)))

-- the answer that tells the first fault of events has a text
pub fault-told : (names : List (List ℕ)) (n : ℕ) (net : Network) (log : List LogEvent) (fault : ReplayFault) (answer : Answer) → n ≡ length names → All (FitsEvent n) log → IsFaultAnswer names fault answer
    → Replays net (events_of log) (Err fault) → HasText answer
fault-told names n net log (BadEvent at fault) answer many fit is first =
    subst HasText (sym is) (subst (λ (m : ℕ). IsNamedFault m fault) many (fault-named n net log first.0 fault fit first.2))
fault-told names n net log NoMemory answer many fit is first = absurd is

-- the events of a log that fits, so many or all
up-to-fit : (n : ℕ) (after : Option ℕ) (log : List LogEvent) → All (FitsEvent n) log → All (FitsEvent n) (log_up_to after log)
up-to-fit n None log fit = fit
up-to-fit n (Some count) log fit = All-take (FitsEvent n) count log fit

-- the same of those that are shown
pub shown-fit : (n : ℕ) (after : Option ℕ) (log read shown : List LogEvent) → All (FitsEvent n) log → read ≡ log → shown ≡ log_up_to after read → All (FitsEvent n) shown
shown-fit n after log read shown fit same all =
    subst (λ (events : List LogEvent). All (FitsEvent n) events) (sym (all ∙ ap (log_up_to after) same)) (up-to-fit n after log fit)
