-- The first difference of a report, by what comes of replaying its log.
use Rattle.std.proofs.Common.{◌≡◌, ℕ, zero, suc, ◌+◌, List, [], ◌∷◌, take, Option, Some, None, Ok, Err, sym, ap, subst, ◌∙◌, arith}
use Rattle.std.specs.Option.{option_map, option_or}
use Rattle.std.proofs.lemmas.Option.{none-some, same_Some}
use Rattle.dcop_base.specs.Problem.{Dcop}
use Rattle.pseudotree.specs.DepthFirst.{dfs}
use Rattle.protocol_steps.specs.declared.event.Event.{Event}
use Rattle.protocol_steps.specs.declared.event.EventFault.{EventFault}
use Rattle.protocol_steps.specs.TreeAgents.{adopt_agents}
use Rattle.protocol_steps.specs.Network.{Network, start_state}
use Rattle.protocol_steps.specs.Effect.{effect}
use Rattle.protocol_steps.specs.Run.{event_fault, run}
use Rattle.protocol_steps.proofs.EventLaws.{Happens, begins}
use Rattle.run_log.specs.declared.log.LogEvent.{LogEvent}
use Rattle.run_log.specs.Logs.{event_of, events_of}
use Rattle.run_log.specs.LogStamps.{StampDifference}
use Rattle.problem_text.specs.File.{TextFile}
use Rattle.certificate_text.specs.declared.report.Report.{Report}
use Rattle.certificate_text.specs.declared.verdict.Differs.{Differs}
use Rattle.certificate_text.specs.declared.verdict.Differs.TheVariants as differences
use Rattle.minimised_problem.specs.Goal.{problem_solved}
use Rattle.delivery_core.specs.declared.start.Start.{Start}
use Rattle.delivery_core.specs.Agents.{agents_of, network_of}
use Rattle.delivery_core.specs.Faults.{FirstFault}
use Rattle.delivery_core.specs.State.{CoreView}
use Rattle.delivery_core.specs.NetworkState.{IsStateOf}
use Rattle.log_replay.specs.declared.fault.LogFault.{LogFault}
use Rattle.log_replay.specs.declared.fault.LogFault.TheVariants.{BadEvent, BadStamp, NoMemory}
use Rattle.log_replay.specs.Wrong.{difference_of}
use Rattle.log_replay.specs.Replays.{first_wrong, ReplaysLog}
use Rattle.log_check.specs.Shows.{IsToldBy}
use Rattle.minimised_problem.specs.Differences.{unlawful, fault_in, stamp_in, played, end_difference, log_difference}
use Rattle.minimised_problem.specs.LogHolds.{agents_for}
use Rattle.minimised_problem.proofs.PlayedLaws.{run-lawful}

fine_of : (net next : Network) (e : Event) → Happens net e next → event_fault net e ≡ None
fine_of net next e h = rw (h.views, h.desks) h.fine

effect_of : (net next : Network) (e : Event) → Happens net e next → effect net e ≡ next
effect_of net next e h = rw (h.views, h.desks) h.after

-- the first event that is not lawful is told by its number
pub fault_told : (k : ℕ) (net : Network) (log : List LogEvent) (place : ℕ) (fault : EventFault) → FirstFault net (events_of log) place fault → fault_in k net log ≡ Some (differences.Event (k + place) fault)
fault_told k net [] place fault h = absurd (none-some h.event h.is)
fault_told k net (e ∷ log) zero fault h =
    let here : net ≡ h.middle = same_Some net h.middle h.before in
    let is : event_of e ≡ h.event = same_Some (event_of e) h.event h.is in
    let bad : event_fault net (event_of e) ≡ Some fault =
    subst (λ (n : Network). event_fault n (event_of e) ≡ Some fault) (sym here) (subst (λ (x : Event). event_fault h.middle x ≡ Some fault) (sym is) h.unlawful) in
    ap (λ (o : Option EventFault). option_or (unlawful k o) (fault_in (k + 1) (effect net (event_of e)) log)) bad
    ∙ (let same : k ≡ k + 0 = omega arith in ap (λ (n : ℕ). Some (differences.Event n fault)) same)
fault_told k net (e ∷ log) (suc place) fault h =
    let b = begins net h.middle (event_of e) (take place (events_of log)) h.before in
    let fine : event_fault net (event_of e) ≡ None = fine_of net b.next (event_of e) b.first in
    let next : effect net (event_of e) ≡ b.next = effect_of net b.next (event_of e) b.first in
    let later : FirstFault (effect net (event_of e)) (events_of log) place fault =
    record { middle = h.middle; before = ap (λ (n : Network). run n (take place (events_of log))) next ∙ b.rest; event = h.event; is = h.is; unlawful = h.unlawful } in
    ap (λ (o : Option EventFault). option_or (unlawful k o) (fault_in (k + 1) (effect net (event_of e)) log)) fine
    ∙ fault_told (k + 1) (effect net (event_of e)) log place fault later
    ∙ (let same : k + 1 + place ≡ k + suc place = omega arith in ap (λ (n : ℕ). Some (differences.Event n fault)) same)

module _ (f : TextFile) (r : Report) (net : Network) (log : List LogEvent) where
  abbrev differs : Option Differs
  differs = option_or (fault_in 1 net log) (option_or (stamp_in net log) (end_difference f (played net log) r))

  pub fault_differs : (at place : ℕ) (fault : EventFault) → at ≡ place + 1 → FirstFault net (events_of log) place fault → Some (differences.Event at fault) ≡ differs
  fault_differs at place fault same h =
      let number : 1 + place ≡ at = omega (arith, same) in
      sym (ap (λ (o : Option Differs). option_or o (option_or (stamp_in net log) (end_difference f (played net log) r))) (fault_told 1 net log place fault h ∙ ap (λ (n : ℕ). Some (differences.Event n fault)) number))

  module _ (end : Network) (ran : run net (events_of log) ≡ Some end) where
    lawful : differs ≡ option_or (stamp_in net log) (end_difference f (played net log) r)
    lawful = ap (λ (o : Option Differs). option_or o (option_or (stamp_in net log) (end_difference f (played net log) r))) (run-lawful 1 net end log ran).0

    pub stamp_differs : (d : StampDifference) → first_wrong net log ≡ Some d → Some (differences.Stamp d.event d.left d.right) ≡ differs
    stamp_differs d wrong =
        let told : stamp_in net log ≡ Some (differences.Stamp d.event d.left d.right) = ap (λ (o : Option StampDifference). option_map (λ (x : StampDifference). differences.Stamp x.event x.left x.right) o) wrong in
        sym (lawful ∙ ap (λ (o : Option Differs). option_or o (end_difference f (played net log) r)) told)

    pub end_differs : first_wrong net log ≡ None → end_difference f end r ≡ differs
    end_differs right =
        let told : stamp_in net log ≡ None = ap (λ (o : Option StampDifference). option_map (λ (x : StampDifference). differences.Stamp x.event x.left x.right) o) right in
        sym (lawful ∙ ap (λ (o : Option Differs). option_or o (end_difference f (played net log) r)) told
        ∙ ap (λ (n : Network). end_difference f n r) (run-lawful 1 net end log ran).1)

  -- by what comes of the replay
  pub fault_is : (fault : LogFault) (told : Option Differs) → IsToldBy fault told → ReplaysLog net log (Err fault) → told ≡ differs
  fault_is (BadEvent at fault) told is h = is ∙ fault_differs at h.0 fault h.1 h.2
  fault_is (BadStamp wrong) told is h = is ∙ stamp_differs h.0 h.1 (difference_of wrong) h.2
  fault_is NoMemory told is h = absurd is

  pub end_is : (s : CoreView) (told : Option Differs) → ((end : Network) → IsStateOf end s → told ≡ end_difference f end r) → ReplaysLog net log (Ok s) → told ≡ differs
  end_is s told is h = is h.0 h.3 ∙ end_differs h.0 h.1 h.2

  -- in a run of the agents of the problem solved
  pub log_is : net ≡ start_state (agents_for f r.error) → differs ≡ log_difference f r log
  log_is same = ap (λ (n : Network). option_or (fault_in 1 n log) (option_or (stamp_in n log) (end_difference f (played n log) r))) same

-- the agents of the start that is replayed
pub start_is : (f : TextFile) (r : Report) (p : Dcop) (start : Start) → p ≡ problem_solved f → agents_of p start ≡ adopt_agents p (dfs p) r.error → network_of p start ≡ start_state (agents_for f r.error)
start_is f r p start solved agents = ap start_state (agents ∙ ap (λ (q : Dcop). adopt_agents q (dfs q) r.error) solved)
