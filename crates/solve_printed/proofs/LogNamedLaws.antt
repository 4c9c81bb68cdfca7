-- Each variable of which a difference of a report with a log speaks is one of the file's.
use Rattle.std.proofs.Common.{◌≡◌, ℕ, ◌+◌, ◌≤◌, Bool, true, false, cond, Option, Some, None, List, [], ◌∷◌, length, nat_eq, nat_lt, min, arith}
use Rattle.std.specs.List.{All}
use Rattle.std.specs.Option.{option_map, option_or}
use Rattle.std.proofs.lemmas.List.Elements.{All-head, All-tail}
use Rattle.dcop_base.specs.Limits.{count_limit}
use Rattle.dcop_base.specs.Problem.{cost}
use Rattle.protocol_steps.specs.declared.event.EventFault.{EventFault}
use Rattle.protocol_steps.specs.declared.standing.Standing.{Standing}
use Rattle.protocol_steps.specs.Network.{Network, start_state}
use Rattle.protocol_steps.specs.Effect.{effect, has_ended, deliveries}
use Rattle.protocol_steps.specs.Run.{event_fault}
use Rattle.run_laws.specs.AdoptEnd.{values_of}
use Rattle.run_log.specs.declared.log.LogEvent.{LogEvent}
use Rattle.run_log.specs.Logs.{event_of}
use Rattle.run_log.specs.LogStamps.{StampDifference, start_stamps, stamp_difference}
use Rattle.run_log.specs.LogText.{FitsEvent}
use Rattle.problem_text.specs.File.{TextFile}
use Rattle.certificate_text.specs.declared.report.Report.{Report}
use Rattle.certificate_text.specs.declared.report.Ending.{Ending}
use Rattle.certificate_text.specs.declared.report.Ending.TheVariants.{Solved, Spent}
use Rattle.certificate_text.specs.declared.verdict.Differs.{Differs}
use Rattle.certificate_text.specs.declared.verdict.Differs.TheVariants as differences
use Rattle.minimised_problem.specs.Goal.{problem_solved}
use Rattle.minimised_problem.specs.Gap.{gap_of}
use Rattle.minimised_problem.specs.LogEnds.{least_known, lower_for, upper_for}
use Rattle.minimised_problem.specs.LogHolds.{agents_for}
use Rattle.minimised_problem.specs.Differences.{unlawful, fault_in, stamp_in, played, root_standing, status_difference, unless_right, count_difference, value_difference, error_difference, bound_difference, end_difference, log_difference}
use Rattle.solve_report.specs.Verdict.{IsNamedDifference}
use Rattle.solve_report.proofs.FaultNamedLaws.{IsFaultNamed, event-named}
use Rattle.solve_printed.proofs.ToldNamedLaws.{AreNamed, or-named, if-named, then-named}

unlawful-named : (n k : ℕ) (o : Option EventFault) → IsFaultNamed n o → AreNamed n (unlawful k o)
unlawful-named n k None named = tt
unlawful-named n k (Some fault) named = named

faults-named : (n k : ℕ) (net : Network) (log : List LogEvent) → All (FitsEvent n) log → AreNamed n (fault_in k net log)
faults-named n k net [] fit = tt
faults-named n k net (e ∷ log) fit =
    let here = All-head (FitsEvent n) e log fit in
    or-named n (unlawful k (event_fault net (event_of e))) (fault_in (k + 1) (effect net (event_of e)) log)
    (unlawful-named n k (event_fault net (event_of e)) (event-named n net (event_of e) here.named.senders))
    (faults-named n (k + 1) (effect net (event_of e)) log (All-tail (FitsEvent n) e log fit))

stamp-named : (n : ℕ) (o : Option StampDifference) → AreNamed n (option_map (λ (d : StampDifference). differences.Stamp d.event d.left d.right) o)
stamp-named n None = tt
stamp-named n (Some d) = tt

right-named : (n : ℕ) (differs : ℕ → ℕ → Differs) (left right : ℕ) → IsNamedDifference n (differs left right) → AreNamed n (unless_right differs left right)
right-named n differs left right h = if-named n (nat_eq left right) (differs left right) h

status-named : (n : ℕ) (t : Bool) (ending : Ending) → AreNamed n (status_difference t ending)
status-named n true Solved = tt
status-named n true Spent = tt
status-named n false Solved = tt
status-named n false Spent = tt

later-named : (n : ℕ) (t : Bool) (later : Option Differs) (x : Differs) → IsNamedDifference n x → AreNamed n later → AreNamed n (cond t later (Some x))
later-named n true later x here behind = behind
later-named n false later x here behind = here

values-named : (n i : ℕ) (vs ws : List ℕ) → i + length vs ≤ n → AreNamed n (value_difference i vs ws)
values-named n i [] ws few = tt
values-named n i (v ∷ vs) [] few = tt
values-named n i (v ∷ vs) (w ∷ ws) few =
    later-named n (nat_eq v w) (value_difference (i + 1) vs ws) (differences.Value i) (omega (arith, few)) (values-named n (i + 1) vs ws (omega (arith, few)))

error-named : (n : ℕ) (ending : Ending) (error gap : ℕ) → AreNamed n (error_difference ending error gap)
error-named n Solved error gap = then-named n (nat_lt error gap) (differences.Error error gap) tt
error-named n Spent error gap = tt

bounds-named : (n : ℕ) (f : TextFile) (top : Standing) (r : Report) → AreNamed n (bound_difference f top r)
bounds-named n f top r =
    let least : ℕ = least_known (cost (problem_solved f) r.values) top.upper in
    or-named n (unless_right (λ left right. differences.Cost left right) r.cost (cost f.problem r.values)) _ (right-named n (λ left right. differences.Cost left right) r.cost (cost f.problem r.values) tt)
    (or-named n (unless_right (λ left right. differences.Lower left right) r.lower (lower_for f.goal f.problem top.lower least)) _ (right-named n (λ left right. differences.Lower left right) r.lower (lower_for f.goal f.problem top.lower least) tt)
    (or-named n (unless_right (λ left right. differences.Upper left right) r.upper (upper_for f.goal f.problem top.lower least)) (error_difference r.status r.error (gap_of f.goal r)) (right-named n (λ left right. differences.Upper left right) r.upper (upper_for f.goal f.problem top.lower least) tt)
    (error-named n r.status r.error (gap_of f.goal r))))

end-named : (n : ℕ) (f : TextFile) (end : Network) (r : Report) → length r.values ≡ n → AreNamed n (end_difference f end r)
end-named n f end r long =
    or-named n (status_difference (has_ended end) r.status) _ (status-named n (has_ended end) r.status)
    (or-named n (count_difference r.deliveries (deliveries end)) _ (if-named n (nat_eq r.deliveries (deliveries end)) (differences.Deliveries r.deliveries (min (deliveries end) count_limit)) tt)
    (or-named n (value_difference 0 r.values (values_of end)) (bound_difference f (root_standing end) r) (values-named n 0 r.values (values_of end) (omega (arith, long))) (bounds-named n f (root_standing end) r)))

-- the first difference of a report with a log whose events and values are those of so many variables
pub log-named : (n : ℕ) (f : TextFile) (r : Report) (log : List LogEvent) → length r.values ≡ n → All (FitsEvent n) log → AreNamed n (log_difference f r log)
log-named n f r log long fit =
    let net : Network = start_state (agents_for f r.error) in
    or-named n (fault_in 1 net log) (option_or (stamp_in net log) (end_difference f (played net log) r)) (faults-named n 1 net log fit)
    (or-named n (stamp_in net log) (end_difference f (played net log) r) (stamp-named n (stamp_difference 1 (Some net) (start_stamps net) None log)) (end-named n f (played net log) r long))
