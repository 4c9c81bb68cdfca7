-- The conditions on a report with a log, in their order, each with the difference that is reported
-- if it fails.
use Rattle.std.specs.Prelude.{ℕ, ◌+◌, Bool, true, false, List, [], ◌∷◌, Option, Some, None, ◌==◌, nat_lt, if◌then◌else◌, min, slice_get}
use Rattle.std.specs.Option.{option_map, option_or}
use Rattle.dcop_base.specs.Limits.{count_limit}
use Rattle.dcop_base.specs.Problem.{cost}
use Rattle.protocol_steps.specs.declared.event.EventFault.{EventFault}
use Rattle.protocol_steps.specs.declared.standing.Standing.{Standing}
use Rattle.protocol_steps.specs.View.{View, standing_of}
use Rattle.protocol_steps.specs.Network.{Network, start_state}
use Rattle.protocol_steps.specs.Effect.{effect, has_ended, deliveries}
use Rattle.protocol_steps.specs.Run.{event_fault}
use Rattle.run_laws.specs.AdoptEnd.{values_of}
use Rattle.run_log.specs.declared.log.LogEvent.{LogEvent}
use Rattle.run_log.specs.Logs.{event_of}
use Rattle.run_log.specs.LogStamps.{start_stamps, stamp_difference}
use Rattle.problem_text.specs.File.{TextFile}
use Rattle.certificate_text.specs.declared.report.Report.{Report}
use Rattle.certificate_text.specs.declared.report.Ending.{Ending}
use Rattle.certificate_text.specs.declared.report.Ending.TheVariants.{Solved, Spent}
use Rattle.certificate_text.specs.declared.verdict.Differs.{Differs}
use Rattle.certificate_text.specs.declared.verdict.Differs.TheVariants.{Cost, Lower, Upper, Error, Deliveries, Status, Event, Stamp, Value}
use Rattle.minimised_problem.specs.Goal.{problem_solved}
use Rattle.minimised_problem.specs.Gap.{gap_of}
use Rattle.minimised_problem.specs.LogEnds.{least_known, lower_for, upper_for}
use Rattle.minimised_problem.specs.LogHolds.{agents_for}

-- what is wrong with event k
abbrev pub unlawful : ℕ → Option EventFault → Option Differs
unlawful k None = None
unlawful k (Some fault) = Some (Event k fault)

-- the first event that is not lawful, from event k on, in a run that has reached this network
abbrev pub fault_in : ℕ → Network → List LogEvent → Option Differs
fault_in k net [] = None
fault_in k net (e ∷ log) = option_or (unlawful k (event_fault net (event_of e))) (fault_in (k + 1) (effect net (event_of e)) log)

-- the first event whose stamp is wrong, in a run from this network
abbrev pub stamp_in : Network → List LogEvent → Option Differs
stamp_in net log = option_map (λ d. Stamp d.event d.left d.right) (stamp_difference 1 (Some net) (start_stamps net) None log)

-- the network to which the events of a log lead
abbrev pub played : Network → List LogEvent → Network
played net [] = net
played net (e ∷ log) = played (effect net (event_of e)) log

-- the bounds and the threshold of an agent; 0, none and 0 if there is no agent
abbrev pub standing_at : Option View → Standing
standing_at None = record { lower = 0; upper = None; threshold = 0 }
standing_at (Some v) = standing_of v

-- the bounds and the threshold of agent 0, the root of the depth-first tree
abbrev pub root_standing : Network → Standing
root_standing net = standing_at (slice_get net.views 0)

-- the difference of the status: a report must be solved exactly when all agents have ended
abbrev pub status_difference : Bool → Ending → Option Differs
status_difference true Solved = None
status_difference true Spent = Some (Status Spent)
status_difference false Solved = Some (Status Solved)
status_difference false Spent = None

-- the difference if a printed number, on the left, is not the right one, on the right
abbrev pub unless_right : (ℕ → ℕ → Differs) → ℕ → ℕ → Option Differs
unless_right differs left right = if left == right then None else Some (differs left right)

-- the difference of printed deliveries that are not right; the right number is reported up to
-- count_limit
abbrev pub count_difference : ℕ → ℕ → Option Differs
count_difference left right = if left == right then None else Some (Deliveries left (min right count_limit))

-- the difference of printed values, from that of variable i on: the first that is not right
abbrev pub value_difference : ℕ → List ℕ → List ℕ → Option Differs
value_difference i (v ∷ vs) (w ∷ ws) = if v == w then value_difference (i + 1) vs ws else Some (Value i)
value_difference i [] ws = None
value_difference i (v ∷ vs) [] = None

-- the difference of a solved report whose gap is above its error
abbrev pub error_difference : Ending → ℕ → ℕ → Option Differs
error_difference Solved error gap = if nat_lt error gap then Some (Error error gap) else None
error_difference Spent error gap = None

-- the first difference of the numbers: the cost must be that of the values; the bounds must be
-- those that follow from two numbers: the lower bound of the root's agent, and the lesser of its
-- upper bound, if it has one, and the cost of the values in the problem solved; and the gap of a
-- solved report must be at most its error
abbrev pub bound_difference : TextFile → Standing → Report → Option Differs
bound_difference f top r =
    let least : ℕ = least_known (cost (problem_solved f) r.values) top.upper in
    option_or (unless_right (λ left right. Cost left right) r.cost (cost f.problem r.values))
    (option_or (unless_right (λ left right. Lower left right) r.lower (lower_for f.goal f.problem top.lower least))
    (option_or (unless_right (λ left right. Upper left right) r.upper (upper_for f.goal f.problem top.lower least))
    (error_difference r.status r.error (gap_of f.goal r))))

-- the first difference from the end of the run: the status, the deliveries and the values must be
-- those of the network in which it ended, and so must the bounds
abbrev pub end_difference : TextFile → Network → Report → Option Differs
end_difference f end r =
    option_or (status_difference (has_ended end) r.status)
    (option_or (count_difference r.deliveries (deliveries end))
    (option_or (value_difference 0 r.values (values_of end))
    (bound_difference f (root_standing end) r)))

-- the first difference of a report with a log: the first event that is not lawful, otherwise the
-- first wrong stamp, and otherwise the first difference from the end of the run
abbrev pub log_difference : TextFile → Report → List LogEvent → Option Differs
log_difference f r log =
    let net : Network = start_state (agents_for f r.error) in
    option_or (fault_in 1 net log) (option_or (stamp_in net log) (end_difference f (played net log) r))
