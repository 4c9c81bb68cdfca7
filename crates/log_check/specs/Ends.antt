-- The difference of a report from the end of a run, given the core state at the end.
use Rattle.std.specs.Prelude.{map, Option}
use Rattle.std.specs.Option.{option_or}
use Rattle.std.specs.List.{list_all}
use Rattle.protocol_steps.specs.View.{ended_of, value_of}
use Rattle.problem_text.specs.File.{TextFile}
use Rattle.certificate_text.specs.declared.report.Report.{Report}
use Rattle.certificate_text.specs.declared.verdict.Differs.{Differs}
use Rattle.delivery_core.specs.State.{CoreView, views_of, view_at}
use Rattle.minimised_problem.specs.Differences.{status_difference, count_difference, value_difference, bound_difference, standing_at}

-- the first difference from a core state: the status, the deliveries and the values must be those
-- of the core state, and so must the bounds
abbrev pub core_difference : TextFile → CoreView → Report → Option Differs
core_difference f s r =
    option_or (status_difference (list_all ended_of (views_of s.seats)) r.status)
    (option_or (count_difference r.deliveries s.delivered)
    (option_or (value_difference 0 r.values (map value_of (views_of s.seats)))
    (bound_difference f (standing_at (view_at s 0)) r)))
