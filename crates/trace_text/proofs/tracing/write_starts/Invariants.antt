use Rattle.std.proofs.Common.{◌≡◌, ◌++◌}
use Rattle.std.specs.List.{flat_map}
use Rattle.std.specs.String.{string_bytes}
use Rattle.problem_text.specs.Canonical.{line}
use Rattle.delivery_core.specs.Agents.{agents_of}
use Rattle.trace_text.proofs.PlayLaws.{starts_from}
use Rattle.trace_text.proofs.tracing.write_starts.Given as goal

abbrev pub invariant-loop-me : goal.invariant-loop-me
invariant-loop-me l =
    string_bytes l.text ++ flat_map line (starts_from (agents_of l.problem l.start) l.names l.me)
    ≡ string_bytes l.fn.text ++ flat_map line (starts_from (agents_of l.problem l.start) l.names 0)
