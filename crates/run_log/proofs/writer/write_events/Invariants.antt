use Rattle.std.proofs.Common.{◌≡◌, ◌≤◌, ◌++◌, take, map}
use Rattle.std.specs.List.{All, flat_map}
use Rattle.std.specs.String.{string_bytes}
use Rattle.problem_text.specs.Canonical.{line}
use Rattle.run_log.specs.EventLine.{take_limit}
use Rattle.run_log.specs.LogText.{event_words}
use Rattle.run_log.proofs.writer.write_events.Given as goal

abbrev pub invariant-loop-event : goal.invariant-loop-event
invariant-loop-event l =
    (string_bytes l.text ≡ string_bytes l.fn.text ++ flat_map line (map (event_words l.names) (take l.event-index l.log)))
    × All (λ e. All (λ t. t.count ≤ take_limit) e.takes) (take l.event-index l.log)
