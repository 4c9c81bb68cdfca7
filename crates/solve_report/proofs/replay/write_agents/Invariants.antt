use Rattle.std.proofs.Common.{◌≡◌, ◌++◌, map, drop}
use Rattle.std.specs.List.{flat_map}
use Rattle.std.specs.String.{string_bytes}
use Rattle.problem_text.specs.Canonical.{line}
use Rattle.solve_report.specs.Replay.{agent_words}
use Rattle.solve_report.proofs.replay.write_agents.Given as goal

abbrev pub invariant-loop-row : goal.invariant-loop-row
invariant-loop-row l =
    string_bytes l.text ++ flat_map line (map (agent_words l.names) (drop l.row-index l.agents))
    ≡ string_bytes l.fn.text ++ flat_map line (map (agent_words l.names) l.agents)
