use Rattle.std.proofs.Common.{◌≡◌, ◌++◌, take}
use Rattle.std.specs.List.{flat_map}
use Rattle.std.specs.String.{string_bytes}
use Rattle.problem_text.specs.Canonical.{line}
use Rattle.certificate_text.specs.CertificateText.{turn_lines}
use Rattle.certificate_text.proofs.writer.write_turns.Given as goal

abbrev pub invariant-loop-turn : goal.invariant-loop-turn
invariant-loop-turn l = string_bytes l.text ≡ string_bytes l.fn.text ++ flat_map line (flat_map (turn_lines l.names) (take l.turn-index l.turns))
