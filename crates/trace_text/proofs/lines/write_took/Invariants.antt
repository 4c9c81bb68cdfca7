use Rattle.std.proofs.Common.{◌≡◌, ◌++◌, drop}
use Rattle.std.specs.List.{flat_map}
use Rattle.std.specs.String.{string_bytes}
use Rattle.problem_text.specs.Canonical.{line}
use Rattle.trace_text.specs.Lines.{took_words}
use Rattle.trace_text.proofs.lines.write_took.Given as goal

abbrev pub invariant-loop-letter : goal.invariant-loop-letter
invariant-loop-letter l =
    string_bytes l.text ++ flat_map (λ x. line (took_words l.names x)) (drop l.letter-index l.letters)
    ≡ string_bytes l.fn.text ++ flat_map (λ x. line (took_words l.names x)) l.letters
