use Rattle.std.proofs.Common.{◌≡◌, ◌≤◌, ◌++◌, ◌∷◌, take}
use Rattle.std.specs.List.{All, flat_map}
use Rattle.std.specs.String.{string_bytes}
use Rattle.run_log.specs.EventLine.{take_limit}
use Rattle.run_log.specs.LogText.{take_words}
use Rattle.run_log.proofs.writer.write_takes.Given as goal

abbrev pub invariant-loop-take : goal.invariant-loop-take
invariant-loop-take l =
    (string_bytes l.text ≡ string_bytes l.fn.text ++ flat_map (λ t. flat_map (λ w. 32 ∷ w) (take_words l.names t)) (take l.take-index l.takes))
    × All (λ t. t.count ≤ take_limit) (take l.take-index l.takes)
