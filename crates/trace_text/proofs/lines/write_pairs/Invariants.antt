use Rattle.std.proofs.Common.{◌≡◌, ◌++◌, drop}
use Rattle.std.specs.List.{flat_map}
use Rattle.std.specs.String.{string_bytes}
use Rattle.trace_text.proofs.LineLaws.{pair_text}
use Rattle.trace_text.proofs.lines.write_pairs.Given as goal

abbrev pub invariant-loop-pair : goal.invariant-loop-pair
invariant-loop-pair l =
    string_bytes l.text ++ flat_map (pair_text l.names) (drop l.pair-index l.pairs)
    ≡ string_bytes l.fn.text ++ flat_map (pair_text l.names) l.pairs
