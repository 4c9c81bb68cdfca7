use Rattle.std.proofs.Common.{◌≡◌, ◌++◌, length, take}
use Rattle.std.specs.Int.{w32, to_be_bytes}
use Rattle.std.specs.List.{flat_map}
use Rattle.message_code.specs.Code.{pair_code}
use Rattle.message_code.proofs.writer.put_context.Given as goal

abbrev pub invariant-loop-pair : goal.invariant-loop-pair
invariant-loop-pair l = l.out.items ≡ l.fn.out.items ++ (to_be_bytes w32 (length l.pairs) ++ flat_map pair_code (take l.pair-index l.pairs))
