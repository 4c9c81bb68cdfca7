use Rattle.std.proofs.Common.{◌≡◌, ◌++◌, length, take}
use Rattle.std.specs.Int.{w32, to_be_bytes}
use Rattle.std.specs.List.{flat_map}
use Rattle.message_code.specs.Code.{amount_code}
use Rattle.message_code.proofs.writer.put_cells.Given as goal

abbrev pub invariant-loop-cell : goal.invariant-loop-cell
invariant-loop-cell l = l.out.items ≡ l.fn.out.items ++ (to_be_bytes w32 (length l.cells) ++ flat_map amount_code (take l.cell-index l.cells))
