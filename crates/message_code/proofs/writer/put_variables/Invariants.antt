use Rattle.std.proofs.Common.{◌≡◌, ◌++◌, length, take}
use Rattle.std.specs.Int.{w32, to_be_bytes}
use Rattle.std.specs.List.{flat_map}
use Rattle.message_code.specs.Code.{variable_code}
use Rattle.message_code.proofs.writer.put_variables.Given as goal

abbrev pub invariant-loop-variable : goal.invariant-loop-variable
invariant-loop-variable l = l.out.items ≡ l.fn.out.items ++ (to_be_bytes w32 (length l.variables) ++ flat_map variable_code (take l.variable-index l.variables))
