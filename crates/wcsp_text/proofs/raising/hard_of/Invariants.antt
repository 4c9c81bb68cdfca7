use Rattle.std.proofs.Common.{◌≡◌, take, min}
use Rattle.wcsp_text.specs.Problems.{soft_sum}
use Rattle.wcsp_text.proofs.raising.hard_of.Given as goal

abbrev pub invariant-loop-function : goal.invariant-loop-function
invariant-loop-function l = l.sum ≡ min (soft_sum l.top (take l.function-index l.functions)) 18446744073709551615
