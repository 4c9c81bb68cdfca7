use Rattle.std.proofs.Common.{◌≡◌, ◌-◌}
use Rattle.std.specs.List.{list_all, range_with_len}
use Rattle.report_reader.specs.UtilLine.{has_util}
use Rattle.report_reader.proofs.util_line.lacks_util.Given as goal

-- the variables that are left decide
abbrev pub invariant-loop-var : goal.invariant-loop-var
invariant-loop-var l =
    list_all (λ var. has_util l.utils var) (range_with_len l.var (l.count - l.var))
    ≡ list_all (λ var. has_util l.utils var) (range_with_len 0 l.count)
