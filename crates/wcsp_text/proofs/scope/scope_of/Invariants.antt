use Rattle.std.proofs.Common.{◌≡◌, ◌-◌, ◌<◌, false, [], length}
use Rattle.std.specs.List.{All}
use Rattle.dcop_base.specs.Table.{has_repeat}
use Rattle.wcsp_text.specs.Numbers.{place}
use Rattle.wcsp_text.specs.Functions.{scope_read}
use Rattle.wcsp_text.proofs.scope.scope_of.Given as goal

-- the variables so far, with those that are left, are the whole scope
abbrev pub invariant-loop : goal.invariant-loop
invariant-loop l =
    (scope_read l.variables l.vars.items (l.arity - l.counter) (place l.rest) ≡ scope_read l.variables [] l.arity (place l.text))
    × (All (λ v. v < l.variables) l.vars.items)
    × (has_repeat l.vars.items ≡ false)
    × (length l.vars.items ≡ l.counter)
