use Rattle.std.proofs.Common.{◌≡◌, ◌-◌, ◌≤◌, []}
use Rattle.wcsp_text.specs.Numbers.{place}
use Rattle.wcsp_text.specs.Functions.{functions_read, cells_of}
use Rattle.wcsp_text.proofs.function.functions_of.Given as goal

-- the functions so far, with those that are left, are the whole
abbrev pub invariant-loop : goal.invariant-loop
invariant-loop l =
    (functions_read l.sizes l.functions.items (l.count - l.counter) (place l.rest) ≡ functions_read l.sizes [] l.count (place l.text))
    × (l.cells ≡ cells_of l.functions.items)
    × (l.cells ≤ 4194304)
