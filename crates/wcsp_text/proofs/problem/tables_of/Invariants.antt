use Rattle.std.proofs.Common.{◌≡◌, map}
use Rattle.wcsp_text.specs.Made.{capped_table}
use Rattle.wcsp_text.proofs.problem.tables_of.Given as goal

-- the tables so far
abbrev pub invariant-loop-function : goal.invariant-loop-function
invariant-loop-function l =
    (l.tables.items ≡ map (λ f. capped_table l.top l.hard f.table) l.yielded)
    × (l.afters.items ≡ map (λ f. f.after) l.yielded)
