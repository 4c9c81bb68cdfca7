use Rattle.std.proofs.Common.{◌≡◌, ℕ, ◌+◌, ◌*◌, ◌<◌, ◌≤◌, get_or}
use Rattle.std.specs.List.{All}
use Rattle.dcop_base.specs.Limits.{amount_limit}
use Rattle.adopt_context.specs.Bounds.{cap}
use Rattle.local_costs.proofs.adding.add_cells.Given as goal

abbrev pub invariant-loop-d : goal.invariant-loop-d
invariant-loop-d l = record {
  within : All (λ c. c ≤ amount_limit) l.costs;
  done : (e : ℕ) → e < l.d → get_or l.costs e 0 ≡ cap (get_or l.fn.costs e 0 + get_or l.cells (l.first + e * l.stride) 0);
  left : (e : ℕ) → l.d ≤ e → get_or l.costs e 0 ≡ get_or l.fn.costs e 0;
}
