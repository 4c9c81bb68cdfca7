use Rattle.std.proofs.Common.{◌≡◌, ℕ, ◌-◌, ◌<◌, ◌≤◌, get_or}
use Rattle.adopt_agent.proofs.exchange.take_off.Given as goal

abbrev pub invariant-loop-d : goal.invariant-loop-d
invariant-loop-d l = record {
  done : (e : ℕ) → e < l.d → get_or l.costs e 0 ≡ get_or l.fn.costs e 0 - get_or l.shares e 0;
  left : (e : ℕ) → l.d ≤ e → get_or l.costs e 0 ≡ get_or l.fn.costs e 0;
}
