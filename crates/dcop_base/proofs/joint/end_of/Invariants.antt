use Rattle.std.proofs.Common.{ℕ, ◌<◌, ◌≤◌, All, take}
use Rattle.dcop_base.proofs.joint.end_of.Given as goal

abbrev pub invariant-loop-var : goal.invariant-loop-var
invariant-loop-var l = (l.least ≤ l.end) × (All (λ (v : ℕ). v < l.end) (take l.var-index l.scope)) × ((n : ℕ) → l.least ≤ n → All (λ (v : ℕ). v < n) l.scope → l.end ≤ n)
