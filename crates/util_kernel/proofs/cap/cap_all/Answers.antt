use Rattle.std.proofs.Common.{ℕ, min, refl, ◌∙◌, arith}
use Rattle.dcop_base.specs.Limits.{amount_limit}
use Rattle.util_kernel.proofs.LaneLaws.{one-turn, all-turns}
use Rattle.util_kernel.proofs.CapLaws.{capped-all}
use Rattle.util_kernel.proofs.cap.cap_all.Goals as goal

pub loop-at-preserved : goal.loop-at-preserved
loop-at-preserved c = one-turn (λ (a b : ℕ). min a amount_limit) c.loop-at.at c.min.result c.args.amounts.now c.loop-at.amounts c.args.amounts.now c.loop-at.invariant c.min.ensures (omega arith) refl

pub returns : goal.returns
returns c = all-turns (λ (a b : ℕ). min a amount_limit) c.loop-at.at c.args.amounts.now c.loop-at.amounts c.args.amounts.now c.loop-at.invariant (omega arith) refl ∙ capped-all c.args.amounts.now
