use Rattle.std.proofs.Common.{ℕ, ◌≤◌, replicate}
use Rattle.std.proofs.lemmas.List.Elements.{All-replicate}
use Rattle.std.specs.Simd.Lanes.{chunk}
use Rattle.util_kernel.proofs.LaneLaws.{sum-block}
use Rattle.util_kernel.proofs.add_one.add_one_block.Goals as goal

pub returns-clause-sums : goal.returns-clause-sums
returns-clause-sums c = sum-block (chunk c.args.at 4 c.args.into.now) (replicate 4 c.args.cell) c.requires.into (All-replicate (λ (n : ℕ). n ≤ 4611686018427387904) 4 c.args.cell c.requires.cell)
