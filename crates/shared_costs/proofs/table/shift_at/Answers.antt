use Rattle.std.proofs.Common.{ℕ, ◌≤◌, length, get_or, sym, subst, arith}
use Rattle.dcop_base.specs.Table.{product}
use Rattle.cost_table.proofs.RunLaws.{counts-of, count-cut}
use Rattle.shared_costs.specs.Runs.{digit, IsShifted}
use Rattle.shared_costs.proofs.table.shift_at.Goals as goal

pub shift-requires-clause-full : goal.shift-requires-clause-full
shift-requires-clause-full c =
    let most : product c.args.sizes.now ≤ 18446744073709551615 = omega (arith, c.requires.full) in
    let counts = counts-of _ _ _ _ _ _ _ c.requires.inside c.requires.some most c.split_at.ensures.front c.split_at-2.ensures.back c.product_of-blocks.ensures c.product_of-inner.ensures in
    count-cut _ _ _ _ _ _ c.requires.inside c.requires.full counts c.requires.lows.many

pub shift-requires-clause-some : goal.shift-requires-clause-some
shift-requires-clause-some c =
    let most : product c.args.sizes.now ≤ 18446744073709551615 = omega (arith, c.requires.full) in
    let counts = counts-of _ _ _ _ _ _ _ c.requires.inside c.requires.some most c.split_at.ensures.front c.split_at-2.ensures.back c.product_of-blocks.ensures c.product_of-inner.ensures in
    counts.some

pub shift-requires-clause-lows : goal.shift-requires-clause-lows
shift-requires-clause-lows c =
    let most : product c.args.sizes.now ≤ 18446744073709551615 = omega (arith, c.requires.full) in
    let counts = counts-of _ _ _ _ _ _ _ c.requires.inside c.requires.some most c.split_at.ensures.front c.split_at-2.ensures.back c.product_of-blocks.ensures c.product_of-inner.ensures in
    λ k lt. subst (λ (n : ℕ). get_or c.args.lows.now (digit (length c.args.lows.now) n k) 0 ≤ get_or c.args.cells.now k 0) (sym counts.behind) (c.requires.lows.below k lt)

pub returns : goal.returns
returns c =
    let most : product c.args.sizes.now ≤ 18446744073709551615 = omega (arith, c.requires.full) in
    let counts = counts-of _ _ _ _ _ _ _ c.requires.inside c.requires.some most c.split_at.ensures.front c.split_at-2.ensures.back c.product_of-blocks.ensures c.product_of-inner.ensures in
    subst (λ (n : ℕ). IsShifted n c.args.lows.now c.args.gains.now c.args.cells.now c.shift.new.cells) counts.behind c.shift.ensures
