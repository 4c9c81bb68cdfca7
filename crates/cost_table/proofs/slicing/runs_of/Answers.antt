use Rattle.std.proofs.Common.{◌≡◌, ℕ, ◌+◌, ◌-◌, ◌*◌, length, take, drop, ◌++◌, refl, ap, ◌∙◌, arith}
use Rattle.cost_table.proofs.RunLaws.{run-fits, runs-more}
use Rattle.cost_table.proofs.slicing.runs_of.Goals as goal

pub loop-block-preserved : goal.loop-block-preserved
loop-block-preserved c =
    let cells = c.args.cells.now in
    let kept = c.loop-block.kept.items in
    let b = c.loop-block.block in
    let inner = c.args.inner in
    let start = (b * c.args.size + c.args.number) * inner in
    let fits = run-fits b c.args.blocks c.args.size c.args.number inner (length cells) c.loop-block-test.true c.requires.below c.requires.some c.requires.full in
    let run : start + inner - start ≡ inner = omega arith in
    let more = c.in_ok-extend_from_slice.ensures.items ∙ ap (λ (n : ℕ). kept ++ take n (drop start cells)) run in
    runs-more cells b c.args.size inner c.args.number start kept c.extend_from_slice.new.self.items c.loop-block.invariant refl fits.1 more
