use Rattle.std.proofs.Common.{◌≡◌, ◌≤◌, ◌+◌, ◌∙◌, ℕ, List, length, refl, sym, ap, arith}
use Rattle.std.proofs.lemmas.Simd.{length-chunk}
use Rattle.std.specs.Simd.Lanes.{chunk, put_chunk, zip2}
use Rattle.util_kernel.specs.Lanes.{plus}
use Rattle.util_kernel.proofs.LaneLaws.{All-chunk, next-block, next-amount, block-turn, one-turn, all-turns}
use Rattle.util_kernel.proofs.CapLaws.{total, length-both, gathered-more, capped-so-far, gathered-so-far}
use Rattle.util_kernel.proofs.add.add_lanes.Goals as goal
use Rattle.util_kernel.proofs.add.add_lanes.Goals.{then-may_exceed, else-may_exceed}

pub add_block-bits-requires-clause-into : goal.add_block-bits-requires-clause-into
add_block-bits-requires-clause-into c = next-block total 4611686018427387904 c.loop-at.at 4 c.args.into.now c.loop-at.into c.args.from.now c.loop-at.invariant.so_far (omega arith) c.requires.into

pub add_block-bits-requires-clause-from : goal.add_block-bits-requires-clause-from
add_block-bits-requires-clause-from c = All-chunk (λ x. x ≤ 4611686018427387904) c.loop-at.at 4 c.args.from.now (omega arith) c.requires.from

pub loop-at-preserved : goal.loop-at-preserved
loop-at-preserved c =
    let at = c.loop-at.at in
    let now = c.loop-at.into in
    let sums : c.add_block-bits.result ≡ zip2 total (chunk at 4 now) (chunk at 4 c.args.from.now) = c.add_block-bits.ensures.sums in
    let into-four = length-chunk at 4 now (omega arith) in
    let from-four = (length-chunk at 4 c.args.from.now (omega arith)) in
    let four : length c.add_block-bits.result ≡ 4 = ap (λ (xs : List ℕ). length xs) sums ∙ length-both total (chunk at 4 now) (chunk at 4 c.args.from.now) (into-four ∙ sym from-four) ∙ into-four in
    record {
      inside = omega arith;
      so_far = block-turn total 4 at (at + 4) c.args.into.now now c.add_block-bits.new.into c.args.from.now c.loop-at.invariant.so_far
          (c.add_block-bits.ensures.stored ∙ ap (λ (ys : List ℕ). put_chunk at now ys) sums) (omega arith) (omega arith) c.requires.equal;
      gathered = gathered-more c.loop-at.bits _ c.add_block-bits.result now c.add_block-bits.new.into at (at + 4) c.loop-at.invariant.gathered four refl c.add_block-bits.ensures.stored refl (omega arith);
    }

pub loop-at-2-init : goal.loop-at-2-init
loop-at-2-init c = record {
  inside = omega arith;
  so_far =
      elim c.if-may_exceed.branch [
        | then-may_exceed w ↦ capped-so-far c.loop-at.at c.args.into.now c.loop-at.into c.if-may_exceed.into c.args.from.now c.loop-at.invariant.so_far (w.into-is ∙ w.cap_all.ensures) c.requires.into
        | else-may_exceed w ↦ gathered-so-far c.loop-at.bits c.loop-at.at c.args.into.now c.loop-at.into c.if-may_exceed.into c.args.from.now c.loop-at.invariant.so_far w.into-is c.loop-at.invariant.gathered (c.may_exceed.ensures w.if-may_exceed.false)
      ];
}

pub overflow_add-into : goal.overflow_add-into
overflow_add-into c =
    let one = next-amount plus 4611686018427387904 c.loop-at-2.at c.args.into.now c.loop-at-2.into c.args.from.now c.loop-at-2.invariant.so_far (omega arith) c.requires.into in
    let other = c.requires.from c.loop-at-2.at 0 (omega arith) in
    omega (arith, one, other)

pub loop-at-2-preserved : goal.loop-at-2-preserved
loop-at-2-preserved c = record {
  inside = omega arith;
  so_far = one-turn plus c.loop-at-2.at c.min.result c.args.into.now c.loop-at-2.into c.args.from.now c.loop-at-2.invariant.so_far c.min.ensures (omega arith) c.requires.equal;
}

pub returns : goal.returns
returns c = all-turns plus c.loop-at-2.at c.args.into.now c.loop-at-2.into c.args.from.now c.loop-at-2.invariant.so_far (omega arith) c.requires.equal
