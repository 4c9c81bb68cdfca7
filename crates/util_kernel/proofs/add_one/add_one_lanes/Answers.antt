use Rattle.std.proofs.Common.{◌≡◌, ◌+◌, ◌∙◌, ℕ, List, length, get_or, replicate, refl, sym, ap, arith}
use Rattle.std.proofs.lemmas.Simd.{length-replicate, length-chunk}
use Rattle.std.proofs.lemmas.List.{get_or-replicate}
use Rattle.std.specs.Simd.Lanes.{chunk, put_chunk, zip2}
use Rattle.util_kernel.specs.Lanes.{plus}
use Rattle.util_kernel.proofs.LaneLaws.{next-block, next-amount, block-turn, one-turn, all-turns, raised-is, chunk-replicate}
use Rattle.util_kernel.proofs.CapLaws.{total, length-both, gathered-more, capped-so-far, gathered-so-far}
use Rattle.util_kernel.proofs.add_one.add_one_lanes.Goals as goal
use Rattle.util_kernel.proofs.add_one.add_one_lanes.Goals.{then-may_exceed, else-may_exceed}

pub add_one_block-bits-requires-clause-into : goal.add_one_block-bits-requires-clause-into
add_one_block-bits-requires-clause-into c = next-block total 4611686018427387904 c.loop-at.at 4 c.args.into.now c.loop-at.into (replicate (length c.args.into.now) c.args.cell) c.loop-at.invariant.so_far (omega arith) c.requires.into

pub loop-at-preserved : goal.loop-at-preserved
loop-at-preserved c =
    let at = c.loop-at.at in
    let now = c.loop-at.into in
    let same : replicate 4 c.args.cell ≡ chunk at 4 (replicate (length c.args.into.now) c.args.cell) = sym (chunk-replicate c.args.cell at 4 (length c.args.into.now) (omega arith)) in
    let sums : c.add_one_block-bits.result ≡ zip2 total (chunk at 4 now) (chunk at 4 (replicate (length c.args.into.now) c.args.cell)) = (c.add_one_block-bits.ensures.sums ∙ ap (λ (ys : List ℕ). zip2 total (chunk at 4 now) ys) same) in
    let into-four = length-chunk at 4 now (omega arith) in
    let from-four = (ap (λ (ys : List ℕ). length ys) (sym same) ∙ length-replicate 4 c.args.cell) in
    let four : length c.add_one_block-bits.result ≡ 4 = ap (λ (xs : List ℕ). length xs) sums ∙ length-both total (chunk at 4 now) (chunk at 4 (replicate (length c.args.into.now) c.args.cell)) (into-four ∙ sym from-four) ∙ into-four in
    record {
      inside = omega arith;
      so_far = block-turn total 4 at (at + 4) c.args.into.now now c.add_one_block-bits.new.into (replicate (length c.args.into.now) c.args.cell) c.loop-at.invariant.so_far
          (c.add_one_block-bits.ensures.stored ∙ ap (λ (ys : List ℕ). put_chunk at now ys) sums) (omega arith) (omega arith) (sym (length-replicate (length c.args.into.now) c.args.cell));
      gathered = gathered-more c.loop-at.bits _ c.add_one_block-bits.result now c.add_one_block-bits.new.into at (at + 4) c.loop-at.invariant.gathered four refl c.add_one_block-bits.ensures.stored refl (omega arith);
    }

pub loop-at-2-init : goal.loop-at-2-init
loop-at-2-init c = record {
  inside = omega arith;
  so_far =
      elim c.if-may_exceed.branch [
        | then-may_exceed w ↦ capped-so-far c.loop-at.at c.args.into.now c.loop-at.into c.if-may_exceed.into (replicate (length c.args.into.now) c.args.cell) c.loop-at.invariant.so_far (w.into-is ∙ w.cap_all.ensures) c.requires.into
        | else-may_exceed w ↦ gathered-so-far c.loop-at.bits c.loop-at.at c.args.into.now c.loop-at.into c.if-may_exceed.into (replicate (length c.args.into.now) c.args.cell) c.loop-at.invariant.so_far w.into-is c.loop-at.invariant.gathered (c.may_exceed.ensures w.if-may_exceed.false)
      ];
}

pub overflow_add-into : goal.overflow_add-into
overflow_add-into c =
    let one = next-amount plus 4611686018427387904 c.loop-at-2.at c.args.into.now c.loop-at-2.into (replicate (length c.args.into.now) c.args.cell) c.loop-at-2.invariant.so_far (omega arith) c.requires.into in
    omega (arith, one)

pub loop-at-2-preserved : goal.loop-at-2-preserved
loop-at-2-preserved c =
    let long = length c.args.into.now in
    let cell : get_or (replicate long c.args.cell) c.loop-at-2.at 0 ≡ c.args.cell = get_or-replicate long c.loop-at-2.at c.args.cell 0 (omega arith) in
    record {
      inside = omega arith;
      so_far = one-turn plus c.loop-at-2.at c.min.result c.args.into.now c.loop-at-2.into (replicate long c.args.cell) c.loop-at-2.invariant.so_far
          (c.min.ensures ∙ ap (λ (x : ℕ). plus (get_or c.loop-at-2.into c.loop-at-2.at 0) x) (sym cell)) (omega arith) (sym (length-replicate long c.args.cell));
    }

pub returns : goal.returns
returns c =
    let long = length c.args.into.now in
    all-turns plus c.loop-at-2.at c.args.into.now c.loop-at-2.into (replicate long c.args.cell) c.loop-at-2.invariant.so_far (omega arith) (sym (length-replicate long c.args.cell))
    ∙ raised-is c.args.cell c.args.into.now long (omega arith)
