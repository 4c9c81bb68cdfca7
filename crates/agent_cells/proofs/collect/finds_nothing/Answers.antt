use Rattle.std.proofs.Common.{◌<◌, length, refl, arith}
use Rattle.agent_cells.proofs.LookLaws.{looked_more, none_more}
use Rattle.agent_cells.proofs.collect.finds_nothing.Goals as goal

pub returns-then-not-is_empty-clause-looked : goal.returns-then-not-is_empty-clause-looked
returns-then-not-is_empty-clause-looked c =
    let inside : c.loop-end.end-index < length c.loop-end.heads = omega (arith, c.loop-end.invariant.looked.same.size, c.loop-end-test.true) in
    looked_more _ _ _ _ _ c.loop-end.invariant.looked inside refl c.is_empty.ensures.end c.is_empty.ensures.taken c.is_empty.ensures.known

pub loop-end-preserved : goal.loop-end-preserved
loop-end-preserved c =
    let inside : c.loop-end.end-index < length c.loop-end.heads = omega (arith, c.loop-end.invariant.looked.same.size, c.loop-end-test.true) in
    record {
      looked = looked_more _ _ _ _ _ c.loop-end.invariant.looked inside refl c.is_empty.ensures.end c.is_empty.ensures.taken c.is_empty.ensures.known;
      none = none_more _ _ _ c.loop-end.invariant.none inside (c.if-not-is_empty.ensures.none refl);
    }
