use Rattle.std.proofs.Common.{◌<◌, length, arith}
use Rattle.agent_cells.proofs.CollectLaws.{collecting_more}
use Rattle.agent_cells.proofs.SameLaws.{heads_set}
use Rattle.agent_cells.proofs.collect.collect.Goals as goal

pub loop-end-preserved : goal.loop-end-preserved
loop-end-preserved c =
    let inside : c.loop-end.end-index < length c.loop-end.heads = omega (arith, c.loop-end.invariant.same.size, c.loop-end-test.true) in
    record {
      same = heads_set _ _ _ _ _ c.loop-end.invariant.same inside c.take_one.ensures.same;
      collecting = collecting_more _ _ _ _ _ _ _ _ _ _ _ c.loop-end.invariant.collecting inside c.in_ok-take_one.ensures.found;
      bounded = c.take_one.ensures.bounded c.loop-end.invariant.bounded;
      empty = c.in_ok-take_one.ensures.empty;
      room = c.take_one.ensures.room;
    }
