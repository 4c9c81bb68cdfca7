use Rattle.std.proofs.Common.{◌<◌, length, sym, ◌∙◌, arith}
use Rattle.agent_links.specs.Links.{rows_in}
use Rattle.agent_links.proofs.LinkLaws.{row_below}
use Rattle.node_seats.proofs.OverLaws.{frame_then, row_ascends, row_over}
use Rattle.node_seats.proofs.links.link_rows.Goals as goal

pub link_row-requires-clause-to : goal.link_row-requires-clause-to
link_row-requires-clause-to g c =
    let inside : c.loop-from.from < length c.args.known.now = omega (arith, c.loop-from-test.true, c.loop-from.auto.from-end) in
    row_below c.args.known.now c.requires.beside c.loop-from.from c.loop-from.plan.agents c.index-known-from.result c.as_slice.result.now inside (c.loop-from.invariant.frame.agents ∙ c.requires.plan.agents_are) c.index-known-from.is c.as_slice.ensures

pub link_row-requires-clause-ascend : goal.link_row-requires-clause-ascend
link_row-requires-clause-ascend g c =
    let inside : c.loop-from.from < length c.args.known.now = omega (arith, c.loop-from-test.true, c.loop-from.auto.from-end) in
    row_ascends c.args.known.now c.requires.beside c.loop-from.from c.index-known-from.result c.as_slice.result.now inside c.index-known-from.is c.as_slice.ensures

pub link_row-requires-clause-tails : goal.link_row-requires-clause-tails
link_row-requires-clause-tails g c = c.loop-from.invariant.tails ∙ c.requires.tails ∙ sym (c.loop-from.invariant.frame.agents ∙ c.requires.plan.agents_are)

pub link_row-requires-clause-heads : goal.link_row-requires-clause-heads
link_row-requires-clause-heads g c = c.loop-from.invariant.heads ∙ c.requires.heads ∙ sym (c.loop-from.invariant.frame.agents ∙ c.requires.plan.agents_are)

pub loop-from-preserved : goal.loop-from-preserved
loop-from-preserved g c =
    let inside : c.loop-from.from < length c.args.known.now = omega (arith, c.loop-from-test.true, c.loop-from.auto.from-end) in
    record {
      added = row_over c.args.plan.now c.loop-from.plan c.link_row.new.plan c.args.known.now c.loop-from.from c.index-known-from.result c.as_slice.result.now (rows_in c.args.tails.now) (rows_in c.loop-from.tails) (rows_in c.link_row.new.tails)
          (rows_in c.args.heads.now) (rows_in c.loop-from.heads) (rows_in c.link_row.new.heads) inside c.index-known-from.is c.as_slice.ensures c.loop-from.invariant.added c.in_ok-link_row.ensures.added;
      before = c.in_ok-link_row.ensures.before;
      frame = frame_then c.args.plan.now c.loop-from.plan c.link_row.new.plan c.loop-from.invariant.frame c.link_row.ensures.frame;
      tails = c.link_row.ensures.tails ∙ c.loop-from.invariant.tails;
      heads = c.link_row.ensures.heads ∙ c.loop-from.invariant.heads;
    }
