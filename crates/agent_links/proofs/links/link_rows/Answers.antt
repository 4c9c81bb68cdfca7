use Rattle.std.proofs.Common.{◌≡◌, ◌<◌, length, ◌∙◌, arith}
use Rattle.agent_links.specs.Links.{rows_in, one_node}
use Rattle.agent_links.proofs.LinkLaws.{row_below, row_added}
use Rattle.agent_links.proofs.links.link_rows.Goals as goal

pub link_row-requires-clause-to : goal.link_row-requires-clause-to
link_row-requires-clause-to c =
    let inside : c.loop-from.from < length c.args.known.now = omega (arith, c.loop-from-test.true, c.loop-from.auto.from-end) in
    let size : length c.loop-from.tails ≡ length c.args.known.now = omega (arith, c.loop-from.invariant.tails, c.requires.tails) in
    row_below c.args.known.now c.requires.beside c.loop-from.from (length c.loop-from.tails) c.index-known-from.result c.as_slice.result.now inside size c.index-known-from.is c.as_slice.ensures

pub loop-from-preserved : goal.loop-from-preserved
loop-from-preserved c =
    let inside : c.loop-from.from < length c.args.known.now = omega (arith, c.loop-from-test.true, c.loop-from.auto.from-end) in
    record {
      added = row_added one_node c.args.known.now c.loop-from.from c.index-known-from.result c.as_slice.result.now (rows_in c.args.tails.now) (rows_in c.loop-from.tails) (rows_in c.link_row.new.tails)
          (rows_in c.args.heads.now) (rows_in c.loop-from.heads) (rows_in c.link_row.new.heads) inside c.index-known-from.is c.as_slice.ensures c.loop-from.invariant.added c.in_ok-link_row.ensures.added;
      tails = c.link_row.ensures.tails ∙ c.loop-from.invariant.tails;
      heads = c.link_row.ensures.heads ∙ c.loop-from.invariant.heads;
    }
