use Rattle.std.proofs.Common.{length, arith}
use Rattle.bound_search.proofs.RowLaws.{has_rows}
use Rattle.bound_search.proofs.descent.fill_estimates.Goals as goal

pub fill_row-requires : goal.fill_row-requires
fill_row-requires c =
    let rows = has_rows c.args.sizes.now c.args.rules.scale c.args.buckets.now c.requires.grounds c.args.values.now c.args.depth (length c.args.row.now) c.args.least c.index-buckets-depth.result c.index-buckets-depth.result c.requires.within c.requires.depth c.requires.long c.requires.least c.index-buckets-depth.is in
    let size = c.requires.grounds.sized c.args.depth 0 c.requires.depth in
    record {
      some = omega (arith, size.0, c.requires.long);
      zero = c.requires.zero;
      sent = rows.sent;
      tables = rows.tables;
      came = rows.came;
      few = rows.few;
      less = rows.less;
      within = λ d lt. (let each = rows.each d lt in omega (arith, each.0, each.1));
    }

pub returns : goal.returns
returns c = λ d lt.
    let rows = has_rows c.args.sizes.now c.args.rules.scale c.args.buckets.now c.requires.grounds c.args.values.now c.args.depth (length c.args.row.now) c.args.least c.index-buckets-depth.result c.index-buckets-depth.result c.requires.within c.requires.depth c.requires.long c.requires.least c.index-buckets-depth.is in
    let each = rows.each d lt in
    omega (arith, each.1, c.fill_row.ensures d lt)
