use Rattle.std.proofs.Common.{◌≡◌, ℕ, length, get_or, sym, subst, ap, ◌∙◌, arith}
use Rattle.dcop_base.specs.Table.{CostTable}
use Rattle.shared_costs.specs.Moves.{AreLows}
use Rattle.shared_costs.proofs.RowLaws.{item-at, item-size}
use Rattle.shared_costs.proofs.PartLaws.{rows-push}
use Rattle.shared_costs.proofs.sharing.low_rows.Goals as goal

pub append_lows-requires-clause-many : goal.append_lows-requires-clause-many
append_lows-requires-clause-many c =
    let same = item-at c.args.tables.now c.args.places.now c.loop-place.place-index c.index-tables-place.result c.args.var c.requires.naming c.loop-place-test.true c.index-tables-place.is in
    let size = item-size c.args.sizes.now c.args.tables.now c.args.places.now c.loop-place.place-index c.args.var c.index-tables-place.result c.requires.each c.requires.naming c.loop-place-test.true same in
    let own : c.from-size.result ≡ get_or c.args.sizes.now c.args.var 0 = c.from-size.ensures ∙ ap (λ (n : ℕ). get_or c.args.sizes.now n 0) c.var.view_is in
    let long : length c.as_mut_slice.result.now ≡ c.from-size.result = omega (arith, c.as_mut_slice.ensures.len, c.loop-place.invariant.lows) in
    long ∙ own ∙ sym size

pub loop-place-preserved : goal.loop-place-preserved
loop-place-preserved c =
    let j = c.loop-place.place-index in
    let ts = c.args.tables.now in
    let places = c.args.places.now in
    let row = c.append_lows.new.lows in
    let same = item-at ts places j c.index-tables-place.result c.args.var c.requires.naming c.loop-place-test.true c.index-tables-place.is in
    let size = item-size c.args.sizes.now ts places j c.args.var c.index-tables-place.result c.requires.each c.requires.naming c.loop-place-test.true same in
    let own : c.from-size.result ≡ get_or c.args.sizes.now c.args.var 0 = c.from-size.ensures ∙ ap (λ (n : ℕ). get_or c.args.sizes.now n 0) c.var.view_is in
    let long : length row ≡ c.from-size.result = c.in_ok-append_lows.ensures.lows.many ∙ size ∙ sym own in
    record {
      rows = rows-push ts c.args.var c.from-size.result places j c.loop-place.rows.items row c.append_lows.new.rows.items c.loop-place.invariant.rows
          (subst (λ (t : CostTable). AreLows t c.args.var row) same c.in_ok-append_lows.ensures.lows) long c.in_ok-append_lows.ensures.row;
      lows = c.loop-place.invariant.lows;
    }
