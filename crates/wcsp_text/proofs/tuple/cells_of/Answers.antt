use Rattle.wcsp_text.specs.Numbers.{place}
use Rattle.wcsp_text.proofs.TupleLaws.{cells-of}
use Rattle.wcsp_text.proofs.tuple.cells_of.Goals as goal

pub returns-clause-read : goal.returns-clause-read
returns-clause-read c =
    cells-of c.args.sizes.now c.args.text.now c.in_ok-default.default.value c.in_ok-count.count.value c.in_ok-cells.cells.len c.product_of.result (place c.in_ok-default.default.after.now) (place c.in_ok-count.count.after.now) (place c.in_ok-after.after.now) c.in_ok-cells.cells.items c.as_mut_slice.result.now c.fill.new.cells
    c.requires.few c.product_of.ensures c.in_ok-cells.ensures.len (c.in_ok-cells.ensures.items_if_clones_equal (λ y h. h)) c.as_mut_slice.ensures.value c.in_ok-default.ensures c.in_ok-count.ensures c.in_ok-after.ensures.read c.in_ok-after.ensures.many
