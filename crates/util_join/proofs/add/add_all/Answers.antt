use Rattle.std.proofs.Common.{◌≡◌, refl, ap, ◌∙◌, subst, List, ℕ, length, take, arith}
use Rattle.dcop_base.specs.Table.{CostTable, IsTable}
use Rattle.dcop_base.proofs.TableLaws.{parts-of}
use Rattle.util_join.specs.Strides.{strides, along, IsBlockSum}
use Rattle.util_join.proofs.JoinLaws.{rows-inside, still-whole, cell-gains}
use Rattle.util_join.proofs.add.add_all.Goals as goal

pub add_block-requires-clause-full : goal.add_block-requires-clause-full
add_block-requires-clause-full c =
    let table : IsTable c.args.table.now = subst (λ (t : CostTable). IsTable t) c.table.view_is c.table.invariant in
    (rows-inside c.args.table.now c.args.over.now c.args.sizes.now c.args.cells.now c.row_of-row.result.start c.row_of-row.result.count c.row_of-row.result.width c.row_of-row.result.step c.requires.whole table c.requires.lies c.row_of-row.ensures).1

pub add_block-requires-clause-some : goal.add_block-requires-clause-some
add_block-requires-clause-some c =
    let table : IsTable c.args.table.now = subst (λ (t : CostTable). IsTable t) c.table.view_is c.table.invariant in
    (rows-inside c.args.table.now c.args.over.now c.args.sizes.now c.args.cells.now c.row_of-row.result.start c.row_of-row.result.count c.row_of-row.result.width c.row_of-row.result.step c.requires.whole table c.requires.lies c.row_of-row.ensures).0

pub add_block-requires-clause-inside : goal.add_block-requires-clause-inside
add_block-requires-clause-inside c =
    let t = c.args.table.now in
    let table : IsTable t = subst (λ (t : CostTable). IsTable t) c.table.view_is c.table.invariant in
    let rows = rows-inside t c.args.over.now c.args.sizes.now c.args.cells.now c.row_of-row.result.start c.row_of-row.result.count c.row_of-row.result.width c.row_of-row.result.step c.requires.whole table c.requires.lies c.row_of-row.ensures in
    let from : c.as_slice-from.result.now ≡ t.cells = c.as_slice-from.ensures ∙ ap (λ (t : CostTable). t.cells) c.table.view_is in
    omega (arith, rows.2, ap (λ (xs : List ℕ). length xs) from, (parts-of t.scope t.sizes t.cells table).full)

pub returns-clause-whole : goal.returns-clause-whole
returns-clause-whole c = still-whole c.args.over.now c.args.sizes.now c.args.cells.now c.add_block.new.cells c.requires.whole c.add_block.ensures.counted c.add_block.ensures.small

pub returns-clause-sum : goal.returns-clause-sum
returns-clause-sum c =
    let t = c.args.table.now in
    let row = c.row_of-row.result in
    let table : IsTable t = subst (λ (t : CostTable). IsTable t) c.table.view_is c.table.invariant in
    let from : c.as_slice-from.result.now ≡ t.cells = c.as_slice-from.ensures ∙ ap (λ (t : CostTable). t.cells) c.table.view_is in
    let block = subst (λ (xs : List ℕ). IsBlockSum xs (strides t (take row.start c.args.over.now)) (take row.start c.args.sizes.now) row.count (along row.width row.step) c.args.cells.now c.add_block.new.cells) from c.add_block.ensures in
    record {
      same_scope = refl;
      same_sizes = refl;
      cells = λ value within. cell-gains t c.args.over.now c.args.sizes.now c.args.cells.now c.add_block.new.cells row.start row.count row.width row.step value c.requires.whole table c.requires.lies c.row_of-row.ensures block within;
    }
