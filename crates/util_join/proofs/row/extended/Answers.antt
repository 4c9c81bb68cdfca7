use Rattle.util_join.proofs.RowLaws.{row-one, row-same, row-more, row-again}
use Rattle.util_join.proofs.row.extended.Goals as goal

pub returns-then-row-eq1 : goal.returns-then-row-eq1
returns-then-row-eq1 c = λ ds sizes row. row-one c.args.stride c.args.size ds sizes c.args.row.start c.args.row.count c.args.row.width c.args.row.step c.requires.all c.if-row-eq1.true c.requires.positive row

pub returns-then-size-eq1 : goal.returns-then-size-eq1
returns-then-size-eq1 c = λ ds sizes row. row-same c.args.stride c.args.size ds sizes c.args.row.start c.args.row.count c.args.row.width c.args.row.step c.requires.all c.if-size-eq1.true row

pub returns-then-goes_on : goal.returns-then-goes_on
returns-then-goes_on c = λ ds sizes row.
    let on = c.goes_on.ensures c.if-goes_on.true in
    row-more c.args.stride c.args.size ds sizes c.args.row.start c.args.row.count c.args.row.width c.args.row.step c.requires.all on.0 on.1 c.requires.positive row

pub returns-then-stride-eq0 : goal.returns-then-stride-eq0
returns-then-stride-eq0 c = λ ds sizes row. row-again c.args.stride c.args.size ds sizes c.args.row.start c.args.row.count c.args.row.width c.args.row.step c.requires.all c.if-stride-eq0.true row
