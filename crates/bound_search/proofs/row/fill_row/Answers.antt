use Rattle.std.proofs.Common.{ℕ, ◌<◌, List, length, get_or, sym, ap, subst, ◌∙◌, arith}
use Rattle.std.specs.List.{All}
use Rattle.dcop_base.specs.Table.{CostTable}
use Rattle.dcop_base.specs.Values.{cost_with, with_own}
use Rattle.bound_search.specs.Grounds.{HasRow}
use Rattle.bound_search.proofs.row.fill_row.Goals as goal

pub cost_of-requires-clause-within : goal.cost_of-requires-clause-within
cost_of-requires-clause-within c =
    let cost = ap (λ (ts : List CostTable). cost_with ts (λ v. get_or c.args.values.now v 0)) c.as_slice.ensures in
    omega (arith, cost, c.requires.less, c.requires.few)

pub add_tables-requires-clause-cells : goal.add_tables-requires-clause-cells
add_tables-requires-clause-cells c =
    subst (λ (ts : List CostTable). All (HasRow c.args.values.now c.args.var (length c.set_all.new.row)) ts) (sym c.as_slice-2.ensures)
    (subst (λ (n : ℕ). All (HasRow c.args.values.now c.args.var n) c.args.bucket.now.tables) (sym c.set_all.auto.row) c.requires.tables)

pub add_tables-requires-clause-within : goal.add_tables-requires-clause-within
add_tables-requires-clause-within c = λ d lt.
    let f : ℕ → ℕ = with_own c.args.var d (λ v. get_or c.args.values.now v 0) in
    let sent = c.cost_of.ensures ∙ ap (λ (ts : List CostTable). cost_with ts (λ v. get_or c.args.values.now v 0)) c.as_slice.ensures in
    let tables = ap (λ (ts : List CostTable). cost_with ts f) c.as_slice-2.ensures in
    let inside : d < length c.args.row.now = omega (arith, lt, c.set_all.auto.row) in
    let base = c.set_all.ensures d inside in
    let most = c.requires.within d inside in
    omega (arith, sent, tables, base, most, c.requires.less)

pub add_tables-requires-2-clause-cells : goal.add_tables-requires-2-clause-cells
add_tables-requires-2-clause-cells c =
    subst (λ (ts : List CostTable). All (HasRow c.args.values.now c.args.var (length c.add_tables.new.row)) ts) (sym c.as_slice-3.ensures)
    (subst (λ (n : ℕ). All (HasRow c.args.values.now c.args.var n) c.args.bucket.now.came) (sym (c.add_tables.auto.row ∙ c.set_all.auto.row)) c.requires.came)

pub add_tables-requires-2-clause-within : goal.add_tables-requires-2-clause-within
add_tables-requires-2-clause-within c = λ d lt.
    let f : ℕ → ℕ = with_own c.args.var d (λ v. get_or c.args.values.now v 0) in
    let sent = c.cost_of.ensures ∙ ap (λ (ts : List CostTable). cost_with ts (λ v. get_or c.args.values.now v 0)) c.as_slice.ensures in
    let tables = ap (λ (ts : List CostTable). cost_with ts f) c.as_slice-2.ensures in
    let came = ap (λ (ts : List CostTable). cost_with ts f) c.as_slice-3.ensures in
    let inside : d < length c.args.row.now = omega (arith, lt, c.set_all.auto.row, c.add_tables.auto.row) in
    let added = c.add_tables.ensures d (omega (arith, inside, c.set_all.auto.row)) in
    let base = c.set_all.ensures d inside in
    let most = c.requires.within d inside in
    omega (arith, sent, tables, came, added, base, most, c.requires.less)

pub returns : goal.returns
returns c = λ d inside.
    let f : ℕ → ℕ = with_own c.args.var d (λ v. get_or c.args.values.now v 0) in
    let sent = c.cost_of.ensures ∙ ap (λ (ts : List CostTable). cost_with ts (λ v. get_or c.args.values.now v 0)) c.as_slice.ensures in
    let tables = ap (λ (ts : List CostTable). cost_with ts f) c.as_slice-2.ensures in
    let came = ap (λ (ts : List CostTable). cost_with ts f) c.as_slice-3.ensures in
    let added = c.add_tables.ensures d (omega (arith, inside, c.set_all.auto.row)) in
    let more = c.add_tables-2.ensures d (omega (arith, inside, c.set_all.auto.row, c.add_tables.auto.row)) in
    let base = c.set_all.ensures d inside in
    omega (arith, sent, tables, came, added, more, base, c.requires.less)
