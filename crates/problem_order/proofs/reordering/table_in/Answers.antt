use Rattle.std.proofs.Common.{◌≡◌, map, ap, ◌∙◌}
use Rattle.std.specs.List.{slice_index}
use Rattle.std.proofs.lemmas.Result.{IfOk-weaker}
use Rattle.dcop_base.specs.Table.{CostTable, IsTable}
use Rattle.problem_order.specs.Reordered.{IsTableFor}
use Rattle.problem_order.proofs.TableLaws.{whole_for, table_for}
use Rattle.problem_order.proofs.reordering.table_in.Goals as goal

pub table_over-requires : goal.table_over-requires
table_over-requires c =
    let scope : c.as_slice.result.now ≡ c.args.table.now.scope = c.as_slice.ensures ∙ ap (λ (t : CostTable). t.scope) c.table.view_is in
    let whole : IsTable c.args.table.now = rw (← c.table.view_is) c.table.invariant in
    whole_for c.args.table.now c.args.order.now c.places.result.now c.in_ok-scope.scope c.places.ensures c.requires whole (c.in_ok-scope.ensures ∙ ap (map (slice_index c.places.result.now)) scope)

pub returns : goal.returns
returns c =
    let scope : c.as_slice.result.now ≡ c.args.table.now.scope = c.as_slice.ensures ∙ ap (λ (t : CostTable). t.scope) c.table.view_is in
    IfOk-weaker c.table_over.result (λ u. u ≡ record { scope = c.in_ok-scope.scope; sizes = c.args.table.now.sizes; cells = c.args.table.now.cells }) (λ u. IsTableFor c.args.order.now c.args.table.now u)
    (λ u is.
    table_for c.args.table.now u c.args.order.now c.places.result.now c.in_ok-scope.scope c.places.ensures c.requires
    (c.in_ok-scope.ensures ∙ ap (map (slice_index c.places.result.now)) scope) is) c.table_over.ensures
