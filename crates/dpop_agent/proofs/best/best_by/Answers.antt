use Rattle.std.proofs.Common.{ℕ, ◌||◌, ◌==◌, List, length, ap₂, subst, ◌∙◌, arith}
use Rattle.std.specs.List.{filter, list_all}
use Rattle.dcop_base.specs.Table.{CostTable, has}
use Rattle.protocol_steps.specs.Values.{valued}
use Rattle.protocol_steps.specs.Dpop.{DpopView, own_tables}
use Rattle.dpop_agent.specs.Keeping.{keeping}
use Rattle.dpop_agent.specs.Row.{HasRisen}
use Rattle.dpop_agent.proofs.OverLaws.{apart_still}
use Rattle.dpop_agent.proofs.RowLaws.{kept_cells, own_cells, row_best, zeros_long, zeros_small}
use Rattle.dpop_agent.proofs.best.best_by.Goals as goal

pub add_own-requires-clause-apart : goal.add_own-requires-clause-apart
add_own-requires-clause-apart c =
    apart_still c.args.own.now c.args.place.now c.requires.keeper.placed c.as_slice-lower.result.now c.as_slice-path.result.now c.as_slice-lower.ensures c.as_slice-path.ensures

pub add_own-requires-clause-some : goal.add_own-requires-clause-some
add_own-requires-clause-some c =
    let some = c.requires.keeper.known.size.0 in
    let long = zeros_long c.args.own.now.size c.args.costs.now c.requires.zeros in
    omega (arith, some, long)

pub add_own-requires-clause-small : goal.add_own-requires-clause-small
add_own-requires-clause-small c = zeros_small c.args.own.now.size c.args.costs.now c.requires.zeros

pub add_own-requires-clause-cells : goal.add_own-requires-clause-cells
add_own-requires-clause-cells c =
    let own = c.args.own.now in
    own_cells own c.args.place.now c.args.kept.now c.requires.keeper (valued c.args.values.now) c.requires.within c.as_slice-tables.result.now c.as_slice-path.result.now (length c.args.costs.now)
    c.as_slice-tables.ensures c.as_slice-path.ensures (zeros_long own.size c.args.costs.now c.requires.zeros)

pub add_kept-requires-clause-some : goal.add_kept-requires-clause-some
add_kept-requires-clause-some c =
    let some = c.requires.keeper.known.size.0 in
    let long = c.add_own.ensures.counted ∙ zeros_long c.args.own.now.size c.args.costs.now c.requires.zeros in
    omega (arith, some, long)

pub add_kept-requires-clause-cells : goal.add_kept-requires-clause-cells
add_kept-requires-clause-cells c =
    let own = c.args.own.now in
    kept_cells own c.args.place.now c.args.kept.now c.requires.keeper (valued c.args.values.now) c.requires.within (length c.add_own.new.costs)
    (c.add_own.ensures.counted ∙ zeros_long own.size c.args.costs.now c.requires.zeros)

pub lowest_of-requires-clause-some : goal.lowest_of-requires-clause-some
lowest_of-requires-clause-some c =
    let some = c.requires.keeper.known.size.0 in
    let long = c.add_kept.ensures.counted ∙ c.add_own.ensures.counted ∙ zeros_long c.args.own.now.size c.args.costs.now c.requires.zeros in
    omega (arith, some, long)

pub lowest_of-requires-clause-few : goal.lowest_of-requires-clause-few
lowest_of-requires-clause-few c =
    let few = c.requires.keeper.known.size.1 in
    let long = c.add_kept.ensures.counted ∙ c.add_own.ensures.counted ∙ zeros_long c.args.own.now.size c.args.costs.now c.requires.zeros in
    omega (arith, few, long)

pub returns : goal.returns
returns c =
    let own = c.args.own.now in
    let place = c.args.place.now in
    let kept = c.args.kept.now in
    let v : DpopView = keeping own place kept in
    let value : ℕ → ℕ = valued c.args.values.now in
    let costs = c.args.costs.now in
    let one = c.add_own.new.costs in
    let mine : List CostTable → List ℕ → List CostTable = λ ts vs. filter (λ (t : CostTable). list_all (λ u. u == own.me || has vs u) t.scope) ts in
    let first : HasRisen own.me value (own_tables v) costs one =
    subst (λ (ts : List CostTable). HasRisen own.me value ts costs one) (ap₂ mine c.as_slice-tables.ensures c.as_slice-path.ensures) c.add_own.ensures in
    row_best own place kept c.requires.keeper value costs one c.add_kept.new.costs c.lowest_of.result c.requires.zeros first c.add_kept.ensures c.lowest_of.ensures
