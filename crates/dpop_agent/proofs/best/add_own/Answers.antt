use Rattle.std.proofs.Common.{◌≡◌, ℕ, ◌+◌, Bool, true, List, ◌||◌, ◌==◌, length, take, ap, sym, subst, ◌∙◌, arith}
use Rattle.std.specs.List.{filter, list_all}
use Rattle.std.proofs.lemmas.List.{take_all}
use Rattle.dcop_base.specs.Table.{CostTable, has}
use Rattle.protocol_steps.specs.Values.{valued}
use Rattle.dpop_agent.specs.Row.{HasCells, HasRisen}
use Rattle.dpop_agent.proofs.SumLaws.{next_has}
use Rattle.dpop_agent.proofs.RowLaws.{risen_fails, risen_none, risen_passes}
use Rattle.dpop_agent.proofs.best.add_own.Goals as goal
use Rattle.dpop_agent.proofs.best.add_own.Goals.{then-are_above, else-are_above}

pub add_table-requires-clause-some : goal.add_table-requires-clause-some
add_table-requires-clause-some c =
    let some = c.requires.some in
    let long = c.loop-table.invariant.counted in
    omega (arith, some, long)

pub add_table-requires-clause-within : goal.add_table-requires-clause-within
add_table-requires-clause-within c =
    let tables = c.args.tables.now in
    let k = c.loop-table.table-index in
    let t : CostTable = c.table-item.result in
    let count = length c.args.costs.now in
    let value : ℕ → ℕ = valued c.args.values.now in
    let above : ℕ → Bool = λ u. u == c.args.me || has c.args.path.now u in
    let p : CostTable → Bool = λ t. list_all above t.scope in
    let scope = c.as_slice.ensures ∙ ap (λ (t : CostTable). t.scope) c.table.view_is in
    let test : p t ≡ true = ap (λ (vs : List ℕ). list_all above vs) (sym scope) ∙ sym c.are_above.ensures ∙ c.if-are_above.true in
    let cells : HasCells c.args.me value count t = next_has (λ (t : CostTable). p t ≡ true → HasCells c.args.me value count t) tables k t c.loop-table-test.true c.table-item.is c.requires.cells test in
    let long = c.loop-table.invariant.counted in
    λ d lt. cells d (omega (arith, lt, long))

pub loop-table-init : goal.loop-table-init
loop-table-init c = risen_none c.args.me (valued c.args.values.now) c.args.costs.now c.requires.small

pub loop-table-preserved : goal.loop-table-preserved
loop-table-preserved c =
    let old = c.args.costs.now in
    let tables = c.args.tables.now in
    let k = c.loop-table.table-index in
    let t : CostTable = c.table-item.result in
    let me = c.args.me in
    let value : ℕ → ℕ = valued c.args.values.now in
    let above : ℕ → Bool = λ u. u == me || has c.args.path.now u in
    let p : CostTable → Bool = λ t. list_all above t.scope in
    let scope = c.as_slice.ensures ∙ ap (λ (t : CostTable). t.scope) c.table.view_is in
    let test : p t ≡ c.are_above.result = ap (λ (vs : List ℕ). list_all above vs) (sym scope) ∙ sym c.are_above.ensures in
    let goal_at : List ℕ → Type 0 = λ cs. HasRisen me value (filter p (take (k + 1) tables)) old cs in
    elim c.if-are_above.branch [
      | then-are_above w ↦
          subst goal_at (sym w.costs-is)
          (risen_passes me value p tables k t old c.loop-table.costs c.loop-table-test.true c.table-item.is c.loop-table.invariant w.add_table.new.costs (test ∙ w.if-are_above.true) (record {
            counted = w.add_table.auto.costs;
            within = w.add_table.ensures.costs;
            each = w.add_table.ensures.added;
          }))
      | else-are_above w ↦
          subst goal_at (sym w.costs-is)
          (risen_fails me value p tables k t old c.loop-table.costs c.loop-table-test.true c.table-item.is c.loop-table.invariant (test ∙ w.if-are_above.false))
    ]

pub returns : goal.returns
returns c =
    let above : ℕ → Bool = λ u. u == c.args.me || has c.args.path.now u in
    let p : CostTable → Bool = λ t. list_all above t.scope in
    subst (λ (ts : List CostTable). HasRisen c.args.me (valued c.args.values.now) (filter p ts) c.args.costs.now c.loop-table.costs) (take_all c.loop-table.table-index c.args.tables.now c.loop-table-test.false) c.loop-table.invariant
