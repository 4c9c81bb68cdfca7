use Rattle.std.proofs.Common.{ℕ, ◌+◌, List, Option, length, take, sym, subst, arith}
use Rattle.std.specs.List.{flat_map}
use Rattle.std.proofs.lemmas.List.{take_all}
use Rattle.dcop_base.specs.Table.{CostTable}
use Rattle.protocol_steps.specs.Dpop.{there}
use Rattle.protocol_steps.specs.Values.{valued}
use Rattle.dpop_agent.specs.Row.{HasCells, HasRisen}
use Rattle.dpop_agent.proofs.SumLaws.{kept_at}
use Rattle.dpop_agent.proofs.RowLaws.{risen_kept, risen_none, risen_not}
use Rattle.dpop_agent.proofs.best.add_kept.Goals as goal
use Rattle.dpop_agent.proofs.best.add_kept.Goals.{in-Some, in_default}

pub add_table-requires-clause-some : goal.add_table-requires-clause-some
add_table-requires-clause-some c =
    let some = c.requires.some in
    let long = c.loop-entry.invariant.counted in
    omega (arith, some, long)

pub add_table-requires-clause-within : goal.add_table-requires-clause-within
add_table-requires-clause-within c =
    let count = length c.args.costs.now in
    let value : ℕ → ℕ = valued c.args.values.now in
    let cells : HasCells c.args.me value count c.in-Some.table =
    kept_at (HasCells c.args.me value count) c.args.kept.now c.loop-entry.entry-index c.entry-item.result c.in-Some.table c.loop-entry-test.true c.entry-item.is c.in-Some.is c.requires.cells in
    let long = c.loop-entry.invariant.counted in
    λ d lt. cells d (omega (arith, lt, long))

pub loop-entry-init : goal.loop-entry-init
loop-entry-init c = risen_none c.args.me (valued c.args.values.now) c.args.costs.now c.requires.small

pub loop-entry-preserved : goal.loop-entry-preserved
loop-entry-preserved c =
    let old = c.args.costs.now in
    let kept = c.args.kept.now in
    let k = c.loop-entry.entry-index in
    let me = c.args.me in
    let value : ℕ → ℕ = valued c.args.values.now in
    let goal_at : List ℕ → Type 0 = λ cs. HasRisen me value (flat_map there (take (k + 1) kept)) old cs in
    elim c.match-entry.branch [
      | in-Some w ↦
          subst goal_at (sym w.costs-is)
          (risen_kept me value kept k c.entry-item.result old c.loop-entry.costs c.loop-entry-test.true c.entry-item.is c.loop-entry.invariant w.in-Some.table w.add_table.new.costs w.in-Some.is (record {
            counted = w.add_table.auto.costs;
            within = w.add_table.ensures.costs;
            each = w.add_table.ensures.added;
          }))
      | in_default w ↦
          subst goal_at (sym w.costs-is)
          (risen_not me value kept k c.entry-item.result old c.loop-entry.costs c.loop-entry-test.true c.entry-item.is c.loop-entry.invariant w.in_default.is)
    ]

pub returns : goal.returns
returns c =
    subst (λ (es : List (Option CostTable)). HasRisen c.args.me (valued c.args.values.now) (flat_map there es) c.args.costs.now c.loop-entry.costs)
    (take_all c.loop-entry.entry-index c.args.kept.now c.loop-entry-test.false) c.loop-entry.invariant
