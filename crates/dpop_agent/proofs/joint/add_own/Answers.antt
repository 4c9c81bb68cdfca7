use Rattle.std.proofs.Common.{◌≡◌, ℕ, ◌+◌, Bool, true, List, ◌||◌, ◌==◌, take, ap, sym, subst, ◌∙◌}
use Rattle.std.specs.List.{filter, list_all}
use Rattle.std.proofs.lemmas.List.{take_all}
use Rattle.dcop_base.specs.Table.{CostTable, has}
use Rattle.util_join.specs.Join.{LiesIn}
use Rattle.dpop_agent.specs.Joint.{HasGained}
use Rattle.dpop_agent.proofs.SumLaws.{passes, fails, lies_still, next_has}
use Rattle.dpop_agent.proofs.joint.add_own.Goals as goal
use Rattle.dpop_agent.proofs.joint.add_own.Goals.{then-are_above, else-are_above}

pub add-requires : goal.add-requires
add-requires c =
    let old = c.args.joined.now in
    let tables = c.args.tables.now in
    let k = c.loop-table.table-index in
    let t = c.table-item.result in
    let above : ℕ → Bool = λ u. u == c.args.me || has c.args.path.now u in
    let p : CostTable → Bool = λ t. list_all above t.scope in
    let scope = c.as_slice.ensures ∙ ap (λ (t : CostTable). t.scope) c.table.view_is in
    let test : p t ≡ true = ap (λ (vs : List ℕ). list_all above vs) (sym scope) ∙ sym c.are_above.ensures ∙ c.if-are_above.true in
    lies_still (filter p (take k tables)) old c.loop-table.joined t c.loop-table.invariant
    (next_has (λ t. p t ≡ true → LiesIn old.scope old.sizes t) tables k t c.loop-table-test.true c.table-item.is c.requires.lie test)

pub loop-table-preserved : goal.loop-table-preserved
loop-table-preserved c =
    let old = c.args.joined.now in
    let tables = c.args.tables.now in
    let k = c.loop-table.table-index in
    let t = c.table-item.result in
    let above : ℕ → Bool = λ u. u == c.args.me || has c.args.path.now u in
    let p : CostTable → Bool = λ t. list_all above t.scope in
    let scope = c.as_slice.ensures ∙ ap (λ (t : CostTable). t.scope) c.table.view_is in
    let test : p t ≡ c.are_above.result = ap (λ (vs : List ℕ). list_all above vs) (sym scope) ∙ sym c.are_above.ensures in
    let goal_at : CostTable → Type 0 = λ t. HasGained (filter p (take (k + 1) tables)) old t in
    elim c.if-are_above.branch [
      | then-are_above w ↦
          subst goal_at (sym w.joined-is)
          (passes p tables k t old c.loop-table.joined c.loop-table-test.true c.table-item.is c.loop-table.invariant w.add.new.self (test ∙ w.if-are_above.true) w.add.ensures)
      | else-are_above w ↦
          subst goal_at (sym w.joined-is)
          (fails p tables k t old c.loop-table.joined c.loop-table-test.true c.table-item.is c.loop-table.invariant (test ∙ w.if-are_above.false))
    ]

pub returns : goal.returns
returns c =
    let above : ℕ → Bool = λ u. u == c.args.me || has c.args.path.now u in
    let p : CostTable → Bool = λ t. list_all above t.scope in
    subst (λ (ts : List CostTable). HasGained (filter p ts) c.args.joined.now c.loop-table.joined) (take_all c.loop-table.table-index c.args.tables.now c.loop-table-test.false) c.loop-table.invariant
