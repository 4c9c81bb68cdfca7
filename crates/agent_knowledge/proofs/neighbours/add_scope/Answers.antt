use Rattle.std.proofs.Common.{◌≡◌, ◌<◌, ℕ, length, get_or, sym, subst, ◌∙◌, arith}
use Rattle.std.proofs.lemmas.List.{length-set}
use Rattle.agent_knowledge.proofs.RowLaws.{row_ascends, item_below, scope_more}
use Rattle.agent_knowledge.proofs.neighbours.add_scope.Goals as goal

pub add_others-requires : goal.add_others-requires
add_others-requires c =
    let scope = c.args.scope.now in
    let lt : c.loop-me.me-index < length scope = omega (arith, c.loop-me-test.true, c.loop-me.auto.me-index-end) in
    let below = item_below (length c.args.rows.now) scope c.loop-me.me-index c.me-item.result c.me.inside.0 c.requires.within lt c.me-item.is c.me.view_is in
    let size = c.loop-me.invariant.size in
    row_ascends c.loop-me.rows c.me.inside.0 c.index-rows-me.result (omega (arith, below, size)) c.loop-me.invariant.added.ascend

pub loop-me-preserved : goal.loop-me-preserved
loop-me-preserved c =
    let scope = c.args.scope.now in
    let lt : c.loop-me.me-index < length scope = omega (arith, c.loop-me-test.true, c.loop-me.auto.me-index-end) in
    let below = item_below (length c.args.rows.now) scope c.loop-me.me-index c.me-item.result c.me.inside.0 c.requires.within lt c.me-item.is c.me.view_is in
    let size = c.loop-me.invariant.size in
    record {
      added = scope_more scope c.loop-me.me-index c.me.inside.0 c.args.rows.now c.loop-me.rows c.index-rows-me.result c.add_others.new.row lt
          (subst (λ (x : ℕ). x ≡ get_or scope c.loop-me.me-index x) (sym c.me.view_is) c.me-item.is) (omega (arith, below, size))
          size c.loop-me.invariant.added c.in_ok-add_others.ensures.ascend c.in_ok-add_others.ensures.added;
      size = length-set c.loop-me.rows c.me.inside.0 c.add_others.new.row ∙ size;
    }
