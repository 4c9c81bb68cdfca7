use Rattle.std.proofs.Common.{◌+◌, take, sym, subst}
use Rattle.std.specs.List.{flat_map}
use Rattle.dcop_base.specs.Table.{CostTable}
use Rattle.protocol_steps.specs.Dpop.{there}
use Rattle.util_join.specs.Join.{LiesIn}
use Rattle.dpop_agent.specs.Joint.{HasGained}
use Rattle.dpop_agent.proofs.SumLaws.{kept_at, kept_more, kept_none, lies_still}
use Rattle.dpop_agent.proofs.joint.add_kept.Goals as goal
use Rattle.dpop_agent.proofs.joint.add_kept.Goals.{in-Some, in_default}

pub add-requires : goal.add-requires
add-requires c =
    let old = c.args.joined.now in
    let kept = c.args.kept.now in
    let k = c.loop-entry.entry-index in
    lies_still (flat_map there (take k kept)) old c.loop-entry.joined c.in-Some.table c.loop-entry.invariant
    (kept_at (LiesIn old.scope old.sizes) kept k c.entry-item.result c.in-Some.table c.loop-entry-test.true c.entry-item.is c.in-Some.is c.requires)

pub loop-entry-preserved : goal.loop-entry-preserved
loop-entry-preserved c =
    let old = c.args.joined.now in
    let kept = c.args.kept.now in
    let k = c.loop-entry.entry-index in
    let goal_at : CostTable → Type 0 = λ t. HasGained (flat_map there (take (k + 1) kept)) old t in
    elim c.match-entry.branch [
      | in-Some w ↦
          subst goal_at (sym w.joined-is)
          (kept_more kept k c.entry-item.result w.in-Some.table old c.loop-entry.joined w.add.new.self c.loop-entry-test.true c.entry-item.is w.in-Some.is c.loop-entry.invariant w.add.ensures)
      | in_default w ↦
          subst goal_at (sym w.joined-is)
          (kept_none kept k c.entry-item.result old c.loop-entry.joined c.loop-entry-test.true c.entry-item.is w.in_default.is c.loop-entry.invariant)
    ]
