use Rattle.std.proofs.Common.{◌<◌, length, ◌∙◌, arith}
use Rattle.agent_knowledge.proofs.RowLaws.{joints_more}
use Rattle.agent_knowledge.proofs.neighbours.add_joints.Goals as goal

pub loop-joint-preserved : goal.loop-joint-preserved
loop-joint-preserved c =
    let joints = c.args.joints.now in
    let lt : c.loop-joint.joint-index < length joints = omega (arith, c.loop-joint-test.true, c.loop-joint.auto.joint-index-end) in
    record {
      added = joints_more joints c.loop-joint.joint-index c.joint-item.result c.args.rows.now c.loop-joint.rows c.add_scope.new.rows lt c.joint-item.is
          c.loop-joint.invariant.size c.loop-joint.invariant.added c.in_ok-add_scope.ensures.added;
      size = c.add_scope.ensures.size ∙ c.loop-joint.invariant.size;
    }
