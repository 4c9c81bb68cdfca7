use Rattle.std.proofs.Common.{◌≡◌, length, take}
use Rattle.dcop_base.specs.Graph.{are_joined}
use Rattle.agent_knowledge.specs.Rows.{Adds}
use Rattle.agent_knowledge.proofs.neighbours.add_joints.Given as goal

abbrev pub invariant-loop-joint : goal.invariant-loop-joint
invariant-loop-joint l = record {
  added : Adds (are_joined (take l.joint-index l.joints)) l.initial.rows l.rows;
  size : length l.rows ≡ length l.initial.rows;
}
