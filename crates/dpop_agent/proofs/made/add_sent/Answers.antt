use Rattle.std.proofs.Common.{◌+◌, take, ap, sym, subst}
use Rattle.std.specs.List.{flat_map}
use Rattle.dcop_base.specs.Table.{CostTable}
use Rattle.protocol_steps.specs.Dpop.{there}
use Rattle.util_join.specs.Join.{LiesIn}
use Rattle.dpop_agent.specs.Joint.{HasGained}
use Rattle.dpop_agent.specs.Remade.{sent_by, sent_of}
use Rattle.dpop_agent.proofs.SumLaws.{kept_at, kept_more, kept_none, lies_still}
use Rattle.dpop_agent.proofs.RemakeLaws.{sent_lt, sent_next}
use Rattle.dpop_agent.proofs.made.add_sent.Goals as goal
use Rattle.dpop_agent.proofs.made.add_sent.Goals.{in-Some, in_default}

pub add-requires : goal.add-requires
add-requires c =
    let old = c.args.joined.now in
    let kept = c.args.kept.now in
    let children = c.args.children.now in
    let k = c.loop-child.child-index in
    let e = c.index-kept-child.result in
    let sent = sent_next kept children k c.child-item.result c.child.inside.0 e c.loop-child-test.true c.child-item.is c.requires.inside c.child.view_is c.index-kept-child.is in
    lies_still (flat_map there (take k (sent_of kept children))) old c.loop-child.joined c.in-Some.made.sent c.loop-child.invariant
    (kept_at (LiesIn old.scope old.sizes) (sent_of kept children) k (sent_by e) c.in-Some.made.sent (sent_lt kept children k c.loop-child-test.true) sent (ap sent_by c.in-Some.is) c.requires.lie)

pub loop-child-preserved : goal.loop-child-preserved
loop-child-preserved c =
    let old = c.args.joined.now in
    let kept = c.args.kept.now in
    let children = c.args.children.now in
    let k = c.loop-child.child-index in
    let e = c.index-kept-child.result in
    let lt = sent_lt kept children k c.loop-child-test.true in
    let sent = sent_next kept children k c.child-item.result c.child.inside.0 e c.loop-child-test.true c.child-item.is c.requires.inside c.child.view_is c.index-kept-child.is in
    let goal_at : CostTable → Type 0 = λ t. HasGained (flat_map there (take (k + 1) (sent_of kept children))) old t in
    elim c.match-kept-child.branch [
      | in-Some w ↦
          subst goal_at (sym w.joined-is)
          (kept_more (sent_of kept children) k (sent_by e) w.in-Some.made.sent old c.loop-child.joined w.add.new.self lt sent (ap sent_by w.in-Some.is) c.loop-child.invariant w.add.ensures)
      | in_default w ↦
          subst goal_at (sym w.joined-is)
          (kept_none (sent_of kept children) k (sent_by e) old c.loop-child.joined lt sent (ap sent_by w.in_default.is) c.loop-child.invariant)
    ]
