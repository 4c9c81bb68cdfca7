use Rattle.std.proofs.Common.{Option, subst}
use Rattle.dcop_base.specs.Table.{CostTable}
use Rattle.dpop_agent.specs.Keeping.{keeping}
use Rattle.dpop_agent.specs.Joint.{IsJointWhereMay}
use Rattle.dpop_agent.proofs.CellLaws.{joint_names, projects}
use Rattle.dpop_agent.proofs.util.util_of.Goals as goal

pub project-requires : goal.project-requires
project-requires c =
    let own = c.args.own.now in
    let place = c.args.place.now in
    let kept = c.args.kept.now in
    let joint = subst (λ (o : Option CostTable). IsJointWhereMay (keeping own place kept) o) c.in-Some.is c.in_ok-joined.ensures in
    joint_names own place kept c.requires.keeper c.in-Some.joined joint.1

pub returns : goal.returns
returns c =
    let own = c.args.own.now in
    let place = c.args.place.now in
    let kept = c.args.kept.now in
    let joint = subst (λ (o : Option CostTable). IsJointWhereMay (keeping own place kept) o) c.in-Some.is c.in_ok-joined.ensures in
    (joint.0, projects own place kept c.requires.keeper c.in-Some.joined joint.1 c.in_ok-made.made c.in_ok-made.ensures)
