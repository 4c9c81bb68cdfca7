use Rattle.std.proofs.Common.{length, refl}
use Rattle.std.specs.List.{All}
use Rattle.dcop_base.specs.Table.{IsTable}
use Rattle.dcop_base.specs.Graph.{AreJoints}
use Rattle.dcop_base.proofs.JointLaws.{IsConnected-joints}
use Rattle.dcop_base.proofs.ProblemLaws.{IsProblem-faultless, scopes-faultless}
use Rattle.dcop_base.proofs.problem.Problem.of_faultless.Goals as goal

pub joints_of-requires-clause-within : goal.joints_of-requires-clause-within
joints_of-requires-clause-within c =
    let whole : All IsTable c.args.tables = rw (← c.as_slice.ensures) c.tables_are_whole.ensures in
    rw (c.as_slice-2.ensures, c.as_slice-3.ensures) (scopes-faultless c.args.sizes c.args.tables c.requires whole)

pub invariant_of-result : goal.invariant_of-result
invariant_of-result c =
    let whole : All IsTable c.args.tables = rw (← c.as_slice.ensures) c.tables_are_whole.ensures in
    let joints : AreJoints (length c.args.sizes) c.args.tables c.in_ok-joints.joints = rw (← c.as_slice-2.ensures, ← c.as_slice-3.ensures) c.in_ok-joints.ensures in
    IsProblem-faultless c.args.sizes c.args.tables c.in_ok-joints.joints c.requires whole joints

pub returns : goal.returns
returns c =
    let joints : AreJoints (length c.args.sizes) c.args.tables c.in_ok-joints.joints = rw (← c.as_slice-2.ensures, ← c.as_slice-3.ensures) c.in_ok-joints.ensures in
    record {
      faultless = c.requires;
      same_sizes = refl;
      same_tables = refl;
      joints = joints;
      connected = IsConnected-joints (record { sizes = c.args.sizes; tables = c.args.tables; joints = c.in_ok-joints.joints }) joints;
    }
