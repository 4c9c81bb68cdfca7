use Rattle.dcop_base.specs.Whole.{IsProblem}
use Rattle.pseudotree.specs.DepthFirst.{dfs}
use Rattle.pseudotree.specs.Pseudotree.{IsPseudotree}
use Rattle.solve_methods.specs.Agreed.{HaveValues}
use Rattle.solve_methods.proofs.AgreedLaws.{run-agreed}
use Rattle.solve_methods.proofs.MadeLaws.{certificate_made}
use Rattle.solve_methods.proofs.dpop.chosen_by.Goals as goal

pub returns-clause-asked : goal.returns-clause-asked
returns-clause-asked c =
    let p = c.args.problem.now in
    let whole : IsProblem p = c.problem_is_whole.ensures in
    let is_tree : IsPseudotree p (dfs p) = c.token_runs.ensures.pseudotree p whole in
    let have : HaveValues p c.args.outcome =
    run-agreed p whole is_tree (c.token_runs.ensures.linked p whole) c.requires.narrow c.dpop_runs.ensures c.rounds_are_a_run.ensures c.args.outcome c.requires.run in
    (certificate_made p c.args.outcome.tables have.tables is_tree c.args.nodes c.in_ok-certificate.certificate c.requires.nodes
    c.in_ok-certificate.ensures).0

pub returns-clause-agreed : goal.returns-clause-agreed
returns-clause-agreed c =
    let p = c.args.problem.now in
    let whole : IsProblem p = c.problem_is_whole.ensures in
    let is_tree : IsPseudotree p (dfs p) = c.token_runs.ensures.pseudotree p whole in
    let have : HaveValues p c.args.outcome =
    run-agreed p whole is_tree (c.token_runs.ensures.linked p whole) c.requires.narrow c.dpop_runs.ensures c.rounds_are_a_run.ensures c.args.outcome c.requires.run in
    record {
      first = have.first;
      deliveries = have.deliveries;
      certificate =
          (certificate_made p c.args.outcome.tables have.tables is_tree c.args.nodes c.in_ok-certificate.certificate c.requires.nodes
          c.in_ok-certificate.ensures).1;
    }
