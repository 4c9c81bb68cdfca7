use Rattle.std.proofs.Common.{◌≡◌, sym, subst, ◌∙◌}
use Rattle.dcop_base.specs.Problem.{Dcop}
use Rattle.dcop_base.specs.Whole.{IsProblem}
use Rattle.pseudotree.specs.DepthFirst.{dfs}
use Rattle.pseudotree.specs.Pseudotree.{IsLinked, IsPseudotree}
use Rattle.minimised_problem.specs.Found.{HaveFound}
use Rattle.minimised_problem.proofs.FoundLaws.{run-found, found-paths}
use Rattle.minimised_problem.proofs.search.tree_found.Goals as goal

pub tree_on-requires : goal.tree_on-requires
tree_on-requires c =
    let p : Dcop = c.args.problem.now in
    let whole : IsProblem p = c.problem_is_whole.ensures in
    let found : HaveFound p c.args.outcome.now = run-found p whole c.token_runs.ensures c.rounds_are_a_run.ensures c.args.outcome.now c.requires in
    let same : c.in_ok-paths.paths.items ≡ dfs p = c.in_ok-paths.ensures ∙ found-paths p c.args.outcome.now.places found.places in
    subst (IsPseudotree p) (sym same) (c.token_runs.ensures.pseudotree p whole)

pub returns : goal.returns
returns c =
    let p : Dcop = c.args.problem.now in
    let whole : IsProblem p = c.problem_is_whole.ensures in
    let found : HaveFound p c.args.outcome.now = run-found p whole c.token_runs.ensures c.rounds_are_a_run.ensures c.args.outcome.now c.requires in
    let paths : c.in_ok-tree_on.field-0.paths ≡ dfs p = c.in_ok-tree_on.ensures.paths ∙ c.in_ok-paths.ensures ∙ found-paths p c.args.outcome.now.places found.places in
    record {
      whole = whole;
      tree = c.in_ok-tree_on.ensures.tree;
      linked = subst (IsLinked p) (sym paths) (c.token_runs.ensures.linked p whole);
      paths = paths;
      deliveries = found.deliveries;
    }
