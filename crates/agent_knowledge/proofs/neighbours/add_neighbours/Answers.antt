use Rattle.std.proofs.Common.{length, ap, ◌∙◌}
use Rattle.dcop_base.specs.Problem.{Dcop}
use Rattle.agent_knowledge.proofs.NeighbourLaws.{scopes_within, joints_within, none_ascend, none_size, rows_are}
use Rattle.agent_knowledge.proofs.neighbours.add_neighbours.Goals as goal

pub add_scopes-requires-clause-within : goal.add_scopes-requires-clause-within
add_scopes-requires-clause-within c =
    scopes_within c.args.problem.now (length c.args.rows.now) _ c.problem_is_whole.ensures (c.as_slice.ensures ∙ ap (λ (p : Dcop). p.tables) c.problem.view_is) (none_size c.args.rows.now (length c.args.problem.now.sizes) c.requires)

pub add_scopes-requires-clause-ascend : goal.add_scopes-requires-clause-ascend
add_scopes-requires-clause-ascend c = none_ascend c.args.rows.now (length c.args.problem.now.sizes) c.requires

pub add_joints-requires-clause-within : goal.add_joints-requires-clause-within
add_joints-requires-clause-within c =
    joints_within c.args.problem.now (length c.add_scopes.new.rows) _ c.problem_is_whole.ensures (c.as_slice-2.ensures ∙ ap (λ (p : Dcop). p.joints) c.problem.view_is) (c.add_scopes.ensures.size ∙ none_size c.args.rows.now (length c.args.problem.now.sizes) c.requires)

pub returns-clause-added : goal.returns-clause-added
returns-clause-added c =
    rows_are c.args.problem.now c.args.rows.now c.add_scopes.new.rows c.add_joints.new.rows c.as_slice.result.now c.as_slice-2.result.now c.problem_is_whole.ensures c.requires
    c.add_scopes.ensures.size c.add_joints.ensures.size (c.as_slice.ensures ∙ ap (λ (p : Dcop). p.tables) c.problem.view_is) (c.as_slice-2.ensures ∙ ap (λ (p : Dcop). p.joints) c.problem.view_is)
    c.in_ok-add_scopes.ensures.added c.in_ok-add_joints.ensures.added
