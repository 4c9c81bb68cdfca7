-- The law about the bounds in the answer of a replay.
use Rattle.std.specs.Prelude.{◌≡◌, ℕ, List, Some, slice_get}
use Rattle.std.specs.List.{All}
use Rattle.dcop_base.specs.Problem.{Dcop}
use Rattle.dcop_base.specs.Whole.{IsProblem}
use Rattle.pseudotree.specs.DepthFirst.{dfs}
use Rattle.adopt_context.specs.Context.{value_in}
use Rattle.protocol_steps.specs.declared.event.Event.{Event}
use Rattle.protocol_steps.specs.Adopt.{AdoptView}
use Rattle.protocol_steps.specs.Network.{Network, start_state}
use Rattle.protocol_steps.specs.View.{AdoptKind}
use Rattle.dcop_optimum.specs.Enclosing.{Encloses}
use Rattle.problem_text.specs.File.{TextFile}
use Rattle.minimised_problem.specs.Goal.{problem_solved}
use Rattle.minimised_problem.specs.LogHolds.{agents_for}
use Rattle.solve_report.specs.declared.answer.Answer.TheVariants as answers
use Rattle.solve_report.specs.declared.replay.AgentRow.{AgentRow}
use Rattle.solve_printed.specs.Replaying.{IsReplay}

-- the bounds in a row of a replay, which is for one agent, enclose the optimum of the agent's
-- subtree, at the values that the agent knows in this network state
pub record TellsBounds (p : Dcop) (state : Network) (row : AgentRow) : Type 0 where
  pub view : AdoptView
  pub is : slice_get state.views row.agent ≡ Some (AdoptKind view)
  pub enclose : Encloses p (dfs p) row.agent (value_in view.known) row.standing.lower row.standing.upper

-- whatever events are replayed: if the proper ancestors of an agent's variable have the values that
-- the agent knows, the least cost of its subtree is at least its row's lower bound, and at most its
-- row's upper bound, if there is one
abbrev pub ReplayedBoundsEnclose : Type 0
ReplayedBoundsEnclose = (file : TextFile) (error : ℕ) (es : List Event) (events : ℕ) (agents : List AgentRow) (names : List (List ℕ)) → IsProblem file.problem
    → (told : IsReplay file (start_state (agents_for file error)) es (answers.Replay events agents names))
    → All (TellsBounds (problem_solved file) told.1.state) agents
