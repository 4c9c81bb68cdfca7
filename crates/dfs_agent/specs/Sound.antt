-- What holds of every token agent.
use Rattle.std.specs.Prelude.{◌≡◌, ℕ, ◌<◌, ◌≤◌, List, length}
use Rattle.std.specs.List.{All, concat}
use Rattle.dcop_base.specs.declared.knowledge.Private.{Private}
use Rattle.dcop_base.specs.Limits.{variable_limit}
use Rattle.protocol_steps.specs.Token.{token_place}
use Rattle.protocol_steps.specs.TokenStep.{most_others}
use Rattle.protocol_steps.specs.Laws.{IsParentBeside}
use Rattle.dfs_agent.specs.declared.stage.Stage.{Stage}
use Rattle.protocol_steps.specs.Knowledge.{IsKnowledge}
use Rattle.dfs_agent.specs.Stage.{view_at, place_at}

-- the variables other than the agent's own that a token names: at most most_others, each below variable_limit
pub record AreOthers (vs : List ℕ) : Type 0 where
  pub few : length vs ≤ most_others
  pub below : All (λ v. v < variable_limit) vs

-- an agent at a stage: its parent is a neighbour, its lists are short enough to be sent, and it has a place exactly if it has ended
pub record IsSound (own : Private) (stage : Stage) (path : List ℕ) (kept : List (List ℕ)) : Type 0 where
  pub known : IsKnowledge own
  pub beside : IsParentBeside own.neighbours path
  pub above : AreOthers path
  pub below : AreOthers (concat kept)
  pub placed : place_at stage ≡ token_place (view_at own stage path kept)
