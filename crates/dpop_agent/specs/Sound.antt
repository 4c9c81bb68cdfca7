-- What holds of every DPOP agent.
use Rattle.std.specs.Prelude.{◌≡◌, true, List, length, Option, Some, is_some}
use Rattle.std.specs.List.{All, list_all}
use Rattle.dcop_base.specs.Table.{CostTable}
use Rattle.dcop_base.specs.declared.knowledge.Private.{Private}
use Rattle.pseudotree.specs.declared.agent.Place.{Place}
use Rattle.protocol_steps.specs.Dpop.{util_table}
use Rattle.protocol_steps.specs.Knowledge.{IsKnowledge}
use Rattle.protocol_steps.specs.Placing.{IsPlaceFor}
use Rattle.dpop_agent.specs.declared.stage.Stage.{Stage}
use Rattle.dpop_agent.specs.Keeping.{keeping, MayKeep}
use Rattle.dpop_agent.specs.Stage.{phase_at}

-- what an agent was made from, and the tables that it keeps, with one place for each child
pub record IsKeeper (own : Private) (place : Place) (kept : List (Option CostTable)) : Type 0 where
  pub known : IsKnowledge own
  pub placed : IsPlaceFor own place
  pub counted : length kept ≡ length place.children
  pub tables : All (MayKeep own place) kept

-- a table that was made is the UTIL table, and the tables of all children are kept
pub record IsMade (own : Private) (place : Place) (kept : List (Option CostTable)) (t : CostTable) : Type 0 where
  pub is : t ≡ util_table (keeping own place kept)
  pub all : list_all is_some kept ≡ true

-- an agent with the table that it made, if it made one; an agent that has ended has made it
pub record IsSound (own : Private) (place : Place) (stage : Stage) (kept : List (Option CostTable)) (made : Option CostTable) : Type 0 where
  pub keeper : IsKeeper own place kept
  pub util : (t : CostTable) → made ≡ Some t → IsMade own place kept t
  pub ended : (phase_at stage).ended ≡ true → is_some made ≡ true
