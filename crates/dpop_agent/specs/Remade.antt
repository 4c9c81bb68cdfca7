-- The tables of a DPOP step made anew, from those that were made for the children.
use Rattle.std.specs.Prelude.{◌≡◌, ℕ, ◌<◌, ◌≤◌, true, List, map, length, Option, Some, None, is_some, slice_index_or}
use Rattle.std.specs.List.{All}
use Rattle.dcop_base.specs.Table.{CostTable}
use Rattle.dcop_base.specs.declared.knowledge.Private.{Private}
use Rattle.pseudotree.specs.declared.agent.Place.{Place}
use Rattle.dcop_base.specs.Limits.{joined_limit}
use Rattle.protocol_steps.specs.Knowledge.{IsKnowledge}
use Rattle.protocol_steps.specs.Placing.{IsPlaceFor}
use Rattle.protocol_steps.specs.Dpop.{DpopView, kept_scopes, joined_cells_with, util_table}
use Rattle.dpop_agent.specs.declared.made.Made.{Made}
use Rattle.dpop_agent.specs.Keeping.{keeping, MayKeep}
use Rattle.dpop_agent.specs.Joint.{IsJoint}

-- of the two tables that an agent made, its joined table and its UTIL table: the UTIL table, which
-- is for its parent; none if it made none
abbrev pub sent_by : Option Made → Option CostTable
sent_by None = None
sent_by (Some made) = Some made.sent

-- the table that a variable's agent sent
abbrev pub sent_at : List (Option Made) → ℕ → Option CostTable
sent_at kept u = sent_by (slice_index_or kept u None)

-- the tables that the agents of these variables sent
abbrev pub sent_of : List (Option Made) → List ℕ → List (Option CostTable)
sent_of kept vars = map (sent_at kept) vars

-- an agent that keeps the tables that its children sent
abbrev pub with_sent : Private → Place → List (Option Made) → DpopView
with_sent own place kept = keeping own place (sent_of kept place.children)

-- the number of cells of its joined table
abbrev pub joined_count : DpopView → ℕ
joined_count v = joined_cells_with v (kept_scopes v)

-- when tables may be made anew: the agent's knowledge and place fit, the tables of its children are there and may be kept, and the joined table is not too wide
pub record MayRemake (own : Private) (place : Place) (kept : List (Option Made)) : Type 0 where
  pub known : IsKnowledge own
  pub placed : IsPlaceFor own place
  pub inside : All (λ u. u < length kept) place.children
  pub all : All (λ u. is_some (sent_at kept u) ≡ true) place.children
  pub tables : All (λ u. MayKeep own place (sent_at kept u)) place.children
  pub narrow : joined_count (with_sent own place kept) ≤ joined_limit

-- the tables that are made anew: the joined table and the UTIL table
pub record IsRemade (v : DpopView) (made : Made) : Type 0 where
  pub joined : IsJoint v made.joined
  pub sent : made.sent ≡ util_table v
