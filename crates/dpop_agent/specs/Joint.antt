-- Joined tables of an agent.
use Rattle.std.specs.Prelude.{◌≡◌, ℕ, ◌+◌, ◌<◌, ◌≤◌, true, false, List, [], ◌∷◌, ◌++◌, map, Option, Some, None}
use Rattle.dcop_base.specs.Table.{CostTable, AreWithin, product}
use Rattle.dcop_base.specs.Values.{cell_with, cost_with}
use Rattle.adopt_context.specs.Bounds.{cap}
use Rattle.protocol_steps.specs.Dpop.{DpopView, own_tables, kept_tables, kept_scopes, joined_cells_with, size_of, separator, util_table}
use Rattle.dcop_base.specs.Limits.{joined_limit}
use Rattle.protocol_steps.specs.DpopJoin.{can_join}
use Rattle.dpop_agent.specs.declared.separator.Over.{Over}

-- a table over these variables with these sizes; its cell at any values is the cost that `costs`
-- gives for them, or the cap if that is more
pub record IsCostOf (over sizes : List ℕ) (costs : (ℕ → ℕ) → ℕ) (t : CostTable) : Type 0 where
  pub same_scope : t.scope ≡ over
  pub same_sizes : t.sizes ≡ sizes
  pub cells : (value : ℕ → ℕ) → AreWithin sizes (map value over) → cell_with t value ≡ cap (costs value)

-- a joined table after these tables were added: its cells cost this much more
pub record HasGained (ts : List CostTable) (old new : CostTable) : Type 0 where
  pub same_scope : new.scope ≡ old.scope
  pub same_sizes : new.sizes ≡ old.sizes
  pub costs : (costs : (ℕ → ℕ) → ℕ) → IsCostOf old.scope old.sizes costs old → IsCostOf old.scope old.sizes (λ value. costs value + cost_with ts value) new

-- the variables of an agent's joined table: its separator, from the root down, and then the agent
abbrev pub over_of : DpopView → List ℕ
over_of v = separator v ++ (v.own.me ∷ [])

-- the sizes of these variables
abbrev pub over_sizes : DpopView → List ℕ
over_sizes v = map (size_of v) (over_of v)

-- these are the variables of an agent's joined table, with their sizes
pub record IsOver (v : DpopView) (over : Over) : Type 0 where
  pub vars : over.vars ≡ over_of v
  pub sizes : over.sizes ≡ map (size_of v) over.vars

-- a joined table of zeros over these variables exactly if it is not too wide
abbrev pub IsZeroOver : List ℕ → List ℕ → Option CostTable → Type 0
IsZeroOver over sizes None = joined_limit < product sizes
IsZeroOver over sizes (Some t) = (product sizes ≤ joined_limit) × IsCostOf over sizes (λ value. 0) t

-- an agent's joined table of zeros exactly if it is not too wide
abbrev pub IsZeroWhereNarrow : DpopView → Option CostTable → Type 0
IsZeroWhereNarrow v None = joined_limit < joined_cells_with v (kept_scopes v)
IsZeroWhereNarrow v (Some t) = (joined_cells_with v (kept_scopes v) ≤ joined_limit) × IsCostOf (over_of v) (over_sizes v) (λ value. 0) t

-- the joined table of an agent: the sum of its own tables and its children's tables
abbrev pub IsJoint : DpopView → CostTable → Type 0
IsJoint v t = IsCostOf (over_of v) (over_sizes v) (λ value. cost_with (own_tables v) value + cost_with (kept_tables v) value) t

-- the joined table exactly if the agent may join
abbrev pub IsJointWhereMay : DpopView → Option CostTable → Type 0
IsJointWhereMay v None = can_join v ≡ false
IsJointWhereMay v (Some t) = (can_join v ≡ true) × IsJoint v t

-- the UTIL table exactly if the agent may join
abbrev pub IsUtilWhereMay : DpopView → Option CostTable → Type 0
IsUtilWhereMay v None = can_join v ≡ false
IsUtilWhereMay v (Some t) = (can_join v ≡ true) × (t ≡ util_table v)
