-- The view of a DPOP agent, its separator, and the table that it makes.
use Rattle.std.specs.Prelude.{ℕ, ◌+◌, ◌-◌, ◌*◌, ◌||◌, List, [], ◌∷◌, map, length, replicate, Option, Some, None, ◌==◌, nat_lt, if◌then◌else◌}
use Rattle.std.specs.List.{list_all, list_any, filter, flat_map, zip}
use Rattle.dcop_base.specs.Table.{CostTable, has, product}
use Rattle.dcop_base.specs.declared.knowledge.Private.{Private}
use Rattle.pseudotree.specs.declared.agent.Place.{Place}
use Rattle.adopt_context.specs.Context.{value_in, or_zero}
use Rattle.adopt_context.specs.Bounds.{cap, lowest}
use Rattle.protocol_steps.specs.Agent.{Phase, not_started}
use Rattle.dcop_base.specs.Values.{with_own, cost_with}
use Rattle.protocol_steps.specs.Values.{valued, choices}

-- a DPOP agent: what it knows of the problem, its place, its phase, the tables of its children that it keeps, in the children's order, the UTIL table that it made, and its value
pub record DpopView : Type 0 where
  pub own : Private
  pub place : Place
  pub phase : Phase
  pub kept : List (Option CostTable)
  pub made : Option CostTable
  pub value : ℕ

-- a DPOP agent as it is made, before its start
abbrev pub new_dpop : Private → Place → DpopView
new_dpop own place = record { own = own; place = place; phase = not_started; kept = replicate (length place.children) None; made = None; value = 0 }

-- an optional table as a list
abbrev pub there : Option CostTable → List CostTable
there None = []
there (Some t) = t ∷ []

-- the tables of children that are kept
abbrev pub kept_tables : DpopView → List CostTable
kept_tables v = flat_map there v.kept

-- the scopes of the kept tables
abbrev pub kept_scopes : DpopView → List (List ℕ)
kept_scopes v = map (λ t. t.scope) (kept_tables v)

-- own tables: those that name the agent and otherwise only variables of its path
abbrev pub own_tables : DpopView → List CostTable
own_tables v = filter (λ t. list_all (λ u. u == v.own.me || has v.place.path u) t.scope) v.own.tables

-- the number of values of the agent's variable or of a variable of its path
abbrev pub size_of : DpopView → ℕ → ℕ
size_of v u = if u == v.own.me then v.own.size else or_zero (value_in (zip v.place.path v.place.path_sizes) u)

-- the separator if the kept tables have these scopes, from the root down: the variables of the path that are neighbours or are in such a scope
abbrev pub separator_with : DpopView → List (List ℕ) → List ℕ
separator_with v scopes = filter (λ u. has v.own.neighbours u || list_any (λ scope. has scope u) scopes) v.place.path

-- the separator
abbrev pub separator : DpopView → List ℕ
separator v = separator_with v (kept_scopes v)

-- the number of cells of the joined table if the kept tables have these scopes
abbrev pub joined_cells_with : DpopView → List (List ℕ) → ℕ
joined_cells_with v scopes = v.own.size * product (map (size_of v) (separator_with v scopes))

-- the joined cost when the agent has the value d and the separator has these values
abbrev pub joined_cost : DpopView → (ℕ → ℕ) → ℕ → ℕ
joined_cost v value d =
    cap (cost_with (own_tables v) (with_own v.own.me d value) + cost_with (kept_tables v) (with_own v.own.me d value))

-- the lowest own value with the least joined cost
abbrev pub best_value : DpopView → (ℕ → ℕ) → ℕ
best_value v value = lowest nat_lt (joined_cost v value) (v.own.size - 1)

-- the UTIL cell at these values of the separator: the least joined cost
abbrev pub util_cell : DpopView → List ℕ → ℕ
util_cell v values =
    let value : ℕ → ℕ = valued (zip (separator v) values) in
    joined_cost v value (best_value v value)

-- the UTIL table: the sum of all own and kept tables, with the agent's own variable projected out
abbrev pub util_table : DpopView → CostTable
util_table v = record {
  scope = separator v;
  sizes = map (size_of v) (separator v);
  cells = map (util_cell v) (choices (map (size_of v) (separator v)));
}
