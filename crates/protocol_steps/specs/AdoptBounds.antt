-- The bounds of an ADOPT agent, and its threshold between them.
use Rattle.std.specs.Prelude.{ℕ, ◌+◌, ◌-◌, Bool, ◌&&◌, ◌||◌, Option, Some, None, is_some, ◌==◌, nat_lt, if◌then◌else◌, max}
use Rattle.std.specs.List.{list_all, filter}
use Rattle.dcop_base.specs.Table.{CostTable, has}
use Rattle.adopt_context.specs.Context.{Context, value_in, names_all}
use Rattle.adopt_context.specs.Bounds.{cap, lower_at, upper_at, is_below, lowest}
use Rattle.adopt_context.specs.Allot.{lower_to, reset}
use Rattle.dcop_base.specs.Values.{with_own, cost_with}
use Rattle.protocol_steps.specs.Values.{valued}
use Rattle.protocol_steps.specs.Adopt.{AdoptView, is_root, higher}

-- whether a table counts: besides the agent itself it names only variables of the path whose values are known
abbrev pub counts : AdoptView → CostTable → Bool
counts v t = list_all (λ u. u == v.own.me || (has v.place.path u && is_some (value_in v.known u))) t.scope

-- δ(d): the cost of d by the tables that count
abbrev pub delta : AdoptView → ℕ → ℕ
delta v d = cap (cost_with (filter (counts v) v.own.tables) (with_own v.own.me d (valued v.known)))

-- δ(d), if the values of all higher neighbours are known
abbrev pub whole_delta : AdoptView → ℕ → Option ℕ
whole_delta v d = if names_all v.known (higher v) then Some (delta v d) else None

-- LB(d)
abbrev pub lower_of : AdoptView → ℕ → ℕ
lower_of v d = lower_at (delta v) v.rows d

-- UB(d)
abbrev pub upper_of : AdoptView → ℕ → Option ℕ
upper_of v d = upper_at (whole_delta v) v.rows d

-- the lowest value d with the least LB(d)
abbrev pub best_lower : AdoptView → ℕ
best_lower v = lowest nat_lt (lower_of v) (v.own.size - 1)

-- the lowest value d with the least UB(d)
abbrev pub best_upper : AdoptView → ℕ
best_upper v = lowest is_below (upper_of v) (v.own.size - 1)

-- LB: the least LB(d)
abbrev pub lower_bound : AdoptView → ℕ
lower_bound v = lower_of v (best_lower v)

-- UB: the least UB(d), if there is one
abbrev pub upper_bound : AdoptView → Option ℕ
upper_bound v = upper_of v (best_upper v)

-- restore: moves the threshold between the bounds; the root's becomes the lesser of LB plus the error and UB
abbrev pub restore : AdoptView → AdoptView
restore v = record v {
  threshold = lower_to (if is_root v then cap (lower_bound v + v.error) else max v.threshold (lower_bound v)) (upper_bound v);
}

-- the known context becomes x, and the entries whose context is not part of x are reset
abbrev pub at_context : AdoptView → Context → AdoptView
at_context v x = record v { known = x; rows = reset x v.rows }
