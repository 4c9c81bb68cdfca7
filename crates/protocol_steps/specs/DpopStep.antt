-- The DPOP step: UTIL tables go up the tree, and values come down.
use Rattle.std.specs.Prelude.{ℕ, Bool, true, false, not, ◌&&◌, List, [], ◌∷◌, ◌++◌, map, length, Option, Some, None, is_some, ◌==◌, nat_eq, nat_le, nat_lt, if◌then◌else◌, slice_get}
use Rattle.std.specs.List.{list_all, filter, zip, position, slice_set}
use Rattle.std.specs.Cmp.Lexicographic.{pointwise}
use Rattle.dcop_base.specs.Table.{CostTable, has, product}
use Rattle.dcop_base.specs.Limits.{joined_limit}
use Rattle.adopt_context.specs.Context.{Context, value_in, is_value, names_all}
use Rattle.protocol_steps.specs.declared.message.Message.{Message}
use Rattle.protocol_steps.specs.declared.message.Message.TheVariants.{Util, ValueAll}
use Rattle.protocol_steps.specs.Agent.{Stepped, quiet, each_letter, last_of}
use Rattle.protocol_steps.specs.Dpop.{DpopView, kept_scopes, size_of, separator, joined_cells_with}
use Rattle.protocol_steps.specs.DpopJoin.{decide, join}

-- whether a value is below a size; true if there is no size
abbrev pub is_below_size : Option ℕ → ℕ → Bool
is_below_size None d = true
is_below_size (Some size) d = nat_lt d size

-- whether a context gives every variable of the path that it names a value below its size
abbrev pub is_sized : DpopView → Context → Bool
is_sized v c = list_all (λ p. is_below_size (value_in (zip v.place.path v.place.path_sizes) p.0) p.1) c

-- whether there is a place for a child's table that holds no table yet
abbrev pub is_open : Option (Option CostTable) → Bool
is_open None = false
is_open (Some kept) = not (is_some kept)

-- whether the child at place k may send such a table: none is kept for it yet, the scope consists of variables of the path, from the root down, and then the agent, the number of cells fits, and the joined table stays within its limit
abbrev pub takes_util : DpopView → ℕ → List ℕ → List ℕ → Bool
takes_util v k scope cells =
    is_open (slice_get v.kept k)
    && pointwise nat_eq scope (filter (has scope) v.place.path ++ (v.own.me ∷ []))
    && (length cells == product (map (size_of v) scope))
    && nat_le (joined_cells_with v (scope ∷ kept_scopes v)) joined_limit

-- the table of a child is kept at its place
abbrev pub with_table : DpopView → ℕ → List ℕ → List ℕ → DpopView
with_table v k scope cells = record v { kept = slice_set v.kept k (Some (record { scope = scope; sizes = map (size_of v) scope; cells = cells })) }

-- UTIL from the child at place k; it is ignored if there is no such child or the table is not taken
abbrev pub take_util : DpopView → Option ℕ → List ℕ → List ℕ → Stepped DpopView
take_util v None scope cells = quiet v
take_util v (Some k) scope cells =
    if takes_util v k scope cells then join (with_table v k scope cells) else quiet v

-- whether VALUE is taken: once, from the parent, after UTIL was sent, if its values are below their sizes and it names the whole separator
abbrev pub takes_values : DpopView → ℕ → Context → Bool
takes_values v from values =
    is_value (last_of v.place.path) from && is_some v.made && not v.phase.ended && is_sized v values && names_all values (separator v)

-- how one message is handled
abbrev pub dpop_message : DpopView → ℕ → Message → Stepped DpopView
dpop_message v from (Util scope cells) = take_util v (position (λ c. c == from) v.place.children) scope cells
dpop_message v from (ValueAll values) = if takes_values v from values then decide v values else quiet v
dpop_message v from message = quiet v

-- the start: an agent without children joins at once
abbrev pub dpop_start : DpopView → Stepped DpopView
dpop_start v = join (record v { phase = record v.phase { started = true } })

-- one activation
abbrev pub dpop_step : DpopView → List (ℕ × Message) → Stepped DpopView
dpop_step v ls = each_letter dpop_message v ls
