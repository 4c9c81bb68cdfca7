-- How a DPOP agent joins its tables, sends the result up, and decides.
use Rattle.std.specs.Prelude.{ℕ, Bool, true, ◌&&◌, List, [], ◌∷◌, map, Option, Some, None, is_some, nat_le, if◌then◌else◌}
use Rattle.std.specs.List.{list_all, flat_map, zip}
use Rattle.dcop_base.specs.Table.{CostTable}
use Rattle.dcop_base.specs.Limits.{joined_limit}
use Rattle.adopt_context.specs.Context.{Context}
use Rattle.protocol_steps.specs.declared.message.Message.{Message}
use Rattle.protocol_steps.specs.declared.message.Message.TheVariants.{Util, ValueAll}
use Rattle.protocol_steps.specs.Agent.{Stepped, quiet, last_of}
use Rattle.dcop_base.specs.Values.{with_own}
use Rattle.protocol_steps.specs.Values.{valued, context_of}
use Rattle.protocol_steps.specs.Dpop.{DpopView, kept_scopes, there, joined_cells_with, best_value, util_table}

-- VALUE for the child of each kept table: the values of the variables in the table's scope
abbrev pub values_for : DpopView → (ℕ → ℕ) → List (ℕ × Message)
values_for v value =
    flat_map (λ kept. map (λ t. (kept.0, ValueAll (context_of t.scope value))) (there kept.1)) (zip v.place.children v.kept)

-- the agent takes its best value, sends its children their values, and ends
abbrev pub decide : DpopView → Context → Stepped DpopView
decide v values =
    let d : ℕ = best_value v (valued values) in
    record {
      view = record v { value = d; phase = record v.phase { ended = true } };
      sends = values_for v (with_own v.own.me d (valued values));
    }

-- what happens to the table that was made: it goes to the parent as UTIL, or the root decides
abbrev pub send_up : DpopView → CostTable → Option ℕ → Stepped DpopView
send_up v t (Some parent) = record { view = v; sends = (parent, Util t.scope t.cells) ∷ [] }
send_up v t None = decide v []

-- whether the agent may join: it keeps the tables of all children, and the joined table is not too wide
abbrev pub can_join : DpopView → Bool
can_join v = list_all is_some v.kept && nat_le (joined_cells_with v (kept_scopes v)) joined_limit

-- the agent joins if it may
abbrev pub join : DpopView → Stepped DpopView
join v =
    if can_join v
    then send_up (record v { made = Some (util_table v) }) (util_table v) (last_of v.place.path)
    else quiet v
