-- How an ADOPT agent takes the bounds of a child from a COST message.
use Rattle.std.specs.Prelude.{ℕ, Bool, not, ◌&&◌, ◌||◌, Option, Some, None, is_some, ◌==◌, nat_lt, if◌then◌else◌}
use Rattle.std.specs.List.{filter, fold}
use Rattle.dcop_base.specs.Table.{has}
use Rattle.adopt_context.specs.Context.{Context, value_in, put, part_of}
use Rattle.adopt_context.specs.Bounds.{Entry, entry_at}
use Rattle.adopt_context.specs.Merge.{may_merge, merged, put_entry}
use Rattle.protocol_steps.specs.Adopt.{AdoptView}
use Rattle.protocol_steps.specs.AdoptBounds.{restore, at_context}
use Rattle.protocol_steps.specs.AdoptRange.{fits}

-- a context without a variable
abbrev pub without : ℕ → Context → Context
without u c = filter (λ p. not (p.0 == u)) c

-- the agent with the entry for own value d and the child at place k replaced
abbrev pub with_entry : AdoptView → ℕ → ℕ → Entry → AdoptView
with_entry v d k e = record v { rows = put_entry v.rows d k e }

-- whether bounds from a child may be stored: their context is part of what is known, and they do not cross the entry's bounds
abbrev pub may_store : AdoptView → ℕ → ℕ → Context → ℕ → Option ℕ → Bool
may_store v d k r l u = part_of r v.known && may_merge (entry_at v.rows d k) l u

-- the bounds of a COST are merged into their entry if they may be stored
abbrev pub stored : AdoptView → ℕ → ℕ → Context → ℕ → Option ℕ → AdoptView
stored v d k r l u =
    if may_store v d k r l u then restore (with_entry v d k (merged (entry_at v.rows d k) r l u)) else v

-- what is known, extended by one pair of a COST's context if its variable is not a neighbour or its value is not known yet
abbrev pub learned : AdoptView → Context → ℕ × ℕ → Context
learned v x p = if not (has v.own.neighbours p.0) || not (is_some (value_in x p.0)) then put x p.0 p.1 else x

-- before TERMINATE the agent learns from the context of a COST
abbrev pub learn : AdoptView → Context → AdoptView
learn v r = if v.told then v else restore (at_context v (fold (learned v) v.known r))

-- a COST from the child at place k whose context gives the agent the value d; it is ignored if the sender is not a child, if there is no such value or it is not below the size, or if the context does not fit
abbrev pub take_cost : AdoptView → Option ℕ → Option ℕ → Context → ℕ → Option ℕ → AdoptView
take_cost v None d r l u = v
take_cost v (Some k) None r l u = v
take_cost v (Some k) (Some d) r l u = if nat_lt d v.own.size && fits v r then stored (learn v r) d k r l u else v
