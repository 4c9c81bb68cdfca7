-- How an ADOPT agent handles one message.
use Rattle.std.specs.Prelude.{ℕ, Bool, true, not, ◌&&◌, ◌==◌, if◌then◌else◌}
use Rattle.std.specs.List.{position}
use Rattle.dcop_base.specs.Table.{has}
use Rattle.adopt_context.specs.Context.{Context, value_in, put, compatible}
use Rattle.protocol_steps.specs.declared.message.Message.{Message}
use Rattle.protocol_steps.specs.declared.message.Message.TheVariants.{Value, Cost, Threshold, Terminate}
use Rattle.protocol_steps.specs.Adopt.{AdoptView}
use Rattle.protocol_steps.specs.AdoptBounds.{restore, at_context}
use Rattle.protocol_steps.specs.AdoptRange.{in_range, fits, is_parent}
use Rattle.protocol_steps.specs.AdoptCost.{take_cost, without}

-- a received threshold becomes the threshold if its context is compatible with what is known; it is stored as the last one received in any case
abbrev pub take_threshold : AdoptView → ℕ → Context → AdoptView
take_threshold v t c =
    if compatible c v.known then restore (record v { last = t; threshold = t }) else record v { last = t }

-- TERMINATE: its context becomes what is known, and the last threshold received becomes the threshold
abbrev pub take_end : AdoptView → Context → AdoptView
take_end v c = restore (record (at_context v c) { threshold = v.last; told = true })

-- whether VALUE(d) is taken: before TERMINATE, from a higher neighbour, with d below its size
abbrev pub takes_value : AdoptView → ℕ → ℕ → Bool
takes_value v j d = not v.told && has v.own.neighbours j && in_range v j d

-- whether THRESHOLD or TERMINATE with this context is taken: before TERMINATE, from the parent, with a context that fits
abbrev pub takes_from_parent : AdoptView → ℕ → Context → Bool
takes_from_parent v j c = not v.told && is_parent v j && fits v c

-- how one message is handled
abbrev pub adopt_message : AdoptView → ℕ → Message → AdoptView
adopt_message v j (Value d) = if takes_value v j d then restore (at_context v (put v.known j d)) else v
adopt_message v j (Threshold t c) = if takes_from_parent v j c then take_threshold v t c else v
adopt_message v j (Cost c l u) =
    take_cost v (position (λ child. child == j) v.place.children) (value_in c v.own.me) (without v.own.me c) l u
adopt_message v j (Terminate c) = if takes_from_parent v j c then take_end v c else v
adopt_message v j message = v
