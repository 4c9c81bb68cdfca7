-- What an ADOPT agent accepts: messages from its parent, and contexts over its path.
use Rattle.std.specs.Prelude.{ℕ, Bool, false, Option, Some, None, nat_lt}
use Rattle.std.specs.List.{list_all, zip}
use Rattle.adopt_context.specs.Context.{Context, value_in, is_value}
use Rattle.protocol_steps.specs.Agent.{last_of}
use Rattle.protocol_steps.specs.Adopt.{AdoptView}

-- whether a value is below a size, which must be there
abbrev pub is_within : Option ℕ → ℕ → Bool
is_within None d = false
is_within (Some size) d = nat_lt d size

-- whether a variable is in the path and the value is below its size
abbrev pub in_range : AdoptView → ℕ → ℕ → Bool
in_range v u d = is_within (value_in (zip v.place.path v.place.path_sizes) u) d

-- whether a context names only variables of the path, with values below their sizes
abbrev pub fits : AdoptView → Context → Bool
fits v c = list_all (λ p. in_range v p.0 p.1) c

-- whether a message comes from the parent
abbrev pub is_parent : AdoptView → ℕ → Bool
is_parent v j = is_value (last_of v.place.path) j
