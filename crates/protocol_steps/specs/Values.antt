-- Values that a context gives, and all choices of values.
use Rattle.std.specs.Prelude.{ℕ, List, [], ◌∷◌, map}
use Rattle.std.specs.List.{flat_map, fold, range_with_len}
use Rattle.adopt_context.specs.Context.{Context, value_in, put, or_zero}

-- the value that a context gives to a variable; 0 if it names none
abbrev pub valued : Context → ℕ → ℕ
valued c u = or_zero (value_in c u)

-- the context that gives each of these variables its value
abbrev pub context_of : List ℕ → (ℕ → ℕ) → Context
context_of vs value = fold (λ c u. put c u (value u)) [] vs

-- all lists of values below these sizes; the last value changes fastest
abbrev pub choices : List ℕ → List (List ℕ)
choices [] = [] ∷ []
choices (s ∷ ss) = flat_map (λ d. map (λ ds. d ∷ ds) (choices ss)) (range_with_len 0 s)
