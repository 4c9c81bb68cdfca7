-- Contexts: finite maps from variables to values, each the list of its pairs.
use Rattle.std.specs.Prelude.{ℕ, ◌+◌, ◌≤◌, Bool, true, false, List, [], ◌∷◌, Option, Some, None, ◌==◌, nat_lt, is_some, if◌then◌else◌}
use Rattle.std.specs.List.{list_all, fold}

-- a context: pairs of a variable and its value
abbrev pub Context : Type 0
Context = List (ℕ × ℕ)

-- the variables are at least b, and each is greater than the one before
abbrev pub AscendsFrom : ℕ → Context → Type 0
AscendsFrom b [] = Unit {0}
AscendsFrom b (p ∷ ps) = (b ≤ p.0) × AscendsFrom (p.0 + 1) ps

-- the value of a variable, if the context names it
abbrev pub value_in : Context → ℕ → Option ℕ
value_in [] v = None
value_in (p ∷ ps) v = if p.0 == v then Some p.1 else value_in ps v

-- the number, or 0 if there is none
abbrev pub or_zero : Option ℕ → ℕ
or_zero None = 0
or_zero (Some x) = x

-- the context with the value a for the variable v, and otherwise the same
abbrev pub put : Context → ℕ → ℕ → Context
put [] v a = (v, a) ∷ []
put (p ∷ ps) v a = if v == p.0 then (v, a) ∷ ps else (if nat_lt v p.0 then (v, a) ∷ p ∷ ps else p ∷ put ps v a)

-- whether there is no value, or the value equals a
abbrev pub may_be : Option ℕ → ℕ → Bool
may_be None a = true
may_be (Some b) a = b == a

-- whether the value is there and equals a
abbrev pub is_value : Option ℕ → ℕ → Bool
is_value None a = false
is_value (Some b) a = b == a

-- compatible: no variable has different values in the two contexts
abbrev pub compatible : Context → Context → Bool
compatible c x = list_all (λ p. may_be (value_in x p.0) p.1) c

-- part of: the second context names each variable of the first one, with the same value
abbrev pub part_of : Context → Context → Bool
part_of c x = list_all (λ p. is_value (value_in x p.0) p.1) c

-- the pairs of both contexts; a variable of both gets the value of the second one
abbrev pub union : Context → Context → Context
union c x = fold (λ all p. put all p.0 p.1) c x

-- whether a context names all these variables
abbrev pub names_all : Context → List ℕ → Bool
names_all x vs = list_all (λ v. is_some (value_in x v)) vs
