-- The cost of an own value if all higher neighbours are known, and contexts that are alike or grow.
use Rattle.std.specs.Prelude.{◌≡◌, ℕ, Bool, true, false, not, ◌&&◌, ◌||◌, List, [], ◌∷◌, Option, Some, None, ◌==◌, slice_index, if◌then◌else◌}
use Rattle.dcop_base.specs.Table.{has}
use Rattle.adopt_context.specs.Context.{Context, value_in}

-- the cost of an own value; none if not all higher neighbours are known
abbrev pub cost_where : Bool → List ℕ → ℕ → Option ℕ
cost_where knows_higher costs d = if knows_higher then Some (slice_index costs d) else None

-- contexts that differ at most in the value of the variable u
abbrev pub Differ : Context → Context → ℕ → Type 0
Differ before known u = (w : ℕ) → (w == u) ≡ false → value_in known w ≡ value_in before w

-- the second context gives all variables but u the same values as the first, which does not name u
pub record IsGrown (before known : Context) (u : ℕ) : Type 0 where
  pub unnamed : value_in before u ≡ None
  pub others : Differ before known u

-- whether two contexts name the same variables and differ at most in the values of variables that are not in this list
abbrev pub is_alike : List ℕ → Context → Context → Bool
is_alike vars [] [] = true
is_alike vars [] (q ∷ qs) = false
is_alike vars (p ∷ ps) [] = false
is_alike vars (p ∷ ps) (q ∷ qs) = p.0 == q.0 && ((p.1 == q.1 || not (has vars p.0)) && is_alike vars ps qs)
