-- What is known about the best assignment of a problem.
use Rattle.std.specs.Prelude.{◌≡◌, ℕ, ◌<◌, ◌≤◌, true, false, Option, Some, None, length}
use Rattle.dcop_base.specs.Problem.{Dcop, IsAssignment, cost}
use Rattle.bound_search.specs.declared.known.Known.{Known}

-- the values that were found are an assignment, and its cost is the best known cost
pub record AreValuesFound (p : Dcop) (known : Known) : Type 0 where
  pub assignment : IsAssignment p known.values
  pub cost : known.best ≡ Some (cost p known.values)

-- there is a value for each variable; if an assignment was found, these values are one, and its cost is the best known cost
pub record IsKnown (p : Dcop) (known : Known) : Type 0 where
  pub many : length known.values ≡ length p.sizes
  pub found : known.found ≡ true → AreValuesFound p known

-- a best known cost is as good as another or better; nothing known is the worst
abbrev pub IsNoWorse : Option ℕ → Option ℕ → Type 0
IsNoWorse new None = Unit {0}
IsNoWorse None (Some old) = ⊥
IsNoWorse (Some new) (Some old) = new ≤ old

-- a best known cost is strictly better than another; nothing known is the worst
abbrev pub IsBelow : Option ℕ → Option ℕ → Type 0
IsBelow None old = ⊥
IsBelow (Some new) None = Unit {0}
IsBelow (Some new) (Some old) = new < old

-- what was known is not lost: the best is equally good or better; what was found is still found; if nothing is found, the best is unchanged; and what is found first is strictly better than what was asked for
pub record KnowsMore (old new : Known) : Type 0 where
  pub best : IsNoWorse new.best old.best
  pub still : old.found ≡ true → new.found ≡ true
  pub same : new.found ≡ false → new.best ≡ old.best
  pub better : old.found ≡ false → new.found ≡ true → IsBelow new.best old.best
