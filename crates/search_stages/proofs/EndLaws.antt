-- How a search ended, by whether it is spent.
use Rattle.std.proofs.Common.{◌≡◌, ℕ, Bool, true, false, sym, ◌∙◌, inl, inr}
use Rattle.bound_search.specs.Searched.{HasSearchEnded, IsSpent, EndsSo}
use Rattle.bound_search.specs.declared.known.Known.{Known}
use Rattle.bound_search.specs.declared.searching.Ended.{Ended}

pub not_both : (b : Bool) → b ≡ false → b ≡ true → ⊥
not_both b none some = let both = sym none ∙ some in cc

-- a search that has ended is not spent
pub has_ended : (error budget : ℕ) (known : Known) (ended : Ended) → EndsSo error budget known ended → ended.spent ≡ false → HasSearchEnded error known ended.lower
has_ended error budget known ended ends none = elim ends [
  | inl done ↦ done.1
  | inr spent ↦ absurd (not_both ended.spent none spent.0)
]

pub has_spent : (error budget : ℕ) (known : Known) (ended : Ended) → EndsSo error budget known ended → ended.spent ≡ true → IsSpent budget known
has_spent error budget known ended ends spent = elim ends [
  | inl done ↦ absurd (not_both ended.spent done.0 spent)
  | inr reached ↦ reached.1
]
