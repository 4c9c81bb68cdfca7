-- What is done for replies, one step after the other.
use Rattle.std.specs.Prelude.{◌≡◌, ℕ, ◌+◌, Bool, List, [], ◌∷◌}

-- a step: a look for a key, which found its reply or not; or the reply to a key is made
pub data Step : Type 0 where
  Looked : List ℕ → Bool → Step
  Made : List ℕ → Step

module _ {S : Type 0} (does : S → Step → S → Type 0) where
  -- these steps lead from one state to another
  abbrev pub Leads : List Step → S → S → Type 0
  Leads [] a b = b ≡ a
  Leads (step ∷ steps) a b = (c : S) × does a step c × Leads steps c b

-- a step of a maker of which only the count of its calls is known
abbrev pub Counts : ℕ → Step → ℕ → Type 0
Counts a (Looked key found) b = b ≡ a
Counts a (Made key) b = b ≡ a + 1
