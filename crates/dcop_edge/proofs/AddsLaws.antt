-- Writes one after the other.
use Rattle.std.proofs.Common.{ℕ, ◌+◌, List, ◌++◌, take, drop, Option, Some, None, ap, ◌∙◌, append_assoc, take-add, subst, sym}
use Rattle.dcop_edge.specs.Sink.{Adds}

-- what two writes added is what both wrote
pub Adds-append : (before between now : Option (List ℕ)) (first second : List ℕ) → Adds before first between → Adds between second now → Adds before (first ++ second) now
Adds-append before between None first second p q = tt
Adds-append before None (Some now) first second p q = absurd q
Adds-append None (Some mid) (Some now) first second p q = absurd p
Adds-append (Some text) (Some mid) (Some now) first second p q = q ∙ ap (λ (l : List ℕ). l ++ second) p ∙ append_assoc text first second

-- a text of which the first `at` bytes were written, and then some of the rest
pub Adds-take : (before between now : Option (List ℕ)) (text : List ℕ) (at count : ℕ) → Adds before (take at text) between → Adds between (take count (drop at text)) now
    → Adds before (take (at + count) text) now
Adds-take before between now text at count p q = subst (λ (l : List ℕ). Adds before l now) (sym (take-add at count text)) (Adds-append before between now (take at text) (take count (drop at text)) p q)
