-- Lists that are gone through from their ends.
use Rattle.std.proofs.Common.{◌≡◌, ℕ, ◌+◌, ◌<◌, false, eqb, List, [], ◌∷◌, length, drop, get_or, Some, None, refl, sym, ap, ◌∙◌}
use Rattle.std.specs.List.{zip}
use Rattle.std.proofs.lemmas.Bool.{cond-false, or_parts, or_from}
use Rattle.std.proofs.lemmas.List.{drop_more}
use Rattle.dcop_base.specs.Table.{has}
use Rattle.adopt_context.specs.Context.{value_in}

-- no size stands beside a variable that is none of these
pub none_beside : (vs ss : List ℕ) (u : ℕ) → has vs u ≡ false → value_in (zip vs ss) u ≡ None
none_beside [] ss u h = refl
none_beside (v ∷ vs) [] u h = refl
none_beside (v ∷ vs) (s ∷ ss) u h =
    let parts = or_parts (eqb v u) (has vs u) h in
    cond-false (eqb v u) (Some s) (value_in (zip vs ss) u) parts.0 ∙ none_beside vs ss u parts.1

-- one more from the end is another one
pub none_from : (vs : List ℕ) (k v u : ℕ) → k < length vs → v ≡ get_or vs k v → eqb v u ≡ false → has (drop (k + 1) vs) u ≡ false → has (drop k vs) u ≡ false
none_from vs k v u lt is other rest =
    ap (λ (ws : List ℕ). has ws u) (drop_more vs k v lt)
    ∙ or_from (eqb (get_or vs k v) u) (has (drop (k + 1) vs) u) (ap (λ (w : ℕ). eqb w u) (sym is) ∙ other) rest
