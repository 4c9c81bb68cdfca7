-- Tests that tell whether two pairs are the same.
use Rattle.std.proofs.Common.{◌≡◌, ℕ, Bool, true, ◌==◌, ◌&&◌, refl, ap₂, subst}
use Rattle.std.specs.Bool.{Decides}
use Rattle.std.proofs.lemmas.Bool.{and_parts, eqb-true, eq-eqb}

pub pairs_decide : (a b : ℕ × ℕ) → Decides (a.0 == b.0 && a.1 == b.1) (a ≡ b)
pairs_decide a b = (λ h. same h, λ e. again e)
  where
    same : (a.0 == b.0 && a.1 == b.1) ≡ true → a ≡ b
    same h = let parts = and_parts (a.0 == b.0) (a.1 == b.1) h in ap₂ (λ (x : ℕ) (y : ℕ). (x, y)) (eqb-true a.0 b.0 parts.0) (eqb-true a.1 b.1 parts.1)

    again : a ≡ b → (a.0 == b.0 && a.1 == b.1) ≡ true
    again e = subst (λ (c : ℕ × ℕ). (a.0 == c.0 && a.1 == c.1) ≡ true) e (ap₂ (λ (x : Bool) (y : Bool). x && y) (eq-eqb a.0 a.0 refl) (eq-eqb a.1 a.1 refl))
