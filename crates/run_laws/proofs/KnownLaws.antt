-- What a context gives without one of its variables.
use Rattle.std.proofs.Common.{◌≡◌, ℕ, Bool, false, cond, not, eqb, ◌==◌, [], ◌∷◌, Option, Some, refl, sym, ap, ◌∙◌}
use Rattle.std.proofs.lemmas.Bool.{cond_both, ne_eqb, not_from_false, false≢true}
use Rattle.adopt_context.specs.Context.{Context, value_in}
use Rattle.protocol_steps.specs.AdoptCost.{without}

-- without a variable a context gives the others their values
pub value_without : (c : Context) (u v : ℕ) → (v ≡ u → ⊥) → value_in (without u c) v ≡ value_in c v
value_without [] u v ne = refl
value_without (p ∷ ps) u v ne =
    cond_both (not (p.0 == u)) (p ∷ without u ps) (without u ps) (λ c. value_in c v ≡ value_in (p ∷ ps) v)
    (λ e. ap (λ (o : Option ℕ). cond (eqb p.0 v) (Some p.1) o) (value_without ps u v ne))
    (λ e. value_without ps u v ne ∙ sym (ap (λ (b : Bool). cond b (Some p.1) (value_in ps v)) (ne_eqb p.0 v (λ same. gone p.0 u e (λ k. ne (sym same ∙ k))))))
  where
    gone : (a u : ℕ) → not (eqb a u) ≡ false → (a ≡ u → ⊥) → ⊥
    gone a u e ne = false≢true (sym e ∙ not_from_false (eqb a u) (ne_eqb a u ne))
