-- Contexts that differ in the value of one variable: a table that does not name it counts in both or in none, at the same values.
use Rattle.std.proofs.Common.{◌≡◌, ℕ, Bool, false, cond, ◌&&◌, ◌||◌, eqb, List, [], ◌∷◌, map, Option, is_some, refl, sym, ap₂}
use Rattle.std.specs.List.{list_all}
use Rattle.std.proofs.lemmas.Bool.{or_parts}
use Rattle.dcop_base.specs.Table.{has}
use Rattle.dcop_base.specs.Values.{with_own}
use Rattle.dcop_base.specs.declared.knowledge.Private.{Private}
use Rattle.pseudotree.specs.declared.agent.Place.{Place}
use Rattle.adopt_context.specs.Context.{Context, value_in, or_zero}
use Rattle.protocol_steps.specs.Values.{valued}
use Rattle.adopt_agent.specs.Costs.{Differ}

module _ (own : Private) (place : Place) (before known : Context) (v : ℕ) (others : Differ before known v) where
  abbrev is_settled : Context → ℕ → Bool
  is_settled c u = eqb u own.me || (has place.path u && is_some (value_in c u))

  pub all_settled : (us : List ℕ) → has us v ≡ false → list_all (is_settled known) us ≡ list_all (is_settled before) us
  all_settled [] h = refl
  all_settled (u ∷ us) h =
      let both = or_parts (eqb u v) (has us v) h in
      ap₂ (λ (o : Option ℕ) (b : Bool). (eqb u own.me || (has place.path u && is_some o)) && b) (others u both.0) (all_settled us both.1)

  pub values_same : (d : ℕ) (us : List ℕ) → has us v ≡ false → map (with_own own.me d (valued before)) us ≡ map (with_own own.me d (valued known)) us
  values_same d [] h = refl
  values_same d (u ∷ us) h =
      let both = or_parts (eqb u v) (has us v) h in
      ap₂ (λ (o : Option ℕ) (xs : List ℕ). cond (eqb u own.me) d (or_zero o) ∷ xs) (sym (others u both.0)) (values_same d us both.1)
