-- The sizes beside the variables of a path, and what fits them is within the ranges of a message.
use Rattle.std.proofs.Common.{◌≡◌, ℕ, ◌<◌, true, cond, eqb, nat_lt, ◌==◌, List, [], ◌∷◌, Option, Some, sym, ap, subst, ◌∙◌, inl, inr, arith}
use Rattle.std.specs.List.{All, zip}
use Rattle.std.proofs.lemmas.Bool.{cases_Bool, cond_both, cond-true, cond-false, and_parts, eqb-true, ltb-true, false≢true}
use Rattle.std.proofs.lemmas.List.Elements.{All-nil, All-cons, All-head, All-tail}
use Rattle.dcop_base.specs.declared.knowledge.Private.{Private}
use Rattle.dcop_base.specs.Limits.{variable_limit, size_limit}
use Rattle.pseudotree.specs.declared.agent.Place.{Place}
use Rattle.adopt_context.specs.Context.{Context, value_in, put}
use Rattle.protocol_steps.specs.Knowledge.{IsSize}
use Rattle.protocol_steps.specs.Ranges.{IsContext}
use Rattle.protocol_steps.specs.AdoptRange.{is_within, in_range, fits}
use Rattle.adopt_agent.specs.Stage.{knowing}
use Rattle.adopt_agent.specs.Sound.{IsAdoptGround}

-- a variable and a value within the ranges of a message
abbrev pub InRanges : ℕ × ℕ → Type 0
InRanges p = (p.0 < variable_limit) × (p.1 < size_limit)

pair_range : (vs ss : List ℕ) (u d : ℕ) → All (λ u. u < variable_limit) vs → All IsSize ss → is_within (value_in (zip vs ss) u) d ≡ true → InRanges (u, d)
pair_range [] ss u d below sizes h = absurd (false≢true h)
pair_range (v ∷ vs) [] u d below sizes h = absurd (false≢true h)
pair_range (v ∷ vs) (s ∷ ss) u d below sizes h = elim (cases_Bool (eqb v u)) [
  | inl here ↦
      let low = ltb-true d s (sym (ap (λ (o : Option ℕ). is_within o d) (cond-true (eqb v u) (Some s) (value_in (zip vs ss) u) here)) ∙ h) in
      let most = (All-head IsSize s ss sizes).1 in
      (subst (λ (w : ℕ). w < variable_limit) (eqb-true v u here) (All-head (λ w. w < variable_limit) v vs below), omega (arith, low, most))
  | inr other ↦
      pair_range vs ss u d (All-tail (λ w. w < variable_limit) v vs below) (All-tail IsSize s ss sizes)
      (sym (ap (λ (o : Option ℕ). is_within o d) (cond-false (eqb v u) (Some s) (value_in (zip vs ss) u) other)) ∙ h)
]

-- a context that fits the path is within the ranges of a message
pub fits_context : (own : Private) (place : Place) (known : Context) → IsAdoptGround own place known → (c : Context) → fits (knowing own place known) c ≡ true → IsContext c
fits_context own place known ground [] h = All-nil InRanges
fits_context own place known ground (p ∷ ps) h =
    let both = and_parts (in_range (knowing own place known) p.0 p.1) (fits (knowing own place known) ps) h in
    All-cons InRanges p ps
    (pair_range place.path place.path_sizes p.0 p.1 ground.placed.path.below ground.placed.path.sizes both.0)
    (fits_context own place known ground ps both.1)

pub put_range : (c : Context) (v a : ℕ) → IsContext c → v < variable_limit → a < size_limit → IsContext (put c v a)
put_range [] v a all low small = All-cons InRanges (v, a) [] (low, small) (All-nil InRanges)
put_range (p ∷ ps) v a all low small =
    let one = All-head InRanges p ps all in
    let rest = All-tail InRanges p ps all in
    cond_both (v == p.0) ((v, a) ∷ ps) (cond (nat_lt v p.0) ((v, a) ∷ p ∷ ps) (p ∷ put ps v a)) IsContext
    (λ _. All-cons InRanges (v, a) ps (low, small) rest)
    (λ _. cond_both (nat_lt v p.0) ((v, a) ∷ p ∷ ps) (p ∷ put ps v a) IsContext
    (λ _. All-cons InRanges (v, a) (p ∷ ps) (low, small) all)
    (λ _. All-cons InRanges p (put ps v a) one (put_range ps v a rest low small)))
