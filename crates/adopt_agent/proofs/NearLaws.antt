-- A neighbour is in the path with the size that is known of it, or it is a lower one.
use Rattle.std.proofs.Common.{◌≡◌, ℕ, zero, suc, ◌<◌, Bool, true, false, not, ◌&&◌, ◌==◌, eqb, nat_lt, List, [], ◌∷◌, length, get_or, Option, Some, None, refl, sym, ap, ap₂, ◌∙◌, arith}
use Rattle.std.specs.List.{position, zip}
use Rattle.std.proofs.lemmas.Bool.{cond-true, cond-false, false≢true}
use Rattle.std.proofs.lemmas.List.Quantifiers.{position-Some}
use Rattle.dcop_base.specs.Table.{has}
use Rattle.dcop_base.specs.declared.knowledge.Private.{Private}
use Rattle.pseudotree.specs.declared.agent.Place.{Place}
use Rattle.adopt_context.specs.Context.{value_in}
use Rattle.protocol_steps.specs.Placing.{IsPlaceFor}
use Rattle.protocol_steps.specs.AdoptRange.{is_within}
use Rattle.adopt_agent.proofs.CountLaws.{found_there}
use Rattle.adopt_agent.proofs.OrderLaws.{has_place}

-- the size beside the first place of a variable
size_beside : (vs ss : List ℕ) (u k e : ℕ) → k < length vs → length ss ≡ length vs → eqb (get_or vs k 0) u ≡ true → ((i : ℕ) → i < k → eqb (get_or vs i 0) u ≡ false) → value_in (zip vs ss) u ≡ Some (get_or ss k e)
size_beside [] ss u k e lt same here before = absurd (omega (arith, lt))
size_beside (v ∷ vs) [] u k e lt same here before = absurd (omega (arith, same))
size_beside (v ∷ vs) (s ∷ ss) u zero e lt same here before = cond-true (eqb v u) (Some s) (value_in (zip vs ss) u) here
size_beside (v ∷ vs) (s ∷ ss) u (suc k) e lt same here before =
    cond-false (eqb v u) (Some s) (value_in (zip vs ss) u) (before zero (omega arith))
    ∙ size_beside vs ss u k e (omega (arith, lt)) (omega (arith, same)) here (λ i low. before (suc i) (omega (arith, low)))

-- what does not stand in a list has no size there
none_beside : (vs ss : List ℕ) (u : ℕ) (o : Option ℕ) → value_in (zip vs ss) u ≡ o → has vs u ≡ false → value_in (zip vs ss) u ≡ None
none_beside vs ss u None e h = e
none_beside vs ss u (Some s) e h = absurd (false≢true (sym h ∙ found_there vs ss u s e))

-- a variable that is no neighbour
pub not_near : (near : List ℕ) (u : ℕ) (b : Bool) → (let no : Bool = false in no) ≡ has near u → (let no : Bool = false in no) ≡ (has near u && b)
not_near near u b none = ap (λ (c : Bool). c && b) none

and_false : (b : Bool) → (b && false) ≡ false
and_false true = refl
and_false false = refl

module _ (own : Private) (place : Place) (placed : IsPlaceFor own place) (u value k : ℕ) (at : Some k ≡ position (λ v. v == u) own.neighbours) where
  near : has own.neighbours u ≡ true
  near = sym (has_place own.neighbours u (Some k) at)

  -- a lower neighbour
  pub near_below : has place.lower u ≡ true → (let no : Bool = false in no) ≡ (has own.neighbours u && is_within (value_in (zip place.path place.path_sizes) u) value)
  near_below lower =
      let out : has place.path u ≡ false = placed.split u near ∙ ap not lower in
      sym (ap (λ (o : Option ℕ). has own.neighbours u && is_within o value) (none_beside place.path place.path_sizes u (value_in (zip place.path place.path_sizes) u) refl out) ∙ and_false (has own.neighbours u))

  -- a neighbour in the path
  pub near_above : (size : ℕ) → length own.neighbour_sizes ≡ length own.neighbours → has place.lower u ≡ false → size ≡ get_or own.neighbour_sizes k 0 → nat_lt value size ≡ (has own.neighbours u && is_within (value_in (zip place.path place.path_sizes) u) value)
  near_above size sized lower is =
      let above : has place.path u ≡ true = placed.split u near ∙ ap not lower in
      let first = position-Some (λ v. v == u) own.neighbours k 0 (sym at) in
      let found : value_in (zip place.path place.path_sizes) u ≡ Some size =
      placed.agree u near above ∙ size_beside own.neighbours own.neighbour_sizes u k 0 first.0 sized first.1 (λ i low. first.2 i low) ∙ ap (λ (s : ℕ). Some s) (sym is) in
      sym (ap₂ (λ (b : Bool) (o : Option ℕ). b && is_within o value) near found)
