-- The lowest link that has not held, with one link more.
use Rattle.std.proofs.Common.{◌≡◌, ◌≢◌, ℕ, ◌+◌, ◌<◌, ◌==◌, inl, inr, List, length, Option, Some, None, get_or, refl, sym, subst, ◌∙◌, arith}
use Rattle.std.specs.List.{slice_get}
use Rattle.std.proofs.lemmas.Bool.{cases_Bool, eqb-true, eq-eqb, true≢false}
use Rattle.std.proofs.lemmas.Option.{get_or_from_slice_get, slice_get_read}
use Rattle.worker_laws.specs.Wires.{Wire, HasHeld}
use Rattle.link_records.specs.Differences.{IsLowerLink}
use Rattle.link_records.specs.Found.{IsLowest, IsLowestOf}

before_itself : (w : Wire) → IsLowerLink w w → ⊥
before_itself w (inl lower) = omega (arith, lower)
before_itself w (inr same) = let lower = same.1 in omega (arith, lower)

before_then : (u v w : Wire) → IsLowerLink u v → IsLowerLink v w → IsLowerLink u w
before_then u v w (inl a) (inl b) = inl (omega (arith, a, b))
before_then u v w (inl a) (inr b) = inl (subst (λ (k : ℕ). u.sender < k) b.0 a)
before_then u v w (inr a) (inl b) = inl (subst (λ (k : ℕ). k < w.sender) (sym a.0) b)
before_then u v w (inr a) (inr b) = let one = a.1 in let other = b.1 in inr (a.0 ∙ b.0, omega (arith, one, other))

-- what is so of the first links, and of the next
one_more : (P : Wire → Type 0) (ws : List Wire) (count : ℕ) (w : Wire) → w ≡ get_or ws count w → ((k : ℕ) (v : Wire) → k < count → slice_get ws k ≡ Some v → P v) → P w
    → (k : ℕ) (v : Wire) → k < count + 1 → slice_get ws k ≡ Some v → P v
one_more P ws count w is before own k v within at = elim (cases_Bool (k == count)) [
  | inl last ↦ subst P (is ∙ get_or_from_slice_get ws count v w (subst (λ (n : ℕ). slice_get ws n ≡ Some v) (eqb-true k count last) at)) own
  | inr not_last ↦
      let apart : k ≢ count = λ e. true≢false (sym (eq-eqb k count e) ∙ not_last) in
      before k v (omega (arith, within, apart)) at
]

module _ (ws : List Wire) (count : ℕ) (w : Wire) (is : w ≡ get_or ws count w) where
  -- the next has held
  pub held_too : (lowest : Option ℕ) → HasHeld w → IsLowestOf ws count lowest → IsLowestOf ws (count + 1) lowest
  held_too None held all = one_more HasHeld ws count w is all held
  held_too (Some link) held l =
      let within = l.within in
      record {
        wire = l.wire;
        within = omega (arith, within);
        is = l.is;
        differs = l.differs;
        lowest = one_more (λ (v : Wire). IsLowerLink v l.wire → HasHeld v) ws count w is l.lowest (λ before. held);
      }

  -- it does not come before
  pub lowest_yet : (link : ℕ) (u : Wire) → u ≡ get_or ws link u → (IsLowerLink w u → ⊥) → IsLowest ws count link → IsLowest ws (count + 1) link
  lowest_yet link u at behind l =
      let within = l.within in
      let same : u ≡ l.wire = at ∙ get_or_from_slice_get ws link l.wire u l.is in
      record {
        wire = l.wire;
        within = omega (arith, within);
        is = l.is;
        differs = l.differs;
        lowest = one_more (λ (v : Wire). IsLowerLink v l.wire → HasHeld v) ws count w is l.lowest (λ before. absurd (behind (subst (λ (v : Wire). IsLowerLink w v) (sym same) before)));
      }

  -- it has not held, and comes before
  pub lower : (link : ℕ) (u v : Wire) → count < length ws → (HasHeld w → ⊥) → u ≡ get_or ws link u → v ≡ get_or ws count v → IsLowerLink v u → IsLowest ws count link → IsLowest ws (count + 1) count
  lower link u v inside differs at again before l =
      let here : slice_get ws count ≡ Some w = slice_get_read ws (length ws) count w refl inside is in
      let same : u ≡ l.wire = at ∙ get_or_from_slice_get ws link l.wire u l.is in
      let one : v ≡ w = again ∙ get_or_from_slice_get ws count w v here in
      let first : IsLowerLink w l.wire = subst (λ (x : Wire). IsLowerLink x l.wire) one (subst (λ (x : Wire). IsLowerLink v x) same before) in
      record {
        wire = w;
        within = omega arith;
        is = here;
        differs = differs;
        lowest = one_more (λ (x : Wire). IsLowerLink x w → HasHeld x) ws count w is (λ k x low found b. l.lowest k x low found (before_then x w l.wire b first)) (λ b. absurd (before_itself w b));
      }

  -- it is the first that has not held
  pub lowest_first : count < length ws → (HasHeld w → ⊥) → IsLowestOf ws count None → IsLowest ws (count + 1) count
  lowest_first inside differs all = record {
    wire = w;
    within = omega arith;
    is = slice_get_read ws (length ws) count w refl inside is;
    differs = differs;
    lowest = one_more (λ (v : Wire). IsLowerLink v w → HasHeld v) ws count w is (λ k v low at b. all k v low at) (λ b. absurd (before_itself w b));
  }
