-- Relations at each place of two lists, and lists by their places.
use Rattle.std.proofs.Common.{◌≡◌, ℕ, zero, suc, ◌+◌, ◌≤◌, ◌<◌, false, List, [], ◌∷◌, length, Some, None, refl, sym, ap, ap₂, subst, ◌∙◌, inl, inr, arith}
use Rattle.std.specs.List.{All, slice_get, sum_by}
use Rattle.std.proofs.lemmas.Option.{none-some, same_Some, slice_get_cases}
use Rattle.std.proofs.lemmas.List.Sums.{sum_by-cons}
use Rattle.protocol_steps.specs.Stamps.{Deed}
use Rattle.protocol_steps.specs.Deeds.{gained_from}
use Rattle.protocol_steps.specs.View.{ended_of}
use Rattle.worker_laws.specs.Cells.{CellState, known_from, EachAre}
use Rattle.worker_laws.specs.Acts.{moved, IsLater}
use Rattle.worker_laws.specs.Sprints.{TakesFew, IsSprint}

module _ {X Y : Type 0} (R : X → Y → Type 0) where
  pub each_long : (xs : List X) (ys : List Y) → EachAre R xs ys → length xs ≡ length ys
  each_long [] [] h = refl
  each_long [] (y ∷ ys) h = absurd h
  each_long (x ∷ xs) [] h = absurd h
  each_long (x ∷ xs) (y ∷ ys) h = ap suc (each_long xs ys h.1)

  -- what stands at a place of the second list has its like in the first
  pub each_back : (xs : List X) (ys : List Y) → EachAre R xs ys → (i : ℕ) (y : Y) → slice_get ys i ≡ Some y → (x : X) × (slice_get xs i ≡ Some x) × R x y
  each_back [] [] h i y e = absurd (none-some y e)
  each_back [] (z ∷ ys) h i y e = absurd h
  each_back (x ∷ xs) [] h i y e = absurd h
  each_back (x ∷ xs) (z ∷ ys) h zero y e = (x, refl, subst (λ (w : Y). R x w) (same_Some z y e) h.0)
  each_back (x ∷ xs) (z ∷ ys) h (suc i) y e = each_back xs ys h.1 i y e

  pub each_on : (xs : List X) (ys : List Y) → EachAre R xs ys → (i : ℕ) (x : X) → slice_get xs i ≡ Some x → (y : Y) × (slice_get ys i ≡ Some y) × R x y
  each_on [] [] h i x e = absurd (none-some x e)
  each_on [] (z ∷ ys) h i x e = absurd h
  each_on (z ∷ xs) [] h i x e = absurd h
  each_on (z ∷ xs) (y ∷ ys) h zero x e = (y, refl, subst (λ (w : X). R w y) (same_Some z x e) h.0)
  each_on (z ∷ xs) (y ∷ ys) h (suc i) x e = each_on xs ys h.1 i x e

-- an element at each place of a list
pub there : {X : Type 0} (xs : List X) (i : ℕ) → i < length xs → (x : X) × (slice_get xs i ≡ Some x)
there xs i lt = elim (slice_get_cases xs i).1 [ inl found ↦ (found.0, found.2) | inr past ↦ let le = past.0 in absurd (omega (arith, lt, le)) ]

pub past : {X : Type 0} (xs : List X) (i : ℕ) → length xs ≤ i → slice_get xs i ≡ None
past xs i le = elim (slice_get_cases xs i).1 [ inl found ↦ let lt = found.1 in absurd (omega (arith, lt, le)) | inr out ↦ out.1 ]

-- lists with the same at each place are the same
pub same_lists : {X : Type 0} (xs ys : List X) → length xs ≡ length ys → ((i : ℕ) → i < length xs → slice_get xs i ≡ slice_get ys i) → xs ≡ ys
same_lists [] [] long same = refl
same_lists [] (y ∷ ys) long same = absurd (omega (arith, long))
same_lists (x ∷ xs) [] long same = absurd (omega (arith, long))
same_lists (x ∷ xs) (y ∷ ys) long same =
    ap₂ (λ z zs. z ∷ zs) (same_Some x y (same 0 (omega arith))) (same_lists xs ys (omega (arith, long)) (λ i lt. same (suc i) (omega (arith, lt))))

-- lists of which each place counts the same have the same sum
pub same_sums : {X Y : Type 0} (f : X → ℕ) (g : Y → ℕ) (xs : List X) (ys : List Y) → length xs ≡ length ys
    → ((i : ℕ) (x : X) (y : Y) → slice_get xs i ≡ Some x → slice_get ys i ≡ Some y → f x ≡ g y) → sum_by f xs ≡ sum_by g ys
same_sums f g [] [] long same = refl
same_sums f g [] (y ∷ ys) long same = absurd (omega (arith, long))
same_sums f g (x ∷ xs) [] long same = absurd (omega (arith, long))
same_sums f g (x ∷ xs) (y ∷ ys) long same =
    sum_by-cons f x xs ∙ ap₂ (λ (a : ℕ) (b : ℕ). a + b) (same 0 x y refl refl) (same_sums f g xs ys (omega (arith, long)) (λ i u w. same (suc i) u w)) ∙ sym (sum_by-cons g y ys)

-- the activations of cell i in a round
abbrev pub chosen : (visits : ℕ) (xs ys : List CellState) → EachAre (IsSprint visits) xs ys → ℕ → List Deed
chosen visits [] [] h i = []
chosen visits [] (y ∷ ys) h i = []
chosen visits (x ∷ xs) [] h i = []
chosen visits (x ∷ xs) (y ∷ ys) h zero = h.0.deeds
chosen visits (x ∷ xs) (y ∷ ys) h (suc i) = chosen visits xs ys h.1 i

-- a sprint of these activations
pub record SprintBy (visits : ℕ) (before : CellState) (ds : List Deed) (after : CellState) : Type 0 where
  pub later : IsLater before ds after
  pub few : length ds ≤ visits
  pub bounded : All TakesFew ds
  pub served : ended_of before.view ≡ false → (j : ℕ) → known_from j before.known ≤ length (gained_from j (moved before ds).gains)

pub chosen_at : (visits : ℕ) (xs ys : List CellState) (h : EachAre (IsSprint visits) xs ys) (i : ℕ) (x y : CellState) → slice_get xs i ≡ Some x → slice_get ys i ≡ Some y
    → SprintBy visits x (chosen visits xs ys h i) y
chosen_at visits [] [] h i x y e f = absurd (none-some x e)
chosen_at visits [] (b ∷ ys) h i x y e f = absurd h
chosen_at visits (a ∷ xs) [] h i x y e f = absurd h
chosen_at visits (a ∷ xs) (b ∷ ys) h zero x y e f =
    subst (λ (w : CellState). SprintBy visits w h.0.deeds y) (same_Some a x e)
    (subst (λ (w : CellState). SprintBy visits a h.0.deeds w) (same_Some b y f) (record { later = h.0.later; few = h.0.few; bounded = h.0.bounded; served = h.0.served }))
chosen_at visits (a ∷ xs) (b ∷ ys) h (suc i) x y e f = chosen_at visits xs ys h.1 i x y e f

pub chosen_past : (visits : ℕ) (xs ys : List CellState) (h : EachAre (IsSprint visits) xs ys) (i : ℕ) → length xs ≤ i → chosen visits xs ys h i ≡ []
chosen_past visits [] [] h i le = refl
chosen_past visits [] (y ∷ ys) h i le = refl
chosen_past visits (x ∷ xs) [] h i le = refl
chosen_past visits (x ∷ xs) (y ∷ ys) h zero le = absurd (omega (arith, le))
chosen_past visits (x ∷ xs) (y ∷ ys) h (suc i) le = chosen_past visits xs ys h.1 i (omega (arith, le))
