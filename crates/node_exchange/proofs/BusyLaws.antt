-- Links of which only a part has something to send.
use Rattle.std.proofs.Common.{◌≡◌, ℕ, zero, suc, ◌+◌, ◌-◌, ◌<◌, ◌≤◌, ◌⊎◌, Bool, true, false, if◌then◌else◌, List, [], ◌∷◌, ◌++◌, map, take, drop, Some, refl, sym, ap, ◌∙◌, inl, inr, arith}
use Rattle.std.specs.List.{flat_map, slice_get}
use Rattle.worker_laws.specs.Cells.{EachAre}
use Rattle.worker_laws.proofs.EachLaws.{each_long, each_back}
use Rattle.node_exchange.specs.Letters.{letter, stream_of}
use Rattle.node_exchange.specs.Passings.{Passing, leads, letters_on, letters_of, frames_of, SamePassing}
use Rattle.node_exchange.proofs.LetterLaws.{frames_are}
use Rattle.node_exchange.specs.Busy.{IsBusyPart}

-- what a function makes of a list is what it makes of a part outside of which it makes nothing
module _ {X A : Type 0} (f : X → List A) where
  front : (end : ℕ) (xs : List X) → ((k : ℕ) (x : X) → slice_get xs k ≡ Some x → end ≤ k → f x ≡ []) → flat_map f (take end xs) ≡ flat_map f xs
  front zero [] none = refl
  front (suc end) [] none = refl
  front zero (x ∷ xs) none = front zero xs (λ k y e le. none (suc k) y e (omega arith)) ∙ sym (ap (λ (ys : List A). ys ++ flat_map f xs) (none 0 x refl (omega arith)))
  front (suc end) (x ∷ xs) none = ap (λ (ys : List A). f x ++ ys) (front end xs (λ k y e le. none (suc k) y e (omega (arith, le))))

  part_sized : (start size : ℕ) (xs : List X) → ((k : ℕ) (x : X) → slice_get xs k ≡ Some x → (k < start) ⊎ (start + size ≤ k) → f x ≡ []) → flat_map f (take size (drop start xs)) ≡ flat_map f xs
  part_sized zero size xs none = front size xs (λ k x e le. none k x e (inr (omega (arith, le))))
  part_sized (suc start) zero [] none = refl
  part_sized (suc start) (suc size) [] none = refl
  part_sized (suc start) size (x ∷ xs) none =
      part_sized start size xs (λ k y e out. none (suc k) y e (elim out [ inl lt ↦ inl (omega (arith, lt)) | inr le ↦ inr (omega (arith, le)) ]))
      ∙ sym (ap (λ (ys : List A). ys ++ flat_map f xs) (none 0 x refl (inl (omega arith))))

  part_whole : (start end : ℕ) (xs : List X) → start ≤ end → ((k : ℕ) (x : X) → slice_get xs k ≡ Some x → (k < start) ⊎ (end ≤ k) → f x ≡ []) → flat_map f (take (end - start) (drop start xs)) ≡ flat_map f xs
  part_whole start end xs order none = part_sized start (end - start) xs (λ k x e out. none k x e (elim out [ inl lt ↦ inl lt | inr le ↦ inr (omega (arith, order, le)) ]))

-- a link of which nothing was drained has no letters
map_nothing : {X A : Type 0} (f : X → A) (test : Bool) (xs : List X) → xs ≡ [] → (if test then map f xs else []) ≡ []
map_nothing f true xs none = ap (map f) none
map_nothing f false xs none = refl

idle_letters : (a b : ℕ) (p : Passing) → p.drained ≡ [] → letters_on a b p ≡ []
idle_letters a b p idle = map_nothing (letter p.from p.to) (leads a b p) p.drained idle

-- the letters of the part are those of all links
pub part_letters : (a b : ℕ) (ps : List Passing) (start end : ℕ) → IsBusyPart ps start end → letters_of a b (take (end - start) (drop start ps)) ≡ letters_of a b ps
part_letters a b ps start end part = part_whole (letters_on a b) start end ps part.order (λ k p e out. idle_letters a b p (part.outside k p e out))

pub part_frames : (a b : ℕ) (ps : List Passing) (start end : ℕ) → IsBusyPart ps start end → frames_of a b (take (end - start) (drop start ps)) ≡ frames_of a b ps
part_frames a b ps start end part = frames_are a b (take (end - start) (drop start ps)) ∙ ap stream_of (part_letters a b ps start end part) ∙ sym (frames_are a b ps)

-- it is one also once letters have arrived
pub still_busy : (ps qs : List Passing) (start end : ℕ) → EachAre SamePassing ps qs → IsBusyPart ps start end → IsBusyPart qs start end
still_busy ps qs start end same part = record {
  order = part.order;
  inside = let long = each_long SamePassing ps qs same in let le = part.inside in omega (arith, long, le);
  outside = λ k q e out. let p = each_back SamePassing ps qs same k q e in p.2.drained ∙ part.outside k p.0 p.1 out;
}

-- of the links before a place, those outside of this part had nothing
pub record IsSeenTo (place : ℕ) (ps : List Passing) (start end : ℕ) : Type 0 where
  pub order : start ≤ end
  pub inside : end ≤ place
  pub outside : (k : ℕ) (p : Passing) → slice_get ps k ≡ Some p → k < place → (k < start) ⊎ (end ≤ k) → p.drained ≡ []
