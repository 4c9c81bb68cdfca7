-- Names under a map: what is tested of each text is tested of its bytes.
use Rattle.std.proofs.Common.{◌≡◌, ℕ, ◌+◌, Bool, true, false, cond, not, ◌||◌, List, [], ◌∷◌, ◌++◌, map, length, position, if◌then◌else◌, refl, ap, suc}
use Rattle.std.specs.List.{list_any, prefix_len, AllByRecursion, IsDistinct}
use Rattle.std.specs.Str.{bytes_eq}
use Rattle.std.specs.Cmp.Lexicographic.{nat_list_eq_equiv}
use Rattle.std.proofs.lemmas.List.{map-append}
use Rattle.std.proofs.lemmas.Map.Keys.{IsDistinct-push}
use Rattle.indexmap.specs.IndexSet.{insert_key}
use Rattle.problem_text.specs.Names.{with_name}

module _ {A B : Type 0} (g : A → B) where
  -- a test of mapped elements
  pub list_any-map : (p : B → Bool) (xs : List A) → list_any p (map g xs) ≡ list_any (λ x. p (g x)) xs
  list_any-map p [] = refl
  list_any-map p (x ∷ xs) = ap (λ b. p (g x) || b) (list_any-map p xs)

  pub prefix_len-map : (p : B → Bool) (xs : List A) → prefix_len p (map g xs) ≡ prefix_len (λ x. p (g x)) xs
  prefix_len-map p [] = refl
  prefix_len-map p (x ∷ xs) = ap (λ n. cond (p (g x)) (1 + n) 0) (prefix_len-map p xs)

  pub length-map : (xs : List A) → length (map g xs) ≡ length xs
  length-map [] = refl
  length-map (x ∷ xs) = ap (λ n. suc n) (length-map xs)

  -- the place of a mapped element
  pub position-map : (p : B → Bool) (xs : List A) → position p (map g xs) ≡ position (λ x. p (g x)) xs
  position-map p xs = rw (prefix_len-map (λ x. not (p x)) xs, length-map xs) refl

  -- distinct mapped elements
  pub IsDistinct-map : (e : B → B → Bool) (xs : List A) → IsDistinct (λ x y. e (g x) (g y)) xs → IsDistinct e (map g xs)
  unfolding IsDistinct
  IsDistinct-map e [] h = h
  IsDistinct-map e (x ∷ xs) h = (all xs h.0, IsDistinct-map e xs h.1)
    where
      all : (ys : List A) → AllByRecursion (λ y. e (g x) (g y) ≡ false) ys → AllByRecursion (λ y. e (g x) y ≡ false) (map g ys)
      all [] t = t
      all (y ∷ ys) t = (t.0, all ys t.1)

  -- one more name, mapped
  pub map-insert_key : (e : B → B → Bool) (ks : List A) (k : A)
      → map g (insert_key (λ x y. e (g x) (g y)) ks k) ≡ (if list_any (e (g k)) (map g ks) then map g ks else map g ks ++ (g k ∷ []))
  map-insert_key e ks k = rw (list_any-map (e (g k)) ks) (by (list_any (λ x. e (g k) (g x)) ks))
    where
      by : (b : Bool) → map g (cond b ks (ks ++ (k ∷ []))) ≡ cond b (map g ks) (map g ks ++ (g k ∷ []))
      by true = refl
      by false = map-append g ks (k ∷ [])

-- distinct names stay so with one more
pub IsDistinct-with_name : (names : List (List ℕ)) (name : List ℕ) → IsDistinct bytes_eq names → IsDistinct bytes_eq (with_name names name)
IsDistinct-with_name names name h = by (list_any (bytes_eq name) names) refl
  where
    by : (b : Bool) → list_any (bytes_eq name) names ≡ b → IsDistinct bytes_eq (if b then names else names ++ (name ∷ []))
    by true e = h
    by false e = IsDistinct-push nat_list_eq_equiv names name h e
