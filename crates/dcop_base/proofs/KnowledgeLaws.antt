-- Laws of filters over the variables of a problem.
use Rattle.std.proofs.Common.{true, false, take, ◌≡◌, ℕ, zero, suc, ◌+◌, ◌<◌, Bool, cond, List, [], ◌∷◌, ◌++◌, length, get_or, refl, sym, ap, ◌∙◌, subst, add-one, arith}
use Rattle.std.specs.List.{All, filter, range_with_len}
use Rattle.std.proofs.lemmas.List.{map-id, take_at, append-nil}
use Rattle.std.proofs.lemmas.List.FromFn.{filter_of_map_range_with_len_more, length-range_with_len, get_or-range_with_len}
use Rattle.std.proofs.lemmas.List.Elements.{All-filter}

-- one more number of a filtered range
pub filter_range_more : (p : ℕ → Bool) (n : ℕ) → filter p (range_with_len 0 (n + 1)) ≡ filter p (range_with_len 0 n) ++ cond (p n) (n ∷ []) []
filter_range_more p n =
    let more = filter_of_map_range_with_len_more p (λ (k : ℕ). k) 0 n n (omega arith) in
    rw (map-id (range_with_len 0 (n + 1)), map-id (range_with_len 0 n)) at more

-- tests that agree below a number keep the same numbers
pub filter-range-agree : (p q : ℕ → Bool) (n : ℕ) → ((v : ℕ) → v < n → p v ≡ q v) → filter p (range_with_len 0 n) ≡ filter q (range_with_len 0 n)
filter-range-agree p q zero h = refl
filter-range-agree p q (suc n) h =
    let rest = filter-range-agree p q n (λ v lt. h v (omega arith)) in
    let last = ap (λ b. cond b (n ∷ []) []) (h n (omega arith)) in
    subst (λ (m : ℕ). filter p (range_with_len 0 m) ≡ filter q (range_with_len 0 m)) (add-one n)
    (filter_range_more p n ∙ ap (λ xs. xs ++ cond (p n) (n ∷ []) []) rest ∙ ap (λ ys. filter q (range_with_len 0 n) ++ ys) last ∙ sym (filter_range_more q n))

-- a filtered range is below its end
pub All-filter-range : (p : ℕ → Bool) (n : ℕ) → All (λ v. v < n) (filter p (range_with_len 0 n))
All-filter-range p n = All-filter p (λ v. v < n) (range_with_len 0 n) below
  where
    below : All (λ v. v < n) (range_with_len 0 n)
    below k d h =
        let lt : k < n = rw (← (length-range_with_len 0 n)) h in
        let e = get_or-range_with_len 0 n k d lt in
        omega arith

-- the marks that stand in a Vec after they were written are those that were written
pub filter-marks : (f : ℕ → Bool) (len count : ℕ) (marks new rest : List Bool) → marks ≡ take len (new ++ rest) → length new ≡ count → len ≡ count → ((v : ℕ) → v < count → get_or new v false ≡ f v) → filter (λ v. get_or marks v false) (range_with_len 0 (length marks)) ≡ filter f (range_with_len 0 count)
filter-marks f len count marks new rest e many same h =
    let whole : marks ≡ new = e ∙ take_at new rest len (many ∙ sym same) in
    let first = ap (λ (bs : List Bool). filter (λ v. get_or bs v false) (range_with_len 0 (length bs))) whole in
    let second = ap (λ n. filter (λ v. get_or new v false) (range_with_len 0 n)) many in
    first ∙ second ∙ filter-range-agree (λ v. get_or new v false) f count h

-- one more marked variable, and one more that is not marked
pub marked-more : (marks : List Bool) (k : ℕ) (old new : List ℕ) → old ≡ filter (λ v. get_or marks v false) (range_with_len 0 k) → get_or marks k false ≡ true → new ≡ old ++ (k ∷ []) → new ≡ filter (λ v. get_or marks v false) (range_with_len 0 (k + 1))
marked-more marks k old new e h n =
    n ∙ ap (λ xs. xs ++ (k ∷ [])) e
    ∙ ap (λ b. filter (λ v. get_or marks v false) (range_with_len 0 k) ++ cond b (k ∷ []) []) (sym h)
    ∙ sym (filter_range_more (λ v. get_or marks v false) k)

pub marked-same : (marks : List Bool) (k : ℕ) (old new : List ℕ) → old ≡ filter (λ v. get_or marks v false) (range_with_len 0 k) → get_or marks k false ≡ false → new ≡ old → new ≡ filter (λ v. get_or marks v false) (range_with_len 0 (k + 1))
marked-same marks k old new e h n =
    n ∙ e ∙ sym (append-nil (filter (λ v. get_or marks v false) (range_with_len 0 k)))
    ∙ ap (λ b. filter (λ v. get_or marks v false) (range_with_len 0 k) ++ cond b (k ∷ []) []) (sym h)
    ∙ sym (filter_range_more (λ v. get_or marks v false) k)
