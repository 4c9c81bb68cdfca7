-- Laws of rows that are added one after the other, and of copies of a row.
use Rattle.std.proofs.Common.{◌≡◌, ℕ, zero, suc, ◌+◌, ◌*◌, ◌-◌, ◌/◌, ◌%◌, ◌<◌, ◌≤◌, List, [], ◌∷◌, length, get_or, set, refl, sym, ap, ◌∙◌, inl, inr, arith}
use Rattle.std.specs.List.{All}
use Rattle.std.proofs.Math.Nat.{mul_assoc}
use Rattle.std.proofs.lemmas.Bool.{cases_lt}
use Rattle.std.proofs.lemmas.Nat.{div-add-mod', mod-mul-add, mod_below}
use Rattle.std.proofs.lemmas.Grind.{get_or_default_zero}
use Rattle.std.proofs.lemmas.List.{get_or-set_same, get_or-set_other}
use Rattle.std.proofs.lemmas.Simd.{get_or-chunk, length-chunk}
use borrow.Rule.Slice.PartMut.{put_mid, mid_of}
use Rattle.dcop_base.specs.Limits.{amount_limit}
use Rattle.util_kernel.specs.Lanes.{plus}
use Rattle.util_join.specs.Strides.{along, IsRowSum, AreRowSums}
use Rattle.util_join.proofs.BlockLaws.{put-below, put-in, put-above, length-put, all-put}
use Rattle.util_join.proofs.RowLaws.{mod-more}

-- rows of which the first are done, whose cells are so many
pub record AreDone (from : List ℕ) (width step done : ℕ) (old new : List ℕ) : Type 0 where
  pub count : length new ≡ length old
  pub small : All (λ n. n ≤ amount_limit) new
  pub cells : (p : ℕ) → p < done → get_or new p 0 ≡ plus (get_or old p 0) (get_or from (along width step p) 0)
  pub rest : (p : ℕ) → done ≤ p → get_or new p 0 ≡ get_or old p 0

-- none done, and all
pub done-none : (from : List ℕ) (width step : ℕ) (old : List ℕ) → All (λ n. n ≤ amount_limit) old → AreDone from width step 0 old old
done-none from width step old small = record { count = refl; small = small; cells = λ p h. absurd (omega arith); rest = λ p h. refl }

pub done-all : (from : List ℕ) (width step done : ℕ) (old new : List ℕ) → done ≡ length old → AreDone from width step done old new → AreRowSums from width step old new
done-all from width step done old new e part = record { count = part.count; small = part.small; cells = λ p h. part.cells p (omega (arith, e)) }

-- one more row, of which only a first part may be there
pub done-more : (from : List ℕ) (width step rows at size next : ℕ) (old now part : List ℕ) → at ≡ rows * width → size ≤ width → next ≡ at + size → next ≤ length old → AreDone from width step at old now → IsRowSum from step (mid_of at size now) part → AreDone from width step next old (put_mid at size now part)
done-more from width step rows at size next old now part at-is short next-is room so_far row =
    let fits : at + size ≤ length now = omega (arith, so_far.count, next-is) in
    let long : length (mid_of at size now) ≡ size = length-chunk at size now fits in
    let count : length part ≡ size = row.count ∙ long in
    record {
      count = length-put at size now part count fits ∙ so_far.count;
      small = all-put (λ n. n ≤ amount_limit) at size now part so_far.small row.small;
      rest = λ p h. put-above at size now part p count fits (omega (arith, next-is)) ∙ so_far.rest p (omega (arith, next-is));
      cells = λ p h. elim (cases_lt p at) [
        | inl earlier ↦ put-below at size now part p earlier (omega arith) ∙ so_far.cells p earlier
        | inr later ↦ (
            let j = p - at in
            let here : at + j ≡ p = omega arith in
            let inside : j < size = omega (arith, next-is) in
            let place : p % width ≡ j = ap (λ n. n % width) (sym here ∙ ap (λ n. n + j) at-is) ∙ mod-mul-add rows width j (omega (arith, inside, short)) in
            let before : get_or (mid_of at size now) j 0 ≡ get_or old p 0 = get_or-chunk at size now j 0 inside ∙ ap (λ i. get_or now i 0) here ∙ so_far.rest p later in
            put-in at size now part j p here (omega (arith, count, inside)) (omega arith)
            ∙ row.cells j (omega (arith, long, inside))
            ∙ ap (λ a. plus a (get_or from (step * j) 0)) before
            ∙ ap (λ n. plus (get_or old p 0) (get_or from (step * n) 0)) (sym place))
      ];
    }

past-end : (xs : List ℕ) (k : ℕ) → length xs ≤ k → get_or xs k 0 ≡ 0
past-end [] k h = refl
past-end (x ∷ xs) zero h = absurd (omega arith)
past-end (x ∷ xs) (suc k) h = past-end xs k (omega arith)

-- one more amount that is copied: from the row itself, or from the copy before
pub copied-more : (from copies : List ℕ) (width step k v : ℕ) → k < length copies → v ≡ get_or from (along width step k) 0 → ((q : ℕ) → q < k → get_or copies q 0 ≡ get_or from (along width step q) 0) → (q : ℕ) → q < k + 1 → get_or (set copies k v) q 0 ≡ get_or from (along width step q) 0
copied-more from copies width step k v inside is so_far q h = elim (cases_lt q k) [
  | inl earlier ↦ get_or-set_other copies k q v 0 (λ e. omega (arith, e, earlier)) ∙ so_far q earlier
  | inr later ↦ (
      let same : q ≡ k = omega arith in
      ap (λ i. get_or (set copies k v) i 0) same ∙ get_or-set_same copies k v 0 inside ∙ is ∙ ap (λ i. get_or from (along width step i) 0) (sym same))
]

pub copied-again : (from copies : List ℕ) (width step k : ℕ) → 1 ≤ width → width ≤ k → ((q : ℕ) → q < k → get_or copies q 0 ≡ get_or from (along width step q) 0) → get_or copies (k - width) 0 ≡ get_or from (along width step k) 0
copied-again from copies width step k some least so_far =
    let split : 1 * width + (k - width) ≡ k = omega arith in
    let place : (k - width) % width ≡ k % width = sym (mod-more 1 width (k - width) some) ∙ ap (λ n. n % width) split in
    so_far (k - width) (omega arith) ∙ ap (λ n. get_or from (step * n) 0) place

-- amounts that are copies of a row: no copy is above what no amount of the row is above, and adding them adds the row
pub copies-small : (m : ℕ) (from copies : List ℕ) (width step room : ℕ) → length copies ≡ room → ((p : ℕ) → p < room → get_or copies p 0 ≡ get_or from (along width step p) 0) → All (λ n. n ≤ m) from → All (λ n. n ≤ m) copies
copies-small m from copies width step room long copied all = λ p d h.
    let is = get_or_default_zero copies p d h ∙ copied p (omega (arith, long)) in
    elim (cases_lt (along width step p) (length from)) [
      | inl inside ↦ (let low = all (along width step p) 0 inside in omega (arith, is, low))
      | inr outside ↦ (let none = past-end from (along width step p) outside in omega (arith, is, none))
    ]

-- the place in whole rows, and in one of them
place-twice : (p span width rows : ℕ) → span ≡ rows * width → 1 ≤ width → p % span % width ≡ p % width
place-twice p span width rows whole some =
    let split : p ≡ p / span * span + p % span = sym (div-add-mod' p span) in
    let turned : p ≡ p / span * rows * width + p % span =
    split ∙ ap (λ n. p / span * n + p % span) whole ∙ ap (λ n. n + p % span) (sym (mul_assoc (p / span) rows width)) in
    sym (ap (λ n. n % width) turned ∙ mod-more (p / span * rows) width (p % span) some)

pub copies-added : (from copies : List ℕ) (width step span rows room : ℕ) (old new : List ℕ) → span ≡ rows * width → 1 ≤ width → 1 ≤ span → span ≤ room → ((p : ℕ) → p < room → get_or copies p 0 ≡ get_or from (along width step p) 0) → AreRowSums copies span 1 old new → AreRowSums from width step old new
copies-added from copies width step span rows room old new whole some many fits copied sums = record {
  count = sums.count;
  small = sums.small;
  cells = λ p h.
      let q = p % span in
      let below : q < span = mod_below p span (omega arith) in
      let one : 1 * q ≡ q = omega arith in
      let same : get_or copies (1 * q) 0 ≡ get_or from (along width step p) 0 =
      ap (λ i. get_or copies i 0) one ∙ copied q (omega (arith, below)) ∙ ap (λ n. get_or from (step * n) 0) (place-twice p span width rows whole some) in
      sums.cells p h ∙ ap (λ a. plus (get_or old p 0) a) same;
}
