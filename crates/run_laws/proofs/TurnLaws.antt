-- Turns stand in the order of the places of cells.
use Rattle.std.proofs.Common.{◌≡◌, ℕ, zero, suc, ◌+◌, ◌-◌, ◌*◌, ◌<◌, List, [], ◌∷◌, length, get_or, map, sym, ap, subst, ◌∙◌, inl, inr, arith}
use Rattle.std.proofs.lemmas.Bool.{cases_lt}
use Rattle.std.proofs.lemmas.List.{length-map, get_or_default, ext_get_or}
use Rattle.std.proofs.lemmas.List.Elements.{length_all_zip}
use Rattle.dcop_base.specs.Table.{product, AreWithin, cell_place}
use Rattle.dcop_base.proofs.TableLaws.{cell_place-lt}
use Rattle.dcop_optimum.specs.Optimum.{IsBefore}
use Rattle.dcop_optimum.proofs.PlaceLaws.{place_before, before_cases}
use Rattle.pseudotree.specs.Place.{sizes_of}
use Rattle.protocol_steps.specs.Values.{choices}
use Rattle.protocol_steps.proofs.ValueLaws.{length-choices, choice_at, made_cell}
use Rattle.run_laws.specs.Turns.{AreInOrder, TurnsAreInOrder}

-- a number below so many blocks stands in one of them
record IsInBlock (s m k : ℕ) : Type 0 where
  pub block : ℕ
  pub rest : ℕ
  pub below : block < s
  pub within : rest < m
  pub is : block * m + rest ≡ k

in_block : (s m k : ℕ) → k < s * m → IsInBlock s m k
in_block zero m k lt = absurd (omega (arith, lt))
in_block (suc s) m k lt = elim (cases_lt k m) [
  | inl first ↦ record { block = 0; rest = k; below = omega arith; within = first; is = omega arith }
  | inr later ↦
      let rest : k - m < s * m = omega (arith, lt, later) in
      let found = in_block s m (k - m) rest in
      let is = found.is in
      let below = found.below in
      record { block = suc found.block; rest = found.rest; below = omega (arith, below); within = found.within; is = omega (arith, is, later) }
]

-- each place below the product is that of some values
pub record StandsAt (ss : List ℕ) (k : ℕ) : Type 0 where
  pub values : List ℕ
  pub within : AreWithin ss values
  pub is : cell_place ss values ≡ k

pub stands_at : (ss : List ℕ) (k : ℕ) → k < product ss → StandsAt ss k
stands_at [] k lt = record { values = []; within = tt; is = omega (arith, lt) }
stands_at (s ∷ ss) k lt =
    let block = in_block s (product ss) k lt in
    let rest = stands_at ss block.rest block.within in
    let at = rest.is in
    let is = block.is in
    record { values = block.block ∷ rest.values; within = (block.below, rest.within); is = omega (arith, at, is) }

-- cells by values are the list of what is made of all lists of values
pub cells_by_choices : (ss cells : List ℕ) (f : List ℕ → ℕ) → length cells ≡ product ss → ((xs : List ℕ) → AreWithin ss xs → get_or cells (cell_place ss xs) 0 ≡ f xs) → cells ≡ map f (choices ss)
cells_by_choices ss cells f full each =
    ext_get_or 0 cells (map f (choices ss)) (full ∙ sym (length-map (choices ss) f ∙ length-choices ss)) (λ k lt.
    let stands = stands_at ss k (omega (arith, lt, full)) in
    subst (λ (i : ℕ). get_or cells i 0 ≡ get_or (map f (choices ss)) i 0) stands.is (each stands.values stands.within ∙ sym (made_cell f ss stands.values stands.within)))

-- the values at a place
pub choice_is : (ss : List ℕ) (k : ℕ) (stands : StandsAt ss k) → get_or (choices ss) k [] ≡ stands.values
choice_is ss k stands = ap (λ (i : ℕ). get_or (choices ss) i []) (sym stands.is) ∙ choice_at ss stands.values stands.within

-- values that stand at a lower place stand before
pub lower_before : (ss xs ys : List ℕ) → AreWithin ss xs → AreWithin ss ys → cell_place ss xs < cell_place ss ys → IsBefore xs ys
lower_before ss xs ys wx wy lt =
    let long = length_all_zip (λ s v. v < s) ss xs wx in
    let long' = length_all_zip (λ s v. v < s) ss ys wy in
    elim (before_cases xs ys (sym long ∙ long')) [
      | inl same ↦ (let one = ap (cell_place ss) same in absurd (omega (arith, lt, one)))
      | inr orders ↦ elim orders [
        | inl before ↦ before
        | inr after ↦ absurd (omega (arith, lt, place_before ss ys xs wy wx after))
      ]
    ]

in_order : (ss : List ℕ) → AreInOrder ss (choices ss)
in_order ss =
    let count = length-choices ss in
    record {
      count = count;
      within = λ k lt. (let stands = stands_at ss k (omega (arith, lt, count)) in
          subst (λ (xs : List ℕ). AreWithin ss xs) (sym (choice_is ss k stands)) stands.within);
      every = λ values w. (let low = cell_place-lt ss values w in (
        cell_place ss values,
        omega (arith, low, count),
        get_or_default (choices ss) (cell_place ss values) values [] (omega (arith, low, count)) ∙ choice_at ss values w,
      ));
      ascending = λ j k less lt. (let first = stands_at ss j (omega (arith, less, lt, count)) in
          let second = stands_at ss k (omega (arith, lt, count)) in
          let at = first.is in
          let at' = second.is in
          let before = lower_before ss first.values second.values first.within second.within (omega (arith, less, at, at')) in
          subst (λ (xs : List ℕ). IsBefore xs (get_or (choices ss) k [])) (sym (choice_is ss j first))
          (subst (λ (ys : List ℕ). IsBefore first.values ys) (sym (choice_is ss k second)) before));
    }

pub turns_are_in_order : TurnsAreInOrder
turns_are_in_order p cut = in_order (sizes_of p cut)
