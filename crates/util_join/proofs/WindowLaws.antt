-- Laws of tables that name only the last variables of a joined one: they lie in those, and adding their cells over those again and again adds the table.
use Rattle.std.proofs.Common.{◌≡◌, ℕ, zero, suc, ◌+◌, ◌*◌, ◌%◌, ◌<◌, ◌≤◌, true, false, eqb, List, [], ◌∷◌, None, length, get_or, take, drop, map, replicate, refl, sym, ap, ◌∙◌, subst, inl, inr, arith}
use Rattle.std.proofs.lemmas.Bool.{cases_lt, or_parts}
use Rattle.std.proofs.lemmas.Nat.{mod-mul-add}
use Rattle.std.proofs.lemmas.Grind.{get_or_default_zero}
use Rattle.std.proofs.lemmas.List.{length-drop, get_or-drop, drop-map}
use Rattle.std.proofs.lemmas.List.Elements.{All-drop}
use Rattle.dcop_base.specs.Table.{CostTable, AreWithin, product, cell_place, has, has_repeat, table_fault}
use Rattle.dcop_base.proofs.TableLaws.{parts-of, none-passes, cell_place-lt}
use Rattle.dcop_base.proofs.JointLaws.{eqb-swap}
use Rattle.cost_table.specs.Cells.{place_in}
use Rattle.util_kernel.specs.Lanes.{plus}
use Rattle.util_join.specs.Join.{LiesIn, IsSum}
use Rattle.util_join.specs.Strides.{AreRowSums}
use Rattle.util_join.proofs.StrideLaws.{place-parts, within-parts}
use Rattle.util_join.proofs.JoinLaws.{map-same, place-later, whole-of}

-- one more variable that is not named
pub unnamed-more : (scope over : List ℕ) (k v : ℕ) → v ≡ get_or over k 0 → has scope v ≡ false → ((j : ℕ) → j < k → has scope (get_or over j 0) ≡ false) → (j : ℕ) → j < k + 1 → has scope (get_or over j 0) ≡ false
unnamed-more scope over k v is none so_far j h = elim (cases_lt j k) [
  | inl earlier ↦ so_far j earlier
  | inr later ↦ (let same : j ≡ k = omega arith in ap (λ i. has scope (get_or over i 0)) same ∙ ap (λ u. has scope u) (sym is) ∙ none)
]

-- the last of distinct variables
apart-last : (k : ℕ) (xs : List ℕ) → has_repeat xs ≡ false → has_repeat (drop k xs) ≡ false
apart-last zero xs e = e
apart-last (suc k) [] e = refl
apart-last (suc k) (x ∷ xs) e = apart-last k xs (or_parts (has xs x) (has_repeat xs) e).1

-- a variable that is not among the first
among-last : (f : ℕ) (over : List ℕ) (v : ℕ) → ((j : ℕ) → j < f → eqb (get_or over j 0) v ≡ false) → has over v ≡ true → has (drop f over) v ≡ true
among-last zero over v un e = e
among-last (suc f) [] v un e = e
among-last (suc f) (u ∷ us) v un e = among-last f us v (λ j h. un (suc j) (omega (arith, h))) (rw (un 0 (omega arith)) at e)

place-last : (f : ℕ) (over : List ℕ) (v : ℕ) → ((j : ℕ) → j < f → eqb (get_or over j 0) v ≡ false) → f ≤ length over → place_in over v ≡ f + place_in (drop f over) v
place-last zero over v un fits = omega arith
place-last (suc f) [] v un fits = absurd (omega arith)
place-last (suc f) (u ∷ us) v un fits =
    let later = place-later u v us (eqb-swap v u ∙ un 0 (omega arith)) in
    let rest = place-last f us v (λ j h. un (suc j) (omega (arith, h))) (omega (arith, fits)) in
    omega (arith, later, rest)

pub lies-last : (f : ℕ) (over sizes : List ℕ) (t : CostTable) → ((j : ℕ) → j < f → has t.scope (get_or over j 0) ≡ false) → f ≤ length over → LiesIn over sizes t → LiesIn (drop f over) (drop f sizes) t
lies-last f over sizes t un fits lies =
    let other : (k d : ℕ) → k < length t.scope → (j : ℕ) → j < f → eqb (get_or over j 0) (get_or t.scope k d) ≡ false =
    λ k d lt j h. eqb-swap (get_or over j 0) (get_or t.scope k d) ∙ none-passes (λ y. eqb y (get_or over j 0)) t.scope (un j h) k d lt in
    record {
      among = λ k d lt. among-last f over (get_or t.scope k d) (other k d lt) (lies.among k d lt);
      sized = lies.sized ∙ map-same (λ v. get_or sizes (place_in over v) 0) (λ v. get_or (drop f sizes) (place_in (drop f over) v) 0) t.scope
          (λ k d lt. ap (λ i. get_or sizes i 0) (place-last f over (get_or t.scope k d) (other k d lt) fits) ∙ sym (get_or-drop f sizes (place_in (drop f over) (get_or t.scope k d)) 0));
    }

-- zeros
pub none-there : (w n k : ℕ) → (let zeros : List ℕ = replicate n 0 in get_or (take w zeros) k 0 ≡ 0)
none-there zero n k = refl
none-there (suc w) zero k = refl
none-there (suc w) (suc n) zero = refl
none-there (suc w) (suc n) (suc k) = none-there w n k

-- a table of zeros over the last variables
pub zeros-whole : (f : ℕ) (over sizes old zeros : List ℕ) → table_fault over sizes old ≡ None → length zeros ≡ product (drop f sizes) → ((k : ℕ) → get_or zeros k 0 ≡ 0) → table_fault (drop f over) (drop f sizes) zeros ≡ None
zeros-whole f over sizes old zeros whole full none =
    let parts = parts-of over sizes old whole in
    whole-of (drop f over) (drop f sizes) zeros (record {
      apart = apart-last f over parts.apart;
      sized = omega (arith, length-drop f over, length-drop f sizes, parts.sized);
      positive = All-drop (λ s. 1 ≤ s) f sizes parts.positive;
      full = full;
      small = λ k d lt. (let is = get_or_default_zero zeros k d lt ∙ none k in omega (arith, is));
    })

twice : (a x z : ℕ) → z ≡ 0 → plus a (plus z x) ≡ plus a x
twice a x z e = omega (arith, e)

-- each cell gains the one that the same values name
pub window-gains : (f width : ℕ) (t : CostTable) (over sizes old zeros block new : List ℕ) (value : ℕ → ℕ) → table_fault over sizes old ≡ None → width ≡ product (drop f sizes) → ((k : ℕ) → get_or zeros k 0 ≡ 0) → IsSum (record { scope = drop f over; sizes = drop f sizes; cells = zeros }) t (record { scope = drop f over; sizes = drop f sizes; cells = block }) → AreRowSums block width 1 old new → AreWithin sizes (map value over) → get_or new (cell_place sizes (map value over)) 0 ≡ plus (get_or old (cell_place sizes (map value over)) 0) (get_or t.cells (cell_place t.sizes (map value t.scope)) 0)
window-gains f width t over sizes old zeros block new value whole wide none sum rows within =
    let values = map value over in
    let last = map value (drop f over) in
    let same : drop f values ≡ last = drop-map value f over in
    let inner : AreWithin (drop f sizes) last = subst (λ (xs : List ℕ). AreWithin (drop f sizes) xs) same (within-parts f sizes values within).1 in
    let a = cell_place (take f sizes) (take f values) in
    let q = cell_place (drop f sizes) last in
    let p = cell_place sizes values in
    let x = get_or t.cells (cell_place t.sizes (map value t.scope)) 0 in
    let below : q < product (drop f sizes) = cell_place-lt (drop f sizes) last inner in
    let split : a * width + q ≡ p =
    ap (λ n. a * n + q) wide ∙ ap (λ (xs : List ℕ). a * product (drop f sizes) + cell_place (drop f sizes) xs) (sym same) ∙ sym (place-parts f sizes values within) in
    let place : p % width ≡ q = ap (λ n. n % width) (sym split) ∙ mod-mul-add a width q (omega (arith, below, wide)) in
    let at : 1 * (p % width) ≡ q = omega (arith, place) in
    let inside : p < length old = omega (arith, cell_place-lt sizes values within, (parts-of over sizes old whole).full) in
    rows.cells p inside ∙ ap (λ i. plus (get_or old p 0) (get_or block i 0)) at ∙ ap (λ n. plus (get_or old p 0) n) (sum.cells value inner) ∙ twice (get_or old p 0) x (get_or zeros q 0) (none q)
