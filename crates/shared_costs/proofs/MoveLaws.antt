-- Laws of tables whose costs were moved: lows and shifts at a place, and what they are at the values of all variables.
use Rattle.std.proofs.Common.{◌≡◌, ℕ, zero, suc, ◌+◌, ◌*◌, ◌<◌, ◌≤◌, true, List, [], ◌∷◌, length, get_or, map, take, None, refl, sym, ap, ap₂, ◌∙◌, subst, subst₂, arith}
use Rattle.std.specs.List.{All}
use Rattle.std.proofs.lemmas.List.{get_or-map}
use Rattle.dcop_base.specs.Limits.{amount_limit}
use Rattle.dcop_base.specs.Table.{CostTable, has, product, AreWithin, cell_place, table_fault}
use Rattle.dcop_base.specs.Values.{cell_with}
use Rattle.dcop_base.proofs.TableLaws.{parts-of, cell_place-lt}
use Rattle.cost_table.specs.Cells.{place_in}
use Rattle.cost_table.proofs.PlaceLaws.{place_in-lt}
use Rattle.cost_table.proofs.ProblemCutLaws.{at-place}
use Rattle.cost_table.proofs.RunLaws.{product-cut}
use Rattle.cost_table.proofs.SliceLaws.{faultless}
use Rattle.shared_costs.specs.Values.{AreValues}
use Rattle.shared_costs.specs.Tables.{IsTableOver}
use Rattle.shared_costs.specs.Runs.{digit, moved, IsLowered, IsShifted}
use Rattle.shared_costs.specs.Moves.{cells_behind, AreLowsAt, AreLows, IsMoved}
use Rattle.shared_costs.proofs.RunLaws.{digit-at}

pub lows-at : (sizes cells : List ℕ) (place inner : ℕ) (old new : List ℕ) → IsLowered inner cells old new → inner ≡ cells_behind sizes place → length old ≡ get_or sizes place 0 → All (λ n. n ≤ amount_limit) old → AreLowsAt sizes cells place new
lows-at sizes cells place inner old new h ei eo small = record {
  many = h.count ∙ eo;
  small = λ a d lt. (let before : a < length old = omega (arith, h.count, lt) in
      omega (arith, h.less a, small a 0 before, get_or-zero new a d lt));
  below = λ k lt. subst₂ (λ (m n : ℕ). get_or new (digit m n k) 0 ≤ get_or cells k 0) (sym h.count) ei (h.below k lt);
}
  where
    get_or-zero : (xs : List ℕ) (a d : ℕ) → a < length xs → get_or xs a d ≡ get_or xs a 0
    get_or-zero [] a d lt = absurd (omega arith)
    get_or-zero (x ∷ xs) zero d lt = refl
    get_or-zero (x ∷ xs) (suc a) d lt = get_or-zero xs a d (omega arith)

-- a shifted table is whole
pub shifted-whole : (scope sizes old new : List ℕ) (inner : ℕ) (lows gains : List ℕ) → table_fault scope sizes old ≡ None → IsShifted inner lows gains old new → table_fault scope sizes new ≡ None
shifted-whole scope sizes old new inner lows gains e h =
    let parts = parts-of scope sizes old e in
    faultless scope sizes new (record { apart = parts.apart; sized = parts.sized; positive = parts.positive; full = h.count ∙ parts.full; small = h.small })

-- the value of a variable in the place of a cell
pub record IsDigit (sizes values : List ℕ) (place block rest : ℕ) : Type 0 where
  pub behind : rest < cells_behind sizes place
  pub whole : cell_place sizes values ≡ (block * get_or sizes place 0 + get_or values place 0) * cells_behind sizes place + rest

digit-step : (v p s b x r i : ℕ) → v * (p * (s * r)) + ((b * s + x) * r + i) ≡ ((v * p + b) * s + x) * r + i
digit-step v p s b x r i = grind arith

pub place-digit : (sizes values : List ℕ) (place : ℕ) → AreWithin sizes values → place < length sizes → (block : ℕ) × (rest : ℕ) × IsDigit sizes values place block rest
place-digit [] values place w lt = absurd (omega arith)
place-digit (s ∷ ss) [] place w lt = absurd w
place-digit (s ∷ ss) (v ∷ vs) zero w lt = (0, cell_place ss vs, record { behind = cell_place-lt ss vs w.1; whole = omega arith })
place-digit (s ∷ ss) (v ∷ vs) (suc place) w lt =
    let inner = place-digit ss vs place w.1 (omega arith) in
    let p = product (take place ss) in (
      v * p + inner.0,
      inner.1,
      record {
        behind = inner.2.behind;
        whole = ap₂ (λ (m n : ℕ). v * m + n) (product-cut ss place (omega arith)) inner.2.whole ∙ digit-step v p (get_or ss place 0) inner.0 (get_or vs place 0) (cells_behind ss place) inner.1;
      },
    )

value-below : (sizes values : List ℕ) (place : ℕ) → AreWithin sizes values → place < length sizes → get_or values place 0 < get_or sizes place 0
value-below [] values place w lt = absurd (omega arith)
value-below (s ∷ ss) [] place w lt = absurd w
value-below (s ∷ ss) (v ∷ vs) zero w lt = w.0
value-below (s ∷ ss) (v ∷ vs) (suc place) w lt = value-below ss vs place w.1 (omega arith)

pub digit-of_place : (sizes values : List ℕ) (place : ℕ) → AreWithin sizes values → place < length sizes → digit (get_or sizes place 0) (cells_behind sizes place) (cell_place sizes values) ≡ get_or values place 0
digit-of_place sizes values place w lt =
    let d = place-digit sizes values place w lt in
    ap (λ (n : ℕ). digit (get_or sizes place 0) (cells_behind sizes place) n) d.2.whole
    ∙ digit-at (get_or sizes place 0) (cells_behind sizes place) d.0 (get_or values place 0) d.1 (value-below sizes values place w lt) d.2.behind

-- the values of a table's variables, and the value of one that it names
pub values-within : (sizes scope : List ℕ) (value : ℕ → ℕ) → AreValues sizes value → All (λ v. v < length sizes) scope → AreWithin (map (λ v. get_or sizes v 0) scope) (map value scope)
values-within sizes [] value w all = tt
values-within sizes (v ∷ vs) value w all = (w v (all 0 0 (omega arith)), values-within sizes vs value w (λ k d lt. all (suc k) d (omega (arith, lt))))

pub fits-table : (sizes : List ℕ) (t : CostTable) (value : ℕ → ℕ) → IsTableOver sizes t → AreValues sizes value → AreWithin t.sizes (map value t.scope)
fits-table sizes t value over w = subst (λ (ss : List ℕ). AreWithin ss (map value t.scope)) (sym over.sized) (values-within sizes t.scope value w over.within)

pub record IsNamed (t : CostTable) (value : ℕ → ℕ) (var size : ℕ) : Type 0 where
  pub inside : place_in t.scope var < length t.sizes
  pub sized : get_or t.sizes (place_in t.scope var) 0 ≡ size
  pub digit_is : AreWithin t.sizes (map value t.scope) → digit size (cells_behind t.sizes (place_in t.scope var)) (cell_place t.sizes (map value t.scope)) ≡ value var
  pub cell : AreWithin t.sizes (map value t.scope) → cell_place t.sizes (map value t.scope) < length t.cells

pub named : (sizes : List ℕ) (t : CostTable) (value : ℕ → ℕ) (var : ℕ) → IsTableOver sizes t → has t.scope var ≡ true → IsNamed t value var (get_or sizes var 0)
named sizes t value var over stands =
    let place = place_in t.scope var in
    let parts = parts-of t.scope t.sizes t.cells over.whole in
    let lt : place < length t.scope = place_in-lt t.scope var stands in
    let inside : place < length t.sizes = omega (arith, lt, parts.sized) in
    let here = at-place t.scope var lt in
    let size : get_or t.sizes place 0 ≡ get_or sizes var 0 = ap (λ (ss : List ℕ). get_or ss place 0) over.sized ∙ get_or-map (λ v. get_or sizes v 0) t.scope place 0 0 lt ∙ ap (λ (n : ℕ). get_or sizes n 0) here in
    record {
      inside = inside;
      sized = size;
      digit_is = λ w. ap (λ (n : ℕ). digit n (cells_behind t.sizes place) (cell_place t.sizes (map value t.scope))) (sym size)
          ∙ digit-of_place t.sizes (map value t.scope) place w inside ∙ get_or-map value t.scope place 0 0 lt ∙ ap value here;
      cell = λ w. omega (arith, cell_place-lt t.sizes (map value t.scope) w, parts.full);
    }

-- a low, and a moved cell, at the values of all variables
pub low-with : (sizes : List ℕ) (t : CostTable) (var : ℕ) (lows : List ℕ) (value : ℕ → ℕ) → IsTableOver sizes t → has t.scope var ≡ true → AreLows t var lows → AreValues sizes value → get_or lows (value var) 0 ≤ cell_with t value
low-with sizes t var lows value over stands h w =
    let is = named sizes t value var over stands in
    let fits = fits-table sizes t value over w in
    let long : length lows ≡ get_or sizes var 0 = h.many ∙ is.sized in
    let at = ap (λ (n : ℕ). digit n (cells_behind t.sizes (place_in t.scope var)) (cell_place t.sizes (map value t.scope))) long ∙ is.digit_is fits in
    omega (arith, h.below (cell_place t.sizes (map value t.scope)) (is.cell fits), ap (λ (n : ℕ). get_or lows n 0) at)

pub moved-with : (sizes : List ℕ) (old new : CostTable) (var : ℕ) (lows gains : List ℕ) (value : ℕ → ℕ) → IsTableOver sizes old → has old.scope var ≡ true → AreLows old var lows → IsMoved var lows gains old new → AreValues sizes value → cell_with new value ≡ moved (cell_with old value) (get_or lows (value var) 0) (get_or gains (value var) 0)
moved-with sizes old new var lows gains value over stands low h w =
    let is = named sizes old value var over stands in
    let fits = fits-table sizes old value over w in
    let long : length lows ≡ get_or sizes var 0 = low.many ∙ is.sized in
    let k = cell_place old.sizes (map value old.scope) in
    let at = ap (λ (n : ℕ). digit n (cells_behind old.sizes (place_in old.scope var)) k) long ∙ is.digit_is fits in
    ap₂ (λ (ss scope : List ℕ). get_or new.cells (cell_place ss (map value scope)) 0) h.sizes h.scope
    ∙ h.cells.cells k (is.cell fits) ∙ ap (λ (n : ℕ). moved (get_or old.cells k 0) (get_or lows n 0) (get_or gains n 0)) at
