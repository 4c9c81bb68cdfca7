-- Laws of strides: how great they are, and that they move the place of a cell as its variables' values do.
use Rattle.std.proofs.Common.{◌≡◌, ℕ, zero, suc, ◌+◌, ◌*◌, ◌-◌, ◌≤◌, true, false, cond, eqb, List, [], ◌∷◌, length, take, drop, map, min, None, refl, sym, ap, ◌∙◌, inl, inr, arith}
use Rattle.std.specs.List.{All}
use Rattle.std.proofs.Math.Nat.{mul-le-mul_left, mul_comm, mul_assoc}
use Rattle.std.proofs.lemmas.Bool.{cases_Bool, eqb-true, or_parts}
use Rattle.std.proofs.lemmas.List.Elements.{All-head, All-tail}
use Rattle.dcop_base.specs.Table.{product, AreWithin, cell_place, has, has_repeat, table_fault}
use Rattle.dcop_base.proofs.TableLaws.{parts-of}
use Rattle.dcop_base.proofs.JointLaws.{eqb-swap}
use Rattle.util_join.specs.Strides.{stride, offset, last_values}

-- a product of sizes of at least 1
pub product-some : (sizes : List ℕ) → All (λ s. 1 ≤ s) sizes → 1 ≤ product sizes
product-some [] all = omega arith
product-some (s ∷ ss) all =
    let rest = product-some ss (All-tail (λ s. 1 ≤ s) s ss all) in
    let first : 1 ≤ s = All-head (λ s. 1 ≤ s) s ss all in
    omega (arith, mul-le-mul_left s rest)

-- a stride is at most the number of cells
product-more : (s : ℕ) (ss : List ℕ) → 1 ≤ s → product ss ≤ s * product ss
product-more s ss h = omega (arith, mul-le-mul_left (product ss) h, mul_comm (product ss) s)

pub rest-few : (sizes rest : List ℕ) (s most : ℕ) → sizes ≡ s ∷ rest → All (λ s. 1 ≤ s) sizes → product sizes ≤ most → All (λ s. 1 ≤ s) rest × (product rest ≤ most)
rest-few sizes rest s most e all few =
    let both = rw e at all in
    let less = rw e at few in
    (All-tail (λ s. 1 ≤ s) s rest both, omega (arith, less, product-more s rest (All-head (λ s. 1 ≤ s) s rest both)))

stride-most : (scope sizes : List ℕ) (var : ℕ) → All (λ s. 1 ≤ s) sizes → stride scope sizes var ≤ product sizes
stride-most [] sizes var all = omega arith
stride-most (v ∷ vs) [] var all = omega arith
stride-most (v ∷ vs) (s ∷ ss) var all =
    let more = product-more s ss (All-head (λ s. 1 ≤ s) s ss all) in
    elim (cases_Bool (eqb var v)) [
      | inl t ↦ rw t more
      | inr f ↦ (let rest = stride-most vs ss var (All-tail (λ s. 1 ≤ s) s ss all) in rw f (omega (arith, rest, more)))
    ]

pub stride-fits : (scope sizes cells : List ℕ) (var most found : ℕ) → table_fault scope sizes cells ≡ None → product sizes ≤ most → found ≡ min (stride scope sizes var) most → found ≡ stride scope sizes var
stride-fits scope sizes cells var most found whole few is =
    let bound = stride-most scope sizes var (parts-of scope sizes cells whole).positive in
    omega (arith, is, bound)

-- sums over variables
offset-zeros : (value : ℕ → ℕ) (over : List ℕ) → offset (map (λ v. 0) over) (map value over) ≡ 0
offset-zeros value [] = refl
offset-zeros value (u ∷ us) = let rest = offset-zeros value us in omega (arith, rest)

add-terms : (g h x a b : ℕ) → (g + h) * x + (a + b) ≡ (g * x + a) + (h * x + b)
add-terms g h x a b = grind arith

offset-split : (f g h : ℕ → ℕ) (value : ℕ → ℕ) (over : List ℕ) → ((v : ℕ) → f v ≡ g v + h v) → offset (map f over) (map value over) ≡ offset (map g over) (map value over) + offset (map h over) (map value over)
offset-split f g h value [] e = refl
offset-split f g h value (u ∷ us) e =
    ap (λ n. n * value u + offset (map f us) (map value us)) (e u)
    ∙ ap (λ n. (g u + h u) * value u + n) (offset-split f g h value us e)
    ∙ add-terms (g u) (h u) (value u) (offset (map g us) (map value us)) (offset (map h us) (map value us))

-- what one variable among others moves
offset-absent : (w c : ℕ) (value : ℕ → ℕ) (over : List ℕ) → has over w ≡ false → offset (map (λ v. cond (eqb v w) c 0) over) (map value over) ≡ 0
offset-absent w c value [] e = refl
offset-absent w c value (u ∷ us) e =
    let both = or_parts (eqb u w) (has us w) e in
    let rest = offset-absent w c value us both.1 in
    rw (both.0, rest) (omega arith)

offset-single : (w c : ℕ) (value : ℕ → ℕ) (over : List ℕ) → has over w ≡ true → has_repeat over ≡ false → offset (map (λ v. cond (eqb v w) c 0) over) (map value over) ≡ c * value w
offset-single w c value [] e d = cc
offset-single w c value (u ∷ us) e d =
    let both = or_parts (has us u) (has_repeat us) d in
    elim (cases_Bool (eqb u w)) [
      | inl t ↦ (
          let same : u ≡ w = eqb-true u w t in
          let none = offset-absent w c value us (rw same at both.0) in
          rw (t, none) (let val = ap value same in rw val (omega arith)))
      | inr f ↦ (
          let rest = offset-single w c value us (rw f at e) both.1 in
          rw (f, rest) (omega arith))
    ]

-- a variable that the scope does not name does not move the place
stride-absent : (scope sizes : List ℕ) (var : ℕ) → has scope var ≡ false → stride scope sizes var ≡ 0
stride-absent [] sizes var e = refl
stride-absent (v ∷ vs) [] var e = refl
stride-absent (v ∷ vs) (s ∷ ss) var e =
    let both = or_parts (eqb v var) (has vs var) e in
    let rest = stride-absent vs ss var both.1 in
    rw (eqb-swap var v ∙ both.0) rest

stride-split : (w s : ℕ) (ws ss : List ℕ) (var : ℕ) → has ws w ≡ false → stride (w ∷ ws) (s ∷ ss) var ≡ cond (eqb var w) (product ss) 0 + stride ws ss var
stride-split w s ws ss var e = elim (cases_Bool (eqb var w)) [
  | inl t ↦ (let none : stride ws ss var ≡ 0 = rw (eqb-true var w t) (stride-absent ws ss w e) in rw (t, none) (omega arith))
  | inr f ↦ rw f (omega arith)
]

-- the strides move the place as the values of all variables do
pub offset-place : (over : List ℕ) (value : ℕ → ℕ) (scope sizes : List ℕ) → has_repeat over ≡ false → has_repeat scope ≡ false → length sizes ≡ length scope → All (λ v. has over v ≡ true) scope → offset (map (λ v. stride scope sizes v) over) (map value over) ≡ cell_place sizes (map value scope)
offset-place over value [] [] ho hs e among = offset-zeros value over
offset-place over value [] (s ∷ ss) ho hs e among = absurd (omega (arith, e))
offset-place over value (w ∷ ws) [] ho hs e among = absurd (omega (arith, e))
offset-place over value (w ∷ ws) (s ∷ ss) ho hs e among =
    let both = or_parts (has ws w) (has_repeat ws) hs in
    let first : has over w ≡ true = All-head (λ v. has over v ≡ true) w ws among in
    let rest = offset-place over value ws ss ho both.1 (omega (arith, e)) (All-tail (λ v. has over v ≡ true) w ws among) in
    offset-split (λ v. stride (w ∷ ws) (s ∷ ss) v) (λ v. cond (eqb v w) (product ss) 0) (λ v. stride ws ss v) value over (λ v. stride-split w s ws ss v both.0)
    ∙ omega (arith, offset-single w (product ss) value over first ho, rest, mul_comm (product ss) (value w))

-- parts of an offset and of a place
ends : (ds : List ℕ) → 0 ≡ offset ds []
ends [] = refl
ends (d ∷ ds) = refl

pub offset-parts : (k : ℕ) (ds values : List ℕ) → offset ds values ≡ offset (take k ds) (take k values) + offset (drop k ds) (drop k values)
offset-parts zero ds values = omega arith
offset-parts (suc k) [] values = refl
offset-parts (suc k) (d ∷ ds) [] = omega (arith, ends (drop k ds))
offset-parts (suc k) (d ∷ ds) (v ∷ vs) = let rest = offset-parts k ds vs in omega (arith, rest)

pub product-parts : (k : ℕ) (sizes : List ℕ) → product (take k sizes) * product (drop k sizes) ≡ product sizes
product-parts zero sizes = omega arith
product-parts (suc k) [] = refl
product-parts (suc k) (s ∷ ss) = mul_assoc s (product (take k ss)) (product (drop k ss)) ∙ ap (λ n. s * n) (product-parts k ss)

place-turn : (v p w c d : ℕ) → v * (p * w) + (c * w + d) ≡ (v * p + c) * w + d
place-turn v p w c d = grind arith

pub place-parts : (k : ℕ) (sizes values : List ℕ) → AreWithin sizes values → cell_place sizes values ≡ cell_place (take k sizes) (take k values) * product (drop k sizes) + cell_place (drop k sizes) (drop k values)
place-parts zero sizes values h = omega arith
place-parts (suc k) [] [] h = refl
place-parts (suc k) [] (v ∷ vs) h = absurd h
place-parts (suc k) (s ∷ ss) [] h = absurd h
place-parts (suc k) (s ∷ ss) (v ∷ vs) h =
    ap (λ n. v * n + cell_place ss vs) (sym (product-parts k ss)) ∙ ap (λ n. v * (product (take k ss) * product (drop k ss)) + n) (place-parts k ss vs h.1)
    ∙ place-turn v (product (take k ss)) (product (drop k ss)) (cell_place (take k ss) (take k vs)) (cell_place (drop k ss) (drop k vs))

pub within-parts : (k : ℕ) (sizes values : List ℕ) → AreWithin sizes values → AreWithin (take k sizes) (take k values) × AreWithin (drop k sizes) (drop k values)
within-parts zero sizes values h = (tt, h)
within-parts (suc k) [] [] h = (tt, tt)
within-parts (suc k) [] (v ∷ vs) h = absurd h
within-parts (suc k) (s ∷ ss) [] h = absurd h
within-parts (suc k) (s ∷ ss) (v ∷ vs) h = let rest = within-parts k ss vs h.1 in ((h.0, rest.0), rest.1)

-- the last values, and the place of their cell
pub last-within : (sizes : List ℕ) → All (λ s. 1 ≤ s) sizes → AreWithin sizes (last_values sizes)
last-within [] all = tt
last-within (s ∷ ss) all =
    let first : 1 ≤ s = All-head (λ s. 1 ≤ s) s ss all in
    (omega arith, last-within ss (All-tail (λ s. 1 ≤ s) s ss all))

pub last-place : (sizes : List ℕ) → All (λ s. 1 ≤ s) sizes → cell_place sizes (last_values sizes) + 1 ≡ product sizes
last-place [] all = refl
last-place (s ∷ ss) all =
    let first : 1 ≤ s = All-head (λ s. 1 ≤ s) s ss all in
    let rest = last-place ss (All-tail (λ s. 1 ≤ s) s ss all) in
    let split : s ≡ s - 1 + 1 = omega arith in
    let whole : s * product ss ≡ (s - 1) * product ss + product ss = ap (λ n. n * product ss) split ∙ omega arith in
    omega (arith, rest, whole)
