-- Laws of joined tables: values by their variables, and the sum over all variables from the sum over blocks.
use Rattle.std.proofs.Common.{◌≡◌, ℕ, suc, ◌+◌, ◌*◌, ◌-◌, ◌<◌, ◌≤◌, Bool, true, false, not, ◌||◌, cond, eqb, ltb, List, [], ◌∷◌, None, Some, length, get_or, take, drop, map, refl, sym, ap, ◌∙◌, subst, inl, inr, arith}
use Rattle.std.specs.List.{All, list_any}
use Rattle.std.proofs.lemmas.Bool.{cases_Bool, eqb-true, eq-eqb, le-ltb, not_from_true, or_parts}
use Rattle.std.proofs.lemmas.List.{length-map, take-map, drop-map}
use Rattle.std.proofs.lemmas.List.Elements.{All-head, All-tail, All-drop, All-weaker, AllZip-get_or}
use Rattle.std.proofs.lemmas.List.Folds.{list_any_none}
use Rattle.dcop_base.specs.Limits.{amount_limit}
use Rattle.dcop_base.specs.declared.table.TableFault.TheVariants.{Repeat, Sizes, CellCount, CellTooLarge}
use Rattle.dcop_base.specs.Table.{CostTable, IsTable, AreWithin, product, cell_place, has, has_repeat, table_fault}
use Rattle.dcop_base.proofs.TableLaws.{AreParts, parts-of, none-passes, cell_place-lt}
use Rattle.dcop_base.proofs.JointLaws.{eqb-swap}
use Rattle.cost_table.specs.Cells.{place_in}
use Rattle.util_kernel.specs.Lanes.{plus}
use Rattle.util_join.specs.Join.{LiesIn}
use Rattle.util_join.specs.Strides.{stride, strides, offset, last_values, along, IsRow, IsBlockSum}
use Rattle.util_join.proofs.StrideLaws.{product-some, offset-place, offset-parts, product-parts, place-parts, within-parts, last-within, last-place}
use Rattle.util_join.proofs.RowLaws.{last-mod}

-- a table that has what one in which nothing is wrong has
all-false : (a b c d e : Bool) → a ≡ false → b ≡ false → c ≡ false → d ≡ false → e ≡ false → cond a (Some Repeat) (cond (b || c) (Some Sizes) (cond d (Some CellCount) (cond e (Some CellTooLarge) None))) ≡ None
all-false a b c d e ha hb hc hd he = rw (ha, hb, hc, hd, he) refl

nonzero : (s : ℕ) → 1 ≤ s → eqb s 0 ≡ false
nonzero s h = elim (cases_Bool (eqb s 0)) [
  | inl t ↦ absurd (let none = eqb-true s 0 t in omega (arith, none))
  | inr f ↦ f
]

pub whole-of : (scope sizes cells : List ℕ) → AreParts scope sizes cells → table_fault scope sizes cells ≡ None
whole-of scope sizes cells parts =
    all-false (has_repeat scope) (not (eqb (length sizes) (length scope))) (list_any (λ s. eqb s 0) sizes) (not (eqb (length cells) (product sizes))) (list_any (λ c. ltb amount_limit c) cells)
    parts.apart
    (not_from_true (eqb (length sizes) (length scope)) (eq-eqb (length sizes) (length scope) parts.sized))
    (list_any_none (λ s. eqb s 0) sizes (All-weaker (λ s. 1 ≤ s) (λ s. eqb s 0 ≡ false) nonzero sizes parts.positive))
    (not_from_true (eqb (length cells) (product sizes)) (eq-eqb (length cells) (product sizes) parts.full))
    (list_any_none (λ c. ltb amount_limit c) cells (All-weaker (λ c. c ≤ amount_limit) (λ c. ltb amount_limit c ≡ false) (λ c h. le-ltb amount_limit c h) cells parts.small))

pub still-whole : (scope sizes old new : List ℕ) → table_fault scope sizes old ≡ None → length new ≡ length old → All (λ c. c ≤ amount_limit) new → table_fault scope sizes new ≡ None
still-whole scope sizes old new whole count small =
    let parts = parts-of scope sizes old whole in
    whole-of scope sizes new (record { apart = parts.apart; sized = parts.sized; positive = parts.positive; full = count ∙ parts.full; small = small })

-- the places of variables
place-here : (u : ℕ) (us : List ℕ) → place_in (u ∷ us) u ≡ 0
place-here u us = rw (eq-eqb u u refl) refl

pub place-later : (u v : ℕ) (us : List ℕ) → eqb v u ≡ false → place_in (u ∷ us) v ≡ suc (place_in us v)
place-later u v us e = rw (eqb-swap u v ∙ e) (omega arith)

place-among : (vars : List ℕ) (var : ℕ) → has vars var ≡ true → place_in vars var < length vars
place-among [] var e = cc
place-among (v ∷ vs) var e = elim (cases_Bool (eqb v var)) [
  | inl t ↦ rw t (omega arith)
  | inr f ↦ (let rest = place-among vs var (rw f at e) in rw f (omega (arith, rest)))
]

-- values of distinct variables are those of a function of the variables
pub map-same : (f g : ℕ → ℕ) (us : List ℕ) → All (λ v. f v ≡ g v) us → map f us ≡ map g us
map-same f g [] all = refl
map-same f g (u ∷ us) all =
    let first : f u ≡ g u = All-head (λ v. f v ≡ g v) u us all in
    let rest = map-same f g us (All-tail (λ v. f v ≡ g v) u us all) in
    cc

values-named : (over values : List ℕ) → has_repeat over ≡ false → length values ≡ length over → map (λ v. get_or values (place_in over v) 0) over ≡ values
values-named [] [] d e = refl
values-named [] (x ∷ xs) d e = absurd (omega (arith, e))
values-named (u ∷ us) [] d e = absurd (omega (arith, e))
values-named (u ∷ us) (x ∷ xs) d e =
    let both = or_parts (has us u) (has_repeat us) d in
    let later = All-weaker (λ v. eqb v u ≡ false) (λ v. get_or (x ∷ xs) (place_in (u ∷ us) v) 0 ≡ get_or xs (place_in us v) 0)
    (λ v h. ap (λ i. get_or (x ∷ xs) i 0) (place-later u v us h)) us (none-passes (λ y. eqb y u) us both.0) in
    let first = ap (λ i. get_or (x ∷ xs) i 0) (place-here u us) in
    let rest = map-same (λ v. get_or (x ∷ xs) (place_in (u ∷ us) v) 0) (λ v. get_or xs (place_in us v) 0) us later ∙ values-named us xs both.1 (omega (arith, e)) in
    cc

within-map : (f g : ℕ → ℕ) (us : List ℕ) → All (λ v. f v < g v) us → AreWithin (map g us) (map f us)
within-map f g [] all = tt
within-map f g (u ∷ us) all = (All-head (λ v. f v < g v) u us all, within-map f g us (All-tail (λ v. f v < g v) u us all))

-- values of the joined table move the place to a cell of the table
reach : (t : CostTable) (over sizes values : List ℕ) → IsTable t → LiesIn over sizes t → has_repeat over ≡ false → length sizes ≡ length over → AreWithin sizes values → length values ≡ length over → offset (strides t over) values < product t.sizes
reach t over sizes values whole lies apart sized within long =
    let parts = parts-of t.scope t.sizes t.cells whole in
    let value : ℕ → ℕ = λ v. get_or values (place_in over v) 0 in
    let inside : AreWithin t.sizes (map value t.scope) =
    subst (λ (ss : List ℕ). AreWithin ss (map value t.scope)) (sym lies.sized)
    (within-map value (λ v. get_or sizes (place_in over v) 0) t.scope
    (All-weaker (λ v. has over v ≡ true) (λ v. get_or values (place_in over v) 0 < get_or sizes (place_in over v) 0)
    (λ v h. AllZip-get_or (λ s x. x < s) sizes values (place_in over v) 0 0 within (rw sized (place-among over v h))) t.scope lies.among)) in
    let place = offset-place over value t.scope t.sizes apart parts.apart parts.sized lies.among in
    let named = ap (λ (xs : List ℕ). offset (strides t over) xs) (values-named over values apart long) in
    omega (arith, sym named ∙ place, cell_place-lt t.sizes (map value t.scope) inside)

-- the rows lie within the table
pub rows-inside : (t : CostTable) (over sizes cells : List ℕ) (start count width step : ℕ) → table_fault over sizes cells ≡ None → IsTable t → LiesIn over sizes t → IsRow (strides t over) sizes start count width step → ((1 ≤ count) × (1 ≤ width)) × (length cells ≡ product (take start sizes) * count) × (offset (strides t (take start over)) (last_values (take start sizes)) + step * (width - 1) < product t.sizes)
rows-inside t over sizes cells start count width step whole table lies row =
    let parts = parts-of over sizes cells whole in
    let positive = All-drop (λ s. 1 ≤ s) start sizes parts.positive in
    let lasts = last_values sizes in
    let within = last-within sizes parts.positive in
    let behind = row.even (drop start lasts) (within-parts start sizes lasts within).1 in
    let place : cell_place (drop start sizes) (drop start lasts) + 1 ≡ count =
    ap (λ (xs : List ℕ). cell_place (drop start sizes) xs + 1) (drop-map (λ s. s - 1) start sizes) ∙ last-place (drop start sizes) positive ∙ sym row.full in
    let far : along width step (cell_place (drop start sizes) (drop start lasts)) ≡ step * (width - 1) =
    ap (λ n. step * n) (last-mod row.whole.0 width (cell_place (drop start sizes) (drop start lasts)) (place ∙ row.whole.1) row.some) in
    let front : offset (strides t (take start over)) (last_values (take start sizes)) ≡ offset (take start (strides t over)) (take start lasts) =
    ap (λ (ds : List ℕ). offset ds (last_values (take start sizes))) (sym (take-map (λ v. stride t.scope t.sizes v) start over))
    ∙ ap (λ (vs : List ℕ). offset (take start (strides t over)) vs) (sym (take-map (λ s. s - 1) start sizes)) in
    let all = reach t over sizes lasts table lies parts.apart parts.sized within (length-map sizes (λ s. s - 1) ∙ parts.sized) in (
      (omega (arith, row.full, product-some (drop start sizes) positive), row.some),
      parts.full ∙ sym (product-parts start sizes) ∙ ap (λ n. product (take start sizes) * n) (sym row.full),
      omega (arith, front, behind ∙ far, offset-parts start (strides t over) lasts, all),
    )

-- each cell gains the one that the same values name
pub cell-gains : (t : CostTable) (over sizes old new : List ℕ) (start count width step : ℕ) (value : ℕ → ℕ) → table_fault over sizes old ≡ None → IsTable t → LiesIn over sizes t → IsRow (strides t over) sizes start count width step → IsBlockSum t.cells (strides t (take start over)) (take start sizes) count (along width step) old new → AreWithin sizes (map value over) → get_or new (cell_place sizes (map value over)) 0 ≡ plus (get_or old (cell_place sizes (map value over)) 0) (get_or t.cells (cell_place t.sizes (map value t.scope)) 0)
cell-gains t over sizes old new start count width step value whole table lies row block within =
    let values = map value over in
    let parts = parts-of t.scope t.sizes t.cells table in
    let halves = within-parts start sizes values within in
    let p = cell_place (drop start sizes) (drop start values) in
    let below : p < count = omega (arith, cell_place-lt (drop start sizes) (drop start values) halves.1, row.full) in
    let place : cell_place (take start sizes) (take start values) * count + p ≡ cell_place sizes values =
    ap (λ n. cell_place (take start sizes) (take start values) * n + p) row.full ∙ sym (place-parts start sizes values within) in
    let front = ap (λ (ds : List ℕ). offset ds (take start values)) (sym (take-map (λ v. stride t.scope t.sizes v) start over)) in
    let all = offset-place over value t.scope t.sizes (parts-of over sizes old whole).apart parts.apart parts.sized lies.among in
    let far : offset (strides t (take start over)) (take start values) + along width step p ≡ cell_place t.sizes (map value t.scope) =
    omega (arith, front, row.even (drop start values) halves.1, offset-parts start (strides t over) values, all) in
    subst (λ i. get_or new i 0 ≡ plus (get_or old i 0) (get_or t.cells (cell_place t.sizes (map value t.scope)) 0)) place
    (subst (λ i. get_or new (cell_place (take start sizes) (take start values) * count + p) 0 ≡ plus (get_or old (cell_place (take start sizes) (take start values) * count + p) 0) (get_or t.cells i 0)) far
    (block.cells (take start values) p halves.0 below))
