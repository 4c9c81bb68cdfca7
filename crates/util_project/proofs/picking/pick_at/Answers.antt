use Rattle.std.proofs.Common.{ℕ, ◌+◌, ◌*◌, ◌<◌, ◌≤◌, List, get_or, drop, add-one, refl, ap, ap₂, ◌∙◌, subst₂, sym, arith}
use Rattle.dcop_base.specs.Table.{product, cell_place, AreWithin}
use Rattle.cost_table.proofs.RunLaws.{counts-of}
use Rattle.util_project.proofs.PickLaws.{pick-parts, pick-cell, pick-inside, block-fits, lowest-same}
use Rattle.util_project.proofs.picking.pick_at.Goals as goal

pub place_at-block-requires-clause-within : goal.place_at-block-requires-clause-within
place_at-block-requires-clause-within c =
    let parts = pick-parts c.args.sizes.now c.args.cells.now c.args.values.now c.args.place c.requires.inside c.requires.full c.requires.within in
    subst₂ (λ (xs ys : List ℕ). AreWithin xs ys) (sym c.split_at.ensures.front) (sym c.split_at-3.ensures.front) parts.front

pub place_at-block-requires-clause-few : goal.place_at-block-requires-clause-few
place_at-block-requires-clause-few c =
    let most : product c.args.sizes.now ≤ 18446744073709551615 = omega (arith, c.requires.full) in
    let counts = counts-of _ _ _ _ _ _ _ c.requires.inside c.requires.some most c.split_at.ensures.front c.split_at-2.ensures.back refl c.product_of-inner.ensures in
    omega (arith, counts.before, ap product c.split_at.ensures.front)

pub overflow_mul-first : goal.overflow_mul-first
overflow_mul-first c =
    let most : product c.args.sizes.now ≤ 18446744073709551615 = omega (arith, c.requires.full) in
    let counts = counts-of _ _ _ _ _ _ _ c.requires.inside c.requires.some most c.split_at.ensures.front c.split_at-2.ensures.back refl c.product_of-inner.ensures in
    let parts = pick-parts c.args.sizes.now c.args.cells.now c.args.values.now c.args.place c.requires.inside c.requires.full c.requires.within in
    let fits = block-fits c.args.sizes.now c.args.cells.now c.args.values.now c.args.place c.product_of-inner.result c.from.result parts counts.behind c.from.ensures in
    omega (arith, fits)

pub overflow_mul-first-2 : goal.overflow_mul-first-2
overflow_mul-first-2 c =
    let k = c.args.place in
    let sizes = c.args.sizes.now in
    let values = c.args.values.now in
    let most : product sizes ≤ 18446744073709551615 = omega (arith, c.requires.full) in
    let counts = counts-of _ _ _ _ _ _ _ c.requires.inside c.requires.some most c.split_at.ensures.front c.split_at-2.ensures.back refl c.product_of-inner.ensures in
    let parts = pick-parts sizes c.args.cells.now values k c.requires.inside c.requires.full c.requires.within in
    let block = c.place_at-block.ensures ∙ ap₂ cell_place c.split_at.ensures.front c.split_at-3.ensures.front in
    let some : 0 < c.from.result = omega (arith, c.from.ensures, c.requires.some k 0 c.requires.inside) in
    let first = pick-inside sizes c.args.cells.now values k c.place_at-block.result _ c.product_of-inner.result c.from.result parts counts.behind c.from.ensures block refl 0 some in
    omega (arith, first)

pub place_at-requires-clause-within : goal.place_at-requires-clause-within
place_at-requires-clause-within c =
    let parts = pick-parts c.args.sizes.now c.args.cells.now c.args.values.now c.args.place c.requires.inside c.requires.full c.requires.within in
    let back = c.split_at-2.ensures.back ∙ ap (λ (n : ℕ). drop n c.args.sizes.now) (add-one c.args.place) in
    subst₂ (λ (xs ys : List ℕ). AreWithin xs ys) (sym back) (sym c.split_at-3.ensures.back) parts.back

pub place_at-requires-clause-few : goal.place_at-requires-clause-few
place_at-requires-clause-few c =
    let most : product c.args.sizes.now ≤ 18446744073709551615 = omega (arith, c.requires.full) in
    let counts = counts-of _ _ _ _ _ _ _ c.requires.inside c.requires.some most c.split_at.ensures.front c.split_at-2.ensures.back refl c.product_of-inner.ensures in
    let back = c.split_at-2.ensures.back ∙ ap (λ (n : ℕ). drop n c.args.sizes.now) (add-one c.args.place) in
    omega (arith, counts.behind, c.product_of-inner.ensures, ap product back)

pub overflow_add-first : goal.overflow_add-first
overflow_add-first c =
    let k = c.args.place in
    let sizes = c.args.sizes.now in
    let values = c.args.values.now in
    let most : product sizes ≤ 18446744073709551615 = omega (arith, c.requires.full) in
    let counts = counts-of _ _ _ _ _ _ _ c.requires.inside c.requires.some most c.split_at.ensures.front c.split_at-2.ensures.back refl c.product_of-inner.ensures in
    let parts = pick-parts sizes c.args.cells.now values k c.requires.inside c.requires.full c.requires.within in
    let block = c.place_at-block.ensures ∙ ap₂ cell_place c.split_at.ensures.front c.split_at-3.ensures.front in
    let back = c.split_at-2.ensures.back ∙ ap (λ (n : ℕ). drop n sizes) (add-one k) in
    let rest = c.place_at.ensures ∙ ap₂ cell_place back c.split_at-3.ensures.back in
    let some : 0 < c.from.result = omega (arith, c.from.ensures, c.requires.some k 0 c.requires.inside) in
    let blocks = c.place_at-block.result * (c.from.result * c.product_of-inner.result) in
    let first = pick-inside sizes c.args.cells.now values k c.place_at-block.result (blocks + c.place_at.result) c.product_of-inner.result c.from.result parts counts.behind c.from.ensures block (ap (λ (n : ℕ). blocks + n) rest) 0 some in
    omega (arith, first)

pub lowest-requires-clause-inside : goal.lowest-requires-clause-inside
lowest-requires-clause-inside c =
    let k = c.args.place in
    let sizes = c.args.sizes.now in
    let values = c.args.values.now in
    let most : product sizes ≤ 18446744073709551615 = omega (arith, c.requires.full) in
    let counts = counts-of _ _ _ _ _ _ _ c.requires.inside c.requires.some most c.split_at.ensures.front c.split_at-2.ensures.back refl c.product_of-inner.ensures in
    let parts = pick-parts sizes c.args.cells.now values k c.requires.inside c.requires.full c.requires.within in
    let block = c.place_at-block.ensures ∙ ap₂ cell_place c.split_at.ensures.front c.split_at-3.ensures.front in
    let back = c.split_at-2.ensures.back ∙ ap (λ (n : ℕ). drop n sizes) (add-one k) in
    let rest = c.place_at.ensures ∙ ap₂ cell_place back c.split_at-3.ensures.back in
    let blocks = c.place_at-block.result * (c.from.result * c.product_of-inner.result) in
    λ d lt. pick-inside sizes c.args.cells.now values k c.place_at-block.result (blocks + c.place_at.result) c.product_of-inner.result c.from.result parts counts.behind c.from.ensures block (ap (λ (n : ℕ). blocks + n) rest) d (omega (arith, lt, c.from.ensures))

pub returns : goal.returns
returns c =
    let k = c.args.place in
    let sizes = c.args.sizes.now in
    let values = c.args.values.now in
    let most : product sizes ≤ 18446744073709551615 = omega (arith, c.requires.full) in
    let counts = counts-of _ _ _ _ _ _ _ c.requires.inside c.requires.some most c.split_at.ensures.front c.split_at-2.ensures.back refl c.product_of-inner.ensures in
    let parts = pick-parts sizes c.args.cells.now values k c.requires.inside c.requires.full c.requires.within in
    let block = c.place_at-block.ensures ∙ ap₂ cell_place c.split_at.ensures.front c.split_at-3.ensures.front in
    let back = c.split_at-2.ensures.back ∙ ap (λ (n : ℕ). drop n sizes) (add-one k) in
    let rest = c.place_at.ensures ∙ ap₂ cell_place back c.split_at-3.ensures.back in
    let blocks = c.place_at-block.result * (c.from.result * c.product_of-inner.result) in
    let cell = pick-cell sizes c.args.cells.now values k c.place_at-block.result (blocks + c.place_at.result) c.product_of-inner.result c.from.result parts counts.behind c.from.ensures block (ap (λ (n : ℕ). blocks + n) rest) in
    lowest-same _ _ _ _ (λ e lt. ap (λ (n : ℕ). get_or c.args.cells.now n 0) (cell e)) c.lowest.ensures
