use Rattle.std.proofs.Common.{◌≡◌, ◌<◌, ℕ, List, length, get_or, ap, ◌∙◌, All, arith, rules}
use Rattle.dcop_base.specs.Table.{AreWithin, product, values_at}
use Rattle.dcop_base.proofs.TableLaws.{cell_place-lt}
use Rattle.certificate_check.specs.Odometer.{place_of}
use Rattle.certificate_check.proofs.CellLaws.{sizes_at, scope_within}
use Rattle.certificate_check.proofs.sums.util_cell.Goals as goal

place_lt : (sizes scope values cells : List ℕ) (place : ℕ) → AreWithin sizes values → All (λ v. v < length sizes) scope → length cells ≡ product (sizes_at sizes scope) → place ≡ place_of sizes scope values → place < length cells
place_lt sizes scope values cells place within named full is =
    let lt = cell_place-lt (sizes_at sizes scope) (values_at scope values) (scope_within sizes values scope within named) in
    omega (arith, lt, full, is)

pub bounds-cells-place : goal.bounds-cells-place
bounds-cells-place c =
    let place : c.place_at-place.result ≡ place_of c.args.sizes.now c.args.util.now.scope c.args.values.now = c.place_at-place.ensures ∙ ap (λ (s : List ℕ). place_of c.args.sizes.now s c.args.values.now) c.as_slice.ensures in
    rw c.as_slice-cells.ensures (place_lt c.args.sizes.now c.args.util.now.scope c.args.values.now c.args.util.now.cells c.place_at-place.result c.requires.within c.requires.fits.named.scope c.requires.fits.many place)

pub offset_bounds-cells-place : goal.offset_bounds-cells-place
offset_bounds-cells-place c =
    let place : c.place_at-place.result ≡ place_of c.args.sizes.now c.args.util.now.scope c.args.values.now = c.place_at-place.ensures ∙ ap (λ (s : List ℕ). place_of c.args.sizes.now s c.args.values.now) c.as_slice.ensures in
    let lt : c.place_at-place.result < length c.as_slice-cells.result.now =
    rw c.as_slice-cells.ensures (place_lt c.args.sizes.now c.args.util.now.scope c.args.values.now c.args.util.now.cells c.place_at-place.result c.requires.within c.requires.fits.named.scope c.requires.fits.many place) in
    search rules

pub returns : goal.returns
returns c =
    ap (λ (cells : List ℕ). get_or cells c.place_at-place.result 0) c.as_slice-cells.ensures
    ∙ ap (λ (k : ℕ). get_or c.args.util.now.cells k 0) (c.place_at-place.ensures ∙ ap (λ (s : List ℕ). place_of c.args.sizes.now s c.args.values.now) c.as_slice.ensures)
