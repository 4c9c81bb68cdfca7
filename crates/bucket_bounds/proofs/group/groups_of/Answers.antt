use Rattle.std.proofs.Common.{◌<◌, ℕ, List, length, get_or, sym, ap, subst, ◌∙◌}
use Rattle.std.specs.List.{All}
use Rattle.dcop_base.specs.Table.{CostTable}
use Rattle.shared_costs.specs.Tables.{IsTableOver}
use Rattle.bucket_bounds.specs.Groups.{AddsTo, FitsLimit}
use Rattle.bucket_bounds.specs.Parting.{IsTooWideFor}
use Rattle.bucket_bounds.specs.declared.group.Group.{Group}
use Rattle.bucket_bounds.proofs.GroupLaws.{groups_opened, groups_widened, written}
use Rattle.bucket_bounds.proofs.PartingLaws.{duly_opened, duly_widened}
use Rattle.bucket_bounds.proofs.group.groups_of.Goals as goal
use Rattle.bucket_bounds.proofs.group.groups_of.Goals.{in-Some+in_ok-add_to-in-Some, in-None+in_ok-group_of-in-None+in_ok-push-in-None}

pub loop-table-preserved : goal.loop-table-preserved
loop-table-preserved c =
    let sizes = c.args.sizes.now in
    let tables = c.args.tables.now in
    let k = c.loop-table.table-index in
    let t = c.table-item.result in
    let groups = c.loop-table.groups.items in
    let over : IsTableOver sizes t = subst (IsTableOver sizes) (sym c.table-item.is) (c.requires.tables k t c.loop-table-test.true) in
    let scope = c.as_slice-in-loop-table.ensures ∙ ap (λ (t : CostTable). t.scope) c.table.view_is in
    elim c.match-place_of.branch [
      | in-Some+in_ok-add_to-in-Some w ↦
          let old : Group = w.index-as_mut_slice-place.result in
          let place = w.in-Some.place in
          let found = w.index-as_mut_slice-place.is ∙ ap (λ (gs : List Group). get_or gs place old) w.as_mut_slice.ensures.value in
          let fits : FitsLimit sizes t.scope c.args.limit old =
          subst (λ (g : Group). FitsLimit sizes t.scope c.args.limit g) (sym found)
          (subst (λ (gs : List Group). FitsLimit sizes t.scope c.args.limit (get_or gs place old)) c.as_slice.ensures.value
          (subst (λ (vs : List ℕ). FitsLimit sizes vs c.args.limit (get_or c.as_slice.result.now place old)) scope (w.in-Some.ensures.fits.1 old))) in
          let inside : place < length groups = subst (λ (gs : List Group). place < length gs) c.as_slice.ensures.value w.in-Some.ensures.fits.0 in
          let new : Group = w.add_to.new.group in
          let adds : AddsTo sizes old t new = subst (λ (g : Group). AddsTo sizes g t new) (sym w.index-as_mut_slice-place.is) w.in_ok-add_to-in-Some.ensures in
          let now = ap (λ v. v.items) w.groups-is ∙ written groups w.as_mut_slice.result.now c.loop-table.groups.len place new w.as_mut_slice.ensures.value w.as_mut_slice.ensures.len in (
            groups_widened sizes c.args.limit tables k t groups c.match-place_of.groups.items c.loop-table-test.true c.table-item.is over c.loop-table.invariant.0 place old new c.requires.limit inside found fits adds now,
            duly_widened sizes c.args.limit tables k t groups c.match-place_of.groups.items c.loop-table-test.true c.table-item.is over c.loop-table.invariant.1 place old new inside found adds now,
          )
      | in-None+in_ok-group_of-in-None+in_ok-push-in-None w ↦
          let g = w.in_ok-group_of-in-None.field-0 in
          let now = ap (λ v. v.items) w.groups-is ∙ w.in_ok-push-in-None.ensures.items in
          let full : All (IsTooWideFor sizes t.scope c.args.limit) groups =
          subst (λ (gs : List Group). All (IsTooWideFor sizes t.scope c.args.limit) gs) c.as_slice.ensures.value
          (subst (λ (vs : List ℕ). All (IsTooWideFor sizes vs c.args.limit) c.as_slice.result.now) scope w.in-None.ensures.full) in (
            groups_opened sizes c.args.limit tables k t groups c.match-place_of.groups.items c.loop-table-test.true c.table-item.is over c.loop-table.invariant.0 g w.in_ok-group_of-in-None.ensures now,
            duly_opened sizes c.args.limit tables k t groups c.match-place_of.groups.items c.loop-table-test.true c.table-item.is over c.loop-table.invariant.1 g c.loop-table.invariant.0.each full w.in_ok-group_of-in-None.ensures now,
          )
    ]
