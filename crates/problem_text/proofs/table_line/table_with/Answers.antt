use Rattle.std.proofs.Common.{◌≡◌, Some, None, min, sym, ap, ◌∙◌, ℕ, List}
use Rattle.dcop_base.specs.Table.{product}
use Rattle.dcop_base.specs.Limits.{cell_limit}
use Rattle.problem_text.specs.Declarations.{Declared}
use Rattle.problem_text.specs.Drafts.{IsDraft}
use Rattle.problem_text.specs.Lines.{words}
use Rattle.problem_text.specs.Tables.{numbers_of, cells_fault}
use Rattle.problem_text.specs.Cells.{summary}
use Rattle.problem_text.proofs.TableLineLaws.{some-same, with_cells-fault, cells-few, cells-sound, with_cells-sound, table-whole, own-sizes}
use Rattle.problem_text.proofs.table_line.table_with.Goals as goal

pub returns-in-Some-clause-gives : goal.returns-in-Some-clause-gives
returns-in-Some-clause-gives c =
    let own = own-sizes _ _ _ _ _ _ c.in_ok-sizes.ensures c.as_slice.ensures.value (ap (λ (d : Declared). d.sizes) c.draft.view_is) c.as_slice-2.ensures in
    with_cells-fault c.args.draft.now c.args.scope c.in_ok-sizes.sizes _ c.in_ok-cells.summary c.fault_of.result c.in-Some.kind c.in_ok-cells.ensures.told own (λ t s u. c.fault_of.ensures t (s ∙ sym c.as_slice-4.ensures) u) c.in-Some.is

-- where there is no fault all cells are kept
all-kept : (c : goal.In_ok-shared) → numbers_of (words c.args.text.now) ≡ Some c.in_ok-cells.cells.items
all-kept c =
    let most = c.most_cells-most.ensures ∙ ap (λ (s : List ℕ). min (product s) cell_limit) c.as_slice-3.ensures in
    c.in_ok-cells.ensures.kept (cells-few c.args.draft.now c.args.scope c.in_ok-sizes.sizes c.most_cells-most.result _ c.in_ok-cells.summary c.fault_of.result most c.in_ok-cells.ensures.told (λ t s u. c.fault_of.ensures t (s ∙ sym c.as_slice-4.ensures) u) c.in_default.is)

no-fault : (c : goal.In_ok-shared) → cells_fault c.args.draft.now.tables (record { scope = c.args.scope; sizes = c.in_ok-sizes.sizes; cells = c.in_ok-cells.cells.items }) ≡ None
no-fault c = cells-sound c.args.draft.now c.args.scope c.in_ok-sizes.sizes c.in_ok-cells.cells.items _ c.in_ok-cells.summary c.fault_of.result c.in_ok-cells.ensures.told (all-kept c) (λ t s u. c.fault_of.ensures t (s ∙ sym c.as_slice-4.ensures) u) c.in_default.is

pub invariant_of-table : goal.invariant_of-table
invariant_of-table c =
    let own = own-sizes _ _ _ _ _ _ c.in_ok-sizes.ensures c.as_slice.ensures.value (ap (λ (d : Declared). d.sizes) c.draft.view_is) c.as_slice-2.ensures in
    let draft : IsDraft c.args.draft.now = rw (← c.draft.view_is) c.draft.invariant.draft in
    rw c.in_ok-shared.ensures (table-whole c.args.draft.now c.args.scope c.in_ok-sizes.sizes c.in_ok-cells.cells.items draft c.requires.within c.requires.apart own (no-fault c))

pub returns-clause-gives : goal.returns-clause-gives
returns-clause-gives c =
    let own = own-sizes _ _ _ _ _ _ c.in_ok-sizes.ensures c.as_slice.ensures.value (ap (λ (d : Declared). d.sizes) c.draft.view_is) c.as_slice-2.ensures in
    rw c.in_ok-shared.ensures (with_cells-sound c.args.draft.now c.args.scope c.in_ok-sizes.sizes c.in_ok-cells.cells.items _ (all-kept c) own (no-fault c))

pub returns-clause-told : goal.returns-clause-told
returns-clause-told c =
    let told = c.in_ok-cells.ensures.told in
    rw c.in_ok-shared.ensures (some-same (summary c.in_ok-cells.cells.items) c.in_ok-cells.summary (rw (all-kept c) at told))

pub returns-clause-sound : goal.returns-clause-sound
returns-clause-sound c = rw c.in_ok-shared.ensures (no-fault c)
