use Rattle.std.proofs.Common.{◌≡◌, ◌-◌, min, eqb, List, ℕ, length, ap, refl, sym, subst, ◌∙◌, arith}
use Rattle.std.proofs.lemmas.Bool.{eqb-true}
use Rattle.std.specs.List.{fold}
use Rattle.dcop_base.specs.Limits.{count_limit}
use Rattle.dcop_base.specs.Table.{CostTable, IsTable}
use Rattle.bucket_bounds.specs.declared.keeping.Kept.{Kept}
use Rattle.bucket_bounds.proofs.KeptLaws.{none_in, some_of, table_least, keeps_closed, keeps_least, keeps_table}
use Rattle.bucket_bounds.proofs.keeping.keep.Goals as goal

pub returns-then-is_empty : goal.returns-then-is_empty
returns-then-is_empty c =
    let t = c.args.table.now in
    let cells : c.as_slice.result.now ≡ t.cells = c.as_slice.ensures ∙ ap (λ (t : CostTable). t.cells) c.table.view_is in
    let scope : c.as_slice-2.result.now ≡ t.scope = c.as_slice-2.ensures ∙ ap (λ (t : CostTable). t.scope) c.table.view_is in
    let is = table_least t c.least_of-least.result (subst IsTable c.table.view_is c.table.invariant) (c.least_of-least.ensures ∙ ap (λ (cs : List ℕ). fold min count_limit cs) cells) in
    keeps_closed c.args.kept.now t c.least_of-least.result c.saturating_add-kept.result c.saturating_add-kept.ensures is
    (sym scope ∙ none_in c.as_slice-2.result.now (eqb-true (length c.as_slice-2.result.now) 0 (sym c.is_empty.ensures ∙ c.if-is_empty.true)))

pub returns-then-kept-cells : goal.returns-then-kept-cells
returns-then-kept-cells c =
    let t = c.args.table.now in
    let cells : c.as_slice.result.now ≡ t.cells = c.as_slice.ensures ∙ ap (λ (t : CostTable). t.cells) c.table.view_is in
    let is = table_least t c.least_of-least.result (subst IsTable c.table.view_is c.table.invariant) (c.least_of-least.ensures ∙ ap (λ (cs : List ℕ). fold min count_limit cs) cells) in
    let scope : c.as_slice-2.result.now ≡ t.scope = c.as_slice-2.ensures ∙ ap (λ (t : CostTable). t.scope) c.table.view_is in
    let named = some_of (length t.scope) (ap (λ (vs : List ℕ). eqb (length vs) 0) (sym scope) ∙ sym c.is_empty.ensures ∙ c.if-is_empty.false) in
    keeps_least c.args.kept.now t c.least_of-least.result c.saturating_add-kept-then-kept-cells.result c.saturating_add-kept-then-kept-cells-2.result c.saturating_add-kept-then-kept-cells.ensures is named
    (let full = c.if-kept-cells.true in let count = ap (λ (cs : List ℕ). length cs) (c.as_slice-3.ensures ∙ ap (λ (t : CostTable). t.cells) c.table.view_is) in omega (arith, full, count)) c.saturating_add-kept-then-kept-cells-2.ensures

pub returns : goal.returns
returns c =
    let t = c.args.table.now in
    let old = c.args.kept.now in
    let cells : c.as_slice-3.result.now ≡ t.cells = c.as_slice-3.ensures ∙ ap (λ (t : CostTable). t.cells) c.table.view_is in
    let count = ap (λ (cs : List ℕ). length cs) cells in
    let fits = c.if-kept-cells.false in
    let new : Kept = record { sent = c.push.new.self; fixed = old.fixed; replaced = old.replaced; room = old.room - length c.as_slice-3.result.now } in
    let scope : c.as_slice-2.result.now ≡ t.scope = c.as_slice-2.ensures ∙ ap (λ (t : CostTable). t.scope) c.table.view_is in
    let named = some_of (length t.scope) (ap (λ (vs : List ℕ). eqb (length vs) 0) (sym scope) ∙ sym c.is_empty.ensures ∙ c.if-is_empty.false) in
    keeps_table old new t c.in_ok-clone.field-0 c.in_ok-clone.ensures.cases named c.in_ok-push.ensures.items (omega (arith, fits, count)) (omega (arith, count)) refl refl
