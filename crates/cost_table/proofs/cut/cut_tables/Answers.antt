use Rattle.std.proofs.Common.{◌<◌, length, get_or, ap, ◌∙◌, subst}
use Rattle.std.proofs.lemmas.List.Elements.{all_zip_more}
use Rattle.dcop_base.specs.Problem.{Dcop}
use Rattle.dcop_base.specs.Whole.{IsProblem, IsTableOf}
use Rattle.dcop_base.proofs.TableLaws.{parts-of}
use Rattle.dcop_base.proofs.ProblemLaws.{table-at}
use Rattle.cost_table.specs.Slices.{IsCutOf}
use Rattle.cost_table.proofs.ProblemCutLaws.{fits-scope, cut-of}
use Rattle.cost_table.proofs.cut.cut_tables.Goals as goal

pub cut_table-requires-clause-fit : goal.cut_table-requires-clause-fit
cut_table-requires-clause-fit c =
    let p = c.args.problem.now in
    let tables = c.as_slice-table-items.ensures ∙ ap (λ (p : Dcop). p.tables) c.problem.view_is in
    let k = c.loop-table.table-index in
    let t = c.table-item.result in
    let lt : k < length p.tables = rw (← tables) c.loop-table-test.true in
    let of : IsTableOf p.sizes t = table-at p k t (subst IsProblem c.problem.view_is c.problem.invariant) lt (c.table-item.is ∙ ap (λ ts. get_or ts k t) tables) in
    rw of.sized (fits-scope t.scope p.sizes c.args.cut.now c.args.values.now (parts-of t.scope t.sizes t.cells of.whole).apart of.within c.requires)

pub loop-table-preserved : goal.loop-table-preserved
loop-table-preserved c =
    let p = c.args.problem.now in
    let tables = c.as_slice-table-items.ensures ∙ ap (λ (p : Dcop). p.tables) c.problem.view_is in
    let k = c.loop-table.table-index in
    let t = c.table-item.result in
    let s = c.in_ok-cut_table.field-0 in
    let is = c.table-item.is ∙ ap (λ ts. get_or ts k t) tables in
    let lt : k < length p.tables = rw (← tables) c.loop-table-test.true in
    let of : IsTableOf p.sizes t = table-at p k t (subst IsProblem c.problem.view_is c.problem.invariant) lt is in
    let cut = cut-of p.sizes c.args.cut.now c.args.values.now t s of c.in_ok-cut_table.ensures.slice c.in_ok-cut_table.ensures.whole c.in_ok-cut_table.ensures.fewer in
    rw c.in_ok-push.ensures.items (all_zip_more (IsCutOf p.sizes c.args.cut.now c.args.values.now) p.tables c.loop-table.tables.items k t s lt is c.loop-table.invariant cut)
