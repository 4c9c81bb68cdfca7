use Rattle.std.proofs.Common.{◌≡◌, ◌<◌, ◌&&◌, ℕ, refl, length, get_or, sym, ap, ◌∙◌, Vec, Global, Bor, List}
use Rattle.std.specs.List.{list_all}
use Rattle.dcop_base.specs.Table.{CostTable, has}
use Rattle.pseudotree.specs.Pseudotree.{is_within}
use Rattle.dcop_base.specs.Problem.{Dcop}
use Rattle.dcop_optimum.specs.Certificate.{is_on_path}
use Rattle.certificate_check.proofs.PartLaws.{keeps, skips}
use Rattle.certificate_check.proofs.parts.own_tables.Goals as goal
use Rattle.certificate_check.proofs.parts.own_tables.Goals.{then-is_on_path+in_ok-push, else-is_on_path}

pub loop-table-preserved : goal.loop-table-preserved
loop-table-preserved c =
    let tables : c.as_slice-table-items.result.now ≡ c.args.problem.now.tables = c.as_slice-table-items.ensures ∙ ap (λ (q : Dcop). q.tables) c.problem.view_is in
    let is : c.table-item.result ≡ get_or c.args.problem.now.tables c.loop-table.table-index c.table-item.result =
    c.table-item.is ∙ ap (λ (ts : List CostTable). get_or ts c.loop-table.table-index c.table-item.result) tables in
    let lt : c.loop-table.table-index < length c.args.problem.now.tables = rw (← tables) c.loop-table-test.true in
    let scope = c.as_slice.ensures ∙ ap (λ (t : CostTable). t.scope) c.table.view_is in
    let test : is_on_path c.args.tree.now.paths c.args.var c.table-item.result ≡ c.is_on_path.result =
    ap (λ (vs : List ℕ). has vs c.args.var && list_all (λ v. is_within c.args.tree.now.paths v c.args.var) vs) (sym scope) ∙ sym c.is_on_path.ensures in
    elim c.if-is_on_path.branch [
      | then-is_on_path+in_ok-push w ↦
          keeps (is_on_path c.args.tree.now.paths c.args.var) c.args.problem.now.tables c.loop-table.table-index c.table-item.result c.loop-table.own.items c.if-is_on_path.own.items _
          lt is refl (test ∙ w.if-is_on_path.true) c.loop-table.invariant (ap (λ (v : Vec (Bor CostTable) Global). v.items) w.own-is ∙ w.in_ok-push.ensures.items)
      | else-is_on_path w ↦
          skips (is_on_path c.args.tree.now.paths c.args.var) c.args.problem.now.tables c.loop-table.table-index c.table-item.result c.loop-table.own.items c.if-is_on_path.own.items
          lt is (test ∙ w.if-is_on_path.false) c.loop-table.invariant (ap (λ (v : Vec (Bor CostTable) Global). v.items) w.own-is)
    ]
