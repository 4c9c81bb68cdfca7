use Rattle.std.proofs.Common.{◌≡◌, ◌<◌, ℕ, List, false, length, get_or, sym, ap, subst, ◌∙◌, arith}
use Rattle.std.specs.List.{All}
use Rattle.std.proofs.lemmas.List.{length-set}
use Rattle.dcop_base.specs.Table.{CostTable, has_repeat}
use Rattle.agent_knowledge.proofs.RowLaws.{item_below}
use Rattle.agent_knowledge.proofs.TableLaws.{table_pushed}
use Rattle.agent_knowledge.proofs.tables.push_table.Goals as goal

pub loop-var-preserved : goal.loop-var-preserved
loop-var-preserved c =
    let scope = c.as_slice-var-items.result.now in
    let same : scope ≡ c.args.table.now.scope = c.as_slice-var-items.ensures ∙ ap (λ (t : CostTable). t.scope) c.table.view_is in
    let lt : c.loop-var.var-index < length scope = omega (arith, c.loop-var-test.true, c.loop-var.auto.var-index-end) in
    let within : All (λ v. v < length c.args.rows.now) scope = subst (λ (xs : List ℕ). All (λ v. v < length c.args.rows.now) xs) (sym same) c.requires.within in
    let once : has_repeat scope ≡ false = subst (λ (xs : List ℕ). has_repeat xs ≡ false) (sym same) c.requires.once in
    let below = item_below (length c.args.rows.now) scope c.loop-var.var-index c.var-item.result c.var.inside.0 within lt c.var-item.is c.var.view_is in
    let size = c.loop-var.invariant.size in
    record {
      pushed = table_pushed scope c.loop-var.var-index c.var.inside.0 c.args.table.now c.in_ok-clone.field-0 c.args.rows.now c.loop-var.rows c.index-rows-var.result c.push.new.self lt
          (subst (λ (x : ℕ). x ≡ get_or scope c.loop-var.var-index x) (sym c.var.view_is) c.var-item.is) once (omega (arith, below, size)) c.in_ok-clone.ensures.cases c.in_ok-push.ensures.items c.loop-var.invariant.pushed;
      size = length-set c.loop-var.rows c.var.inside.0 c.push.new.self ∙ size;
    }
