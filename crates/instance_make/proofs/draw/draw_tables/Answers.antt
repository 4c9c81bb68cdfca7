use Rattle.std.proofs.Common.{◌≡◌, ℕ, ◌+◌, ◌-◌, List, [], ◌++◌, replicate, min, sym, subst, arith}
use Rattle.dcop_base.specs.Table.{CostTable}
use Rattle.instance_make.specs.Generator.{draws_behind}
use Rattle.instance_make.proofs.DrawnLaws.{IsDrawn, drawn-none, drawn-again, drawn-end}
use Rattle.instance_make.proofs.draw.draw_tables.Goals as goal

pub loop-var-init : goal.loop-var-init
loop-var-init c =
    subst (λ (ts : List CostTable). IsDrawn c.args.size c.args.top c.args.words.now [] ts c.args.words.now) (sym c.new-tables.ensures.items)
    (drawn-none c.args.size c.args.top c.args.words.now)

pub loop-preserved : goal.loop-preserved
loop-preserved c =
    subst
    (λ (ts : List CostTable). IsDrawn c.args.size c.args.top c.args.words.now (draws_behind c.args.degree (c.loop-var.var - 1) ++ replicate (c.loop.counter + 1) c.loop-var.var) ts c.draw_table.new.words)
    (sym c.in_ok-push.ensures.items)
    (drawn-again c.args.size c.args.top c.args.words.now (draws_behind c.args.degree (c.loop-var.var - 1)) c.loop.tables.items c.loop.words c.loop.counter c.loop-var.var c.in_ok-draw_table.field-0 c.draw_table.new.words
    c.loop.invariant c.in_ok-draw_table.ensures.table c.in_ok-draw_table.ensures.words)

pub loop-var-preserved : goal.loop-var-preserved
loop-var-preserved c =
    let least = c.min-end.ensures in
    let done = c.loop-test.false in
    let within = c.loop.auto.counter-end in
    let first = c.loop-var.auto.var in
    let all : c.loop.counter ≡ min c.loop-var.var c.args.degree = omega (arith, least, done, within) in
    let is : c.loop-var.var ≡ 1 + (c.loop-var.var - 1) = omega (arith, first) in
    let next : c.loop-var.var - 1 + 1 ≡ c.loop-var.var + 1 - 1 = omega (arith, first) in
    subst (λ (n : ℕ). IsDrawn c.args.size c.args.top c.args.words.now (draws_behind c.args.degree n) c.loop.tables.items c.loop.words) next
    (drawn-end c.args.size c.args.top c.args.words.now c.args.degree c.loop.tables.items c.loop.words (c.loop-var.var - 1) c.loop-var.var c.loop.counter is all c.loop.invariant)
