use Rattle.std.proofs.Common.{sym, ◌∙◌}
use Rattle.instance_make.proofs.DrawnLaws.{cells-more}
use Rattle.instance_make.proofs.StreamLaws.{state-none, word-next}
use Rattle.instance_make.proofs.draw.draw_cells.Goals as goal

pub loop-init : goal.loop-init
loop-init c = (c.in_ok-cells.ensures.items, sym (state-none c.args.words.now))

pub loop-preserved : goal.loop-preserved
loop-preserved c =
    let next = word-next c.args.words.now c.loop.counter c.loop.words c.next_word.result c.next_word.new.self c.loop.invariant.1 c.next_word.ensures in
    (c.in_ok-push.ensures.items ∙ cells-more c.args.top c.args.words.now c.loop.counter c.loop.cells.items c.next_word.result c.loop.invariant.0 next.0, next.1)
