use Rattle.std.proofs.Common.{◌≤◌, ◌+◌, length, length-drop, arith, ◌∙◌}
use Rattle.std.proofs.lemmas.List.{take_rest}
use Rattle.dcop_edge.proofs.AddsLaws.{Adds-take}
use Rattle.answer_io.proofs.writing.write_all.Goals as goal

pub loop-at-preserved : goal.loop-at-preserved
loop-at-preserved g c =
    let text = c.args.text.now in
    let taken = rw take_rest at c.in_ok-at.ensures.taken in
    let within : c.loop-at.at + c.in_ok-at.field-0 ≤ length text = omega (arith, taken.within, length-drop c.loop-at.at text, c.loop-at-test.true) in
    record {
      within = within;
      added = Adds-take (g.K.Sink.held c.args.sink.now) (g.K.Sink.held c.loop-at.sink) (g.K.Sink.held c.write.new.self) text c.loop-at.at c.in_ok-at.field-0 c.loop-at.invariant.added taken.added;
      count = c.in_ok-at.ensures.cause ∙ c.loop-at.invariant.count;
    }
