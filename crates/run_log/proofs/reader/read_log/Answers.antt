use Rattle.std.proofs.Common.{arith, ◌+◌}
use Rattle.problem_text.specs.Lines.{words}
use Rattle.problem_text.specs.PlainLines.{Plain, plain_lines}
use Rattle.run_log.proofs.EventLineLaws.{one_event, told_is}
use Rattle.run_log.proofs.reader.read_log.Goals as goal

pub loop-line-preserved : goal.loop-line-preserved
loop-line-preserved c =
    let low = c.loop-line.invariant.0 in
    let step = c.in-Some.ensures.lines in
    let line : Plain = record { number = c.in-Some.line.number; words = words c.in-Some.line.text.now } in (
      omega (arith, low, step),
      one_event c.args.names.now (plain_lines c.loop-line.number c.loop-line.rest.now) (plain_lines (c.in-Some.line.number + 1) c.in-Some.line.after.now) line c.loop-line.events.items c.push.new.self.items c.in_ok-told_by.field-0 _ c.in-Some.ensures.line
          (told_is c.in-Some.line.number c.event_of_line-event.result _ c.in_ok-told_by.field-0 c.event_of_line-event.ensures c.in_ok-told_by.ensures) c.in_ok-push.ensures.items c.loop-line.invariant.1,
    )
