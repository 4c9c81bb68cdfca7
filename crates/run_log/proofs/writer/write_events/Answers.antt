use Rattle.run_log.proofs.EventLineLaws.{all_counted}
use Rattle.run_log.proofs.writer.write_events.Goals as goal

pub returns-clause-counts : goal.returns-clause-counts
returns-clause-counts c = all_counted c.args.log.now c.loop-event.event-index c.loop-event-test.false c.loop-event.invariant.1
