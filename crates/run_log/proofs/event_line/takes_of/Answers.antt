use Rattle.problem_text.specs.Lines.{words}
use Rattle.run_log.proofs.EventLineLaws.{one_take}
use Rattle.run_log.proofs.event_line.takes_of.Goals as goal

pub loop-sender-preserved : goal.loop-sender-preserved
loop-sender-preserved c =
    one_take c.args.names.now (words c.loop-sender.rest.now) (words c.in-Some.behind.now) (words c.in-Some-next_word.after.now) c.in-Some.sender.now c.in-Some-next_word.count.now c.loop-sender.takes.items c.push.new.self.items c.in_ok-take_of.field-0 _
    c.in-Some.ensures c.in-Some-next_word.ensures c.in_ok-take_of.ensures c.in_ok-push.ensures.items c.loop-sender.invariant
