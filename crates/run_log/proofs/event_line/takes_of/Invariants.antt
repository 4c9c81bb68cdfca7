use Rattle.std.proofs.Common.{◌≡◌, length}
use Rattle.problem_text.specs.Lines.{words}
use Rattle.run_log.specs.EventLine.{takes_told}
use Rattle.run_log.proofs.EventLineLaws.{after_takes}
use Rattle.run_log.proofs.event_line.takes_of.Given as goal

-- the takes, with those of what is left, are all
abbrev pub invariant-loop-sender : goal.invariant-loop-sender
invariant-loop-sender l = after_takes l.takes.items (takes_told l.names (words l.rest)) ≡ takes_told l.names (words l.text)

abbrev pub decreases-loop-sender : goal.decreases-loop-sender
decreases-loop-sender l = length (words l.rest)
