use Rattle.log_replay.proofs.NoteLaws.{notes_start}
use Rattle.log_replay.proofs.notes.notes_if.Goals as goal

pub returns-then-not-requested-clause-notes : goal.returns-then-not-requested-clause-notes
returns-then-not-requested-clause-notes c = λ made core. tt

pub returns-clause-notes : goal.returns-clause-notes
returns-clause-notes c = notes_start c.args.problem.now c.args.core.now c.in_ok-start.field-0 c.in_ok-start.ensures
