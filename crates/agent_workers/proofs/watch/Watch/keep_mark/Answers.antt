use Rattle.std.proofs.Common.{rules, arith, ap, ◌∙◌, slice_get}
use Rattle.agent_workers.proofs.WatchLaws.{marked_same, unset_at}
use Rattle.agent_workers.proofs.watch.Watch.keep_mark.Goals as goal
use Rattle.agent_workers.proofs.watch.Watch.keep_mark.Goals.{else-place-lt-MAX_VARIABLES-via-then-place-lt-MAX_VARIABLES+else-self-place, else-place-lt-MAX_VARIABLES-via-else-place-lt-MAX_VARIABLES}

pub returns-then-self-place-clause-same : goal.returns-then-self-place-clause-same
returns-then-self-place-clause-same c k un = ap (λ flags. slice_get flags k) c.mark.ensures.marks ∙ marked_same c.mark.new.self.waits c.args.place (c.mark.ensures.here (let lt = c.if-place-lt-MAX_VARIABLES.true in search rules)) c.args.self.now.marks k un

pub returns-then-self-place-clause-sent : goal.returns-then-self-place-clause-sent
returns-then-self-place-clause-sent c lt un = absurd (c.mark.ensures.here lt un)

pub returns-else-place-lt-MAX_VARIABLES-clause-sent : goal.returns-else-place-lt-MAX_VARIABLES-clause-sent
returns-else-place-lt-MAX_VARIABLES-clause-sent c lt un = elim c.else-place-lt-MAX_VARIABLES.branch [
  | else-place-lt-MAX_VARIABLES-via-then-place-lt-MAX_VARIABLES+else-self-place w ↦ unset_at c.args.self.now.marks c.args.place (search rules) w.if-self-place.false
  | else-place-lt-MAX_VARIABLES-via-else-place-lt-MAX_VARIABLES w ↦ let no = w.if-place-lt-MAX_VARIABLES.false in absurd (omega (arith, no, lt))
]
