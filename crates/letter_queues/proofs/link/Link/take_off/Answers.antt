use Rattle.std.proofs.Common.{[], ◌∷◌, ◌++◌, take, sym, ap, ◌∙◌, append_assoc}
use Rattle.letter_queues.specs.Letters.{waiting_in}
use Rattle.letter_queues.proofs.LinkLaws.{one_more, no_more}
use Rattle.letter_queues.proofs.link.Link.take_off.Goals as goal
use Rattle.letter_queues.proofs.link.Link.take_off.Goals.{in-Some+in_ok-push, in_default}

pub loop-preserved : goal.loop-preserved
loop-preserved c = elim c.match-pop.branch [
  | in-Some+in_ok-push w ↦
      let waiting = c.args.self.now.waiting in
      let before = c.args.batch.now.items in
      let taken = take c.loop.counter waiting in
      let more = one_more c.loop.counter waiting (waiting_in c.pop.new.self) w.in-Some.letter (sym w.in-Some.ensures.items ∙ c.loop.invariant.rest) in
      let batch = w.in_ok-push.ensures.items ∙ ap (λ zs. zs ++ (w.in-Some.letter ∷ [])) c.loop.invariant.batch ∙ append_assoc before taken (w.in-Some.letter ∷ []) ∙ ap (λ zs. before ++ zs) (sym more.0) in
      record { batch = rw w.batch-is batch; rest = more.1; from = c.loop.invariant.from; taken = c.pop.ensures.taken ∙ c.loop.invariant.taken }
  | in_default w ↦
      let waiting = c.args.self.now.waiting in
      let none = no_more c.loop.counter waiting (sym w.in_default.ensures.none ∙ c.loop.invariant.rest) in
      let batch = c.loop.invariant.batch ∙ ap (λ zs. c.args.batch.now.items ++ zs) (sym none.0) in
      let rest = sym w.in_default.ensures.items ∙ w.in_default.ensures.none ∙ none.1 in
      record { batch = rw w.batch-is batch; rest = rest; from = c.loop.invariant.from; taken = c.pop.ensures.taken ∙ c.loop.invariant.taken }
]
