use Rattle.std.proofs.Common.{ℕ, List, ◌≡◌, ◌<◌, ◌-◌, length, deque_len, Some, subst, get_or, refl}
use Rattle.std.specs.List.{last_or}
use Rattle.protocol_steps.specs.declared.message.Message.{Message}
use Rattle.letter_queues.proofs.LinkLaws.{last_queued}
use Rattle.letter_queues.proofs.queue.Queue.last.Goals as goal

pub returns-in-Some : goal.returns-in-Some
returns-in-Some c =
    let w = c.self.inside.behind in
    let size : deque_len w ≡ length w.items = w.ok.0 in
    let some : 0 < length w.items = rw (← size) (c.in-Some.ensures.variant.0 refl) in
    let here : c.in-Some.letter.now ≡ get_or w.items (length w.items - 1) c.in-Some.letter.now = rw (← size) c.in-Some.ensures.lookup in
    λ o. subst (λ (xs : List (ℕ × Message)). last_or o xs ≡ Some c.in-Some.letter.now) c.self.view_is (last_queued c.self.inside.first w.items o c.in-Some.letter.now some here)
