use Rattle.std.proofs.Common.{ℕ, List, sym, ap, subst, ◌∙◌}
use Rattle.std.specs.List.Sorted.{IsStrictlyIncreasing}
use Rattle.letter_queues.specs.Links.{LinkView}
use Rattle.letter_queues.specs.Inboxes.{senders}
use Rattle.letter_queues.proofs.PlaceLaws.{new_senders}
use Rattle.letter_queues.proofs.inbox.Inbox.new.Goals as goal

pub invariant_of-result : goal.invariant_of-result
invariant_of-result c = λ up.
    let same = ap (λ (ls : List LinkView). senders ls) c.in_ok-links.ensures ∙ new_senders c.args.senders.now in
    subst (λ (js : List ℕ). IsStrictlyIncreasing js) (sym same) (c.are_ascending.ensures up)
