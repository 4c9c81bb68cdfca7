use Rattle.std.proofs.Common.{◌≡◌, length, Option, Some, sym, ap, ◌∙◌}
use Rattle.letter_queues.specs.Links.{LinkView, link_from, waiting_on}
use Rattle.letter_queues.proofs.LinkLaws.{found, missed}
use Rattle.letter_queues.proofs.inbox.count_from.Goals as goal

pub returns-in-Some : goal.returns-in-Some
returns-in-Some c =
    let here : link_from c.args.from c.args.links.now ≡ Some c.index-links-at.result =
    found c.args.from c.args.links.now c.in-Some.at c.index-links-at.result (sym c.place_of.ensures ∙ c.in-Some.is) ∙ ap (λ (x : LinkView). Some x) (sym c.index-links-at.is) in
    c.count.ensures ∙ sym (ap (λ (o : Option LinkView). length (waiting_on o)) here)

pub returns-in-None : goal.returns-in-None
returns-in-None c = sym (ap (λ (o : Option LinkView). length (waiting_on o)) (missed c.args.from c.args.links.now (sym c.place_of.ensures ∙ c.in-None.is)))
