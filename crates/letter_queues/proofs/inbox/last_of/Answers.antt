use Rattle.std.proofs.Common.{◌≡◌, ℕ, Option, Some, None, sym, ap, subst, MatchOption, ◌∙◌}
use Rattle.std.specs.List.{last_or}
use Rattle.protocol_steps.specs.declared.message.Message.{Message}
use Rattle.letter_queues.specs.Links.{LinkView, link_from, waiting_on, taken_on}
use Rattle.letter_queues.proofs.LinkLaws.{found, missed}
use Rattle.letter_queues.proofs.inbox.last_of.Goals as goal

abbrev last_on : Option LinkView → Option (ℕ × Message)
last_on o = last_or (taken_on o) (waiting_on o)

pub returns-in-Some : goal.returns-in-Some
returns-in-Some c =
    let here : link_from c.args.from c.args.links.now ≡ Some c.index-links-at.result =
    found c.args.from c.args.links.now c.in-Some.at c.index-links-at.result (sym c.place_of.ensures ∙ c.in-Some.is) ∙ ap (λ (x : LinkView). Some x) (sym c.index-links-at.is) in
    subst (λ (o : Option LinkView). MatchOption c.last.result (last_on o ≡ None) (λ l. last_on o ≡ Some l.now)) (sym here) c.last.ensures

pub returns-in-None : goal.returns-in-None
returns-in-None c = ap last_on (missed c.args.from c.args.links.now (sym c.place_of.ensures ∙ c.in-None.is))
