use Rattle.std.proofs.Common.{◌∙◌, rules}
use Rattle.std.proofs.lemmas.List.Sorted.{answers_always}
use Rattle.letter_queues.specs.Links.{LinkView}
use Rattle.letter_queues.proofs.PlaceLaws.{searched}
use Rattle.letter_queues.proofs.place.place_by_halving.Goals as goal

-- the closure gives a link's sender
pub returns : goal.returns
returns c =
    let facts = c.binary_search_by_key.ensures in
    let by_key = facts.position (λ (l : LinkView). l.from) (answers_always _ _ _ (λ f a r g called. search rules)) in
    c.ok.ensures.value ∙ searched c.args.links.now c.args.from c.binary_search_by_key.result c.requires facts.bound by_key
