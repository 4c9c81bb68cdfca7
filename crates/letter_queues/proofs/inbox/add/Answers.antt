use Rattle.std.proofs.Common.{ap, sym, ◌∙◌}
use Rattle.letter_queues.proofs.ListLaws.{on_ok}
use Rattle.std.specs.List.{slice_set}
use Rattle.letter_queues.specs.Links.{LinkView}
use Rattle.letter_queues.specs.Inboxes.{with_letter}
use Rattle.letter_queues.proofs.LinkLaws.{edited, unedited}
use Rattle.letter_queues.proofs.PlaceLaws.{set_senders}
use Rattle.letter_queues.proofs.inbox.add.Goals as goal

pub returns-in-Some-clause-added : goal.returns-in-Some-clause-added
returns-in-Some-clause-added c =
    on_ok c.add.result c.add.ensures.added (λ new. ap (λ (x : LinkView). slice_set c.args.links.now c.in-Some.at x) new
    ∙ edited c.args.from (with_letter c.args.letter) c.args.links.now c.in-Some.at c.index-links-at.result (sym c.place_of.ensures ∙ c.in-Some.is))

pub returns-in-Some-clause-senders : goal.returns-in-Some-clause-senders
returns-in-Some-clause-senders c = set_senders c.args.links.now c.in-Some.at c.add.new.self c.index-links-at.result c.add.ensures.from

pub returns-in-None-clause-added : goal.returns-in-None-clause-added
returns-in-None-clause-added c = unedited c.args.from (with_letter c.args.letter) c.args.links.now (sym c.place_of.ensures ∙ c.in-None.is)
