use Rattle.std.proofs.Common.{ap, sym, ◌∙◌}
use Rattle.letter_queues.proofs.ListLaws.{on_ok}
use Rattle.std.specs.List.{slice_set}
use Rattle.letter_queues.specs.Links.{LinkView}
use Rattle.letter_queues.specs.Inboxes.{with_last}
use Rattle.letter_queues.proofs.LinkLaws.{edited, unedited}
use Rattle.letter_queues.proofs.PlaceLaws.{set_senders}
use Rattle.letter_queues.proofs.inbox.keep_one.Goals as goal

pub returns-in-Some-clause-kept : goal.returns-in-Some-clause-kept
returns-in-Some-clause-kept c =
    on_ok c.keep.result c.keep.ensures.kept (λ new. ap (λ (x : LinkView). slice_set c.args.links.now c.in-Some.at x) new
    ∙ edited c.args.from (with_last c.args.letter) c.args.links.now c.in-Some.at c.index-links-at.result (sym c.place_of.ensures ∙ c.in-Some.is))

pub returns-in-Some-clause-senders : goal.returns-in-Some-clause-senders
returns-in-Some-clause-senders c = set_senders c.args.links.now c.in-Some.at c.keep.new.self c.index-links-at.result c.keep.ensures.from

pub returns-in-None-clause-kept : goal.returns-in-None-clause-kept
returns-in-None-clause-kept c = unedited c.args.from (with_last c.args.letter) c.args.links.now (sym c.place_of.ensures ∙ c.in-None.is)
