use Rattle.std.proofs.Common.{ap, ◌∙◌, sym}
use Rattle.std.specs.List.{slice_set}
use Rattle.letter_queues.specs.Links.{LinkView}
use Rattle.letter_queues.specs.Inboxes.{without_next}
use Rattle.letter_queues.proofs.LinkLaws.{edited, unedited, front_of, front_none}
use Rattle.letter_queues.proofs.PlaceLaws.{set_senders}
use Rattle.letter_queues.proofs.inbox.gather_one.Goals as goal

pub returns-in_ok-take_off-clause-batch : goal.returns-in_ok-take_off-clause-batch
returns-in_ok-take_off-clause-batch c =
    c.in_ok-take_off.ensures.batch
    ∙ front_of c.args.batch.now.items c.args.next.count c.args.next.from c.args.links.now c.in-Some.at c.index-links-at.result (sym c.place_of.ensures ∙ c.in-Some.is)

pub returns-in_ok-take_off-clause-rest : goal.returns-in_ok-take_off-clause-rest
returns-in_ok-take_off-clause-rest c =
    ap (λ (x : LinkView). slice_set c.args.links.now c.in-Some.at x) c.in_ok-take_off.ensures.rest
    ∙ edited c.args.next.from (without_next c.args.next.count) c.args.links.now c.in-Some.at c.index-links-at.result (sym c.place_of.ensures ∙ c.in-Some.is)

pub returns-in_default-clause-batch : goal.returns-in_default-clause-batch
returns-in_default-clause-batch c = front_none c.args.batch.now.items c.args.next.count c.args.next.from c.args.links.now (sym c.place_of.ensures ∙ c.in_default.is)

pub returns-in_default-clause-rest : goal.returns-in_default-clause-rest
returns-in_default-clause-rest c = unedited c.args.next.from (without_next c.args.next.count) c.args.links.now (sym c.place_of.ensures ∙ c.in_default.is)

pub returns-in_ok-take_off-clause-senders : goal.returns-in_ok-take_off-clause-senders
returns-in_ok-take_off-clause-senders c = set_senders c.args.links.now c.in-Some.at c.take_off.new.self c.index-links-at.result c.take_off.ensures.from

pub returns-in_err-take_off-clause-senders : goal.returns-in_err-take_off-clause-senders
returns-in_err-take_off-clause-senders c = set_senders c.args.links.now c.in-Some.at c.take_off.new.self c.index-links-at.result c.take_off.ensures.from
