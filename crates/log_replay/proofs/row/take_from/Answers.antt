use Rattle.std.proofs.Common.{Option, max, take, sym, ap, ◌∙◌}
use Rattle.std.specs.List.{fold, slice_set}
use Rattle.log_replay.specs.Queues.{QueueView, stamps_of, without_next}
use Rattle.log_replay.proofs.QueueLaws.{edited, unedited, found, missed, none_greatest}
use Rattle.log_replay.proofs.row.take_from.Goals as goal

pub returns-in-Some-clause-greatest : goal.returns-in-Some-clause-greatest
returns-in-Some-clause-greatest c =
    c.take_off.ensures.greatest
    ∙ ap (λ (o : Option QueueView). fold max 0 (take c.args.count (stamps_of o))) (sym (found c.args.to c.args.queues.now c.in-Some.at c.index-queues-at.result (sym c.place_of.ensures ∙ c.in-Some.is)))

pub returns-in-Some-clause-rest : goal.returns-in-Some-clause-rest
returns-in-Some-clause-rest c =
    ap (λ (q : QueueView). slice_set c.args.queues.now c.in-Some.at q) c.take_off.ensures.rest
    ∙ edited c.args.to (without_next c.args.count) c.args.queues.now c.in-Some.at c.index-queues-at.result (sym c.place_of.ensures ∙ c.in-Some.is)

pub returns-in-None-clause-rest : goal.returns-in-None-clause-rest
returns-in-None-clause-rest c = unedited c.args.to (without_next c.args.count) c.args.queues.now (sym c.place_of.ensures ∙ c.in-None.is)

pub returns-in-None-clause-greatest : goal.returns-in-None-clause-greatest
returns-in-None-clause-greatest c = none_greatest c.args.count c.args.to c.args.queues.now (missed c.args.to c.args.queues.now (sym c.place_of.ensures ∙ c.in-None.is))
