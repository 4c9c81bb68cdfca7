use Rattle.std.proofs.Common.{refl}
use Rattle.node_exchange.proofs.LetterLaws.{all_same}
use Rattle.node_exchange.proofs.ReceiveLaws.{same_set, received_one, found_nowhere, inside_at}
use Rattle.node_exchange.proofs.intake.deliver.Goals as goal

pub returns-in_default-clause-same : goal.returns-in_default-clause-same
returns-in_default-clause-same c = all_same c.args.passings.now

pub returns-in_default-clause-only : goal.returns-in_default-clause-only
returns-in_default-clause-only c = λ on. absurd (found_nowhere c.args.from_node c.args.to_node c.args.passings.now c.args.letter c.in_default.ensures on)

pub returns-in_err-receive-clause-same : goal.returns-in_err-receive-clause-same
returns-in_err-receive-clause-same c =
    same_set c.args.passings.now c.in-Some.place c.receive.new.self c.index-passings-place.result
    (inside_at c.args.from_node c.args.to_node c.args.letter.from c.args.letter.to c.in-Some.place c.args.passings.now c.index-passings-place.result c.in-Some.ensures) c.receive.ensures.same

pub returns-clause-same : goal.returns-clause-same
returns-clause-same c =
    same_set c.args.passings.now c.in-Some.place c.receive.new.self c.index-passings-place.result
    (inside_at c.args.from_node c.args.to_node c.args.letter.from c.args.letter.to c.in-Some.place c.args.passings.now c.index-passings-place.result c.in-Some.ensures) c.receive.ensures.same

pub returns-clause-only : goal.returns-clause-only
returns-clause-only c = λ on.
    (refl, received_one c.args.from_node c.args.to_node c.in-Some.place c.args.passings.now c.args.letter c.receive.new.self c.index-passings-place.result c.requires.apart c.in-Some.ensures c.receive.ensures.same c.in_ok-receive.ensures.arrived)
