use Rattle.std.proofs.Common.{◌&&◌, ◌∙◌, ◌∷◌, [], ap₂, refl}
use Rattle.node_exchange.specs.Passings.{IsOnLink}
use Rattle.node_exchange.proofs.LetterLaws.{all_same, all_same_then, all_front, all_last}
use Rattle.node_exchange.proofs.ReceiveLaws.{still_apart, still_on_link, received_nothing, all_received_then}
use Rattle.node_exchange.proofs.intake.deliver_all.Goals as goal

pub returns-in_err-letters-clause-same : goal.returns-in_err-letters-clause-same
returns-in_err-letters-clause-same c = all_same c.args.passings.now

pub returns-in_default-clause-same : goal.returns-in_default-clause-same
returns-in_default-clause-same c = all_same c.args.passings.now

pub loop-letter-init : goal.loop-letter-init
loop-letter-init c = record { same = all_same c.args.passings.now; received = λ on. (refl, received_nothing c.args.from_node c.args.to_node c.args.passings.now) }

pub deliver-requires : goal.deliver-requires
deliver-requires c = record { apart = still_apart c.args.passings.now c.loop-letter.passings c.loop-letter.invariant.same c.requires.apart }

pub returns-in_err-there-clause-same : goal.returns-in_err-there-clause-same
returns-in_err-there-clause-same c = all_same_then c.args.passings.now c.loop-letter.passings c.deliver.new.passings c.loop-letter.invariant.same c.deliver.ensures.same

pub loop-letter-preserved : goal.loop-letter-preserved
loop-letter-preserved c =
    let i = c.loop-letter.invariant in
    let l = c.in-Some-letter.letter in
    record {
      same = all_same_then c.args.passings.now c.loop-letter.passings c.deliver.new.passings i.same c.deliver.ensures.same;
      received = λ on.
          let old = i.received (all_front (IsOnLink c.args.from_node c.args.to_node c.args.passings.now) c.loop-letter.yielded (l ∷ []) on) in
          let own = still_on_link c.args.from_node c.args.to_node c.args.passings.now c.loop-letter.passings l i.same (all_last (IsOnLink c.args.from_node c.args.to_node c.args.passings.now) c.loop-letter.yielded l on) in
          let one = c.in_ok-there.ensures.only own in (
            c.both-whole.ensures ∙ ap₂ (λ x y. x && y) old.0 one.0,
            all_received_then c.args.from_node c.args.to_node c.loop-letter.yielded (l ∷ []) c.args.passings.now c.loop-letter.passings c.deliver.new.passings old.1 one.1,
          );
    }
