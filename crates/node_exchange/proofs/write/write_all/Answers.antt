use Rattle.std.proofs.Common.{◌++◌, sym, ap, subst, ◌∙◌, take}
use Rattle.std.specs.List.{flat_map}
use Rattle.std.proofs.lemmas.List.{append_assoc}
use Rattle.std.proofs.lemmas.List.Elements.{All-more}
use Rattle.wire_frames.specs.Frame.{framed}
use Rattle.node_exchange.specs.Letters.{letter, IsLetter}
use Rattle.node_exchange.specs.Payloads.{payload_code}
use Rattle.node_exchange.proofs.LetterLaws.{flat_more}
use Rattle.node_exchange.proofs.write.write_all.Goals as goal

pub loop-envelope-preserved : goal.loop-envelope-preserved
loop-envelope-preserved c =
    let e = c.envelope-item.result in
    record {
      frames =
          c.in_ok-write_one.ensures.frame ∙ ap (λ bs. bs ++ framed (payload_code c.args.from c.args.to e)) c.loop-envelope.invariant.frames
          ∙ append_assoc c.args.bytes.now.items (flat_map (λ x. framed (payload_code c.args.from c.args.to x)) (take c.loop-envelope.envelope-index c.args.drained.now)) (framed (payload_code c.args.from c.args.to e))
          ∙ ap (λ bs. c.args.bytes.now.items ++ bs) (sym (flat_more (λ x. framed (payload_code c.args.from c.args.to x)) c.args.drained.now c.loop-envelope.envelope-index e c.loop-envelope-test.true c.envelope-item.is));
      good = All-more (λ x. IsLetter (letter c.args.from c.args.to x)) c.args.drained.now c.loop-envelope.envelope-index e c.loop-envelope-test.true c.loop-envelope.invariant.good (subst (λ x. IsLetter (letter c.args.from c.args.to x)) c.envelope-item.is c.in_ok-write_one.ensures.good);
    }
