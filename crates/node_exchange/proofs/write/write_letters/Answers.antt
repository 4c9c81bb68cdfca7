use Rattle.std.proofs.Common.{◌++◌, sym, ap, subst, ◌∙◌, take}
use Rattle.std.specs.List.{All}
use Rattle.node_exchange.specs.Letters.{IsLetter}
use Rattle.node_exchange.specs.Passings.{letters_on, letters_of, frames_on}
use Rattle.node_exchange.proofs.LetterLaws.{flat_more, all_append}
use Rattle.node_exchange.proofs.write.write_letters.Goals as goal

pub loop-passing-preserved : goal.loop-passing-preserved
loop-passing-preserved c =
    let p = c.passing-item.result in
    let i = c.loop-passing.invariant in
    record {
      frames =
          c.in_ok-write_link.ensures.frames ∙ ap (λ bs. bs ++ frames_on c.args.from_node c.args.to_node p) i.frames
          ∙ sym (flat_more (frames_on c.args.from_node c.args.to_node) c.args.passings.now c.loop-passing.passing-index p c.loop-passing-test.true c.passing-item.is);
      letters =
          subst (λ ls. All IsLetter ls) (sym (flat_more (letters_on c.args.from_node c.args.to_node) c.args.passings.now c.loop-passing.passing-index p c.loop-passing-test.true c.passing-item.is))
          (all_append IsLetter (letters_of c.args.from_node c.args.to_node (take c.loop-passing.passing-index c.args.passings.now)) (letters_on c.args.from_node c.args.to_node p) i.letters c.in_ok-write_link.ensures.letters);
    }
