use Rattle.std.proofs.Common.{◌∙◌}
use Rattle.node_exchange.specs.Passings.{letters_of}
use Rattle.node_exchange.proofs.LetterLaws.{frames_are, letters_on_links}
use Rattle.node_exchange.proofs.bytes.other_byte.Goals as goal

pub unreachable-requires : goal.unreachable-requires
unreachable-requires c =
    c.requires.strange (letters_of c.args.from_node c.args.to_node c.args.passings.now) c.in_ok-went.ensures.letters (letters_on_links c.args.from_node c.args.to_node c.args.passings.now)
    (c.in_default.ensures ∙ c.as_slice.ensures ∙ c.in_ok-went.ensures.frames ∙ frames_are c.args.from_node c.args.to_node c.args.passings.now)
