use Rattle.std.proofs.Common.{◌≡◌, subst}
use Rattle.std.specs.Prelude.{IfOk, OnOk}
use Rattle.std.specs.List.{All}
use Rattle.node_exchange.specs.Letters.{IsLetter}
use Rattle.node_exchange.proofs.BusyLaws.{part_frames, part_letters}
use Rattle.node_exchange.proofs.busy.write_part.Goals as goal

pub returns-clause-frames : goal.returns-clause-frames
returns-clause-frames c = subst (λ fs. IfOk c.write_letters.result (λ bytes. bytes ≡ fs)) (part_frames c.args.from_node c.args.to_node c.args.passings.now c.args.part.0 c.args.part.1 c.requires) c.write_letters.ensures.frames

pub returns-clause-letters : goal.returns-clause-letters
returns-clause-letters c = subst (λ ls. OnOk c.write_letters.result (All IsLetter ls)) (part_letters c.args.from_node c.args.to_node c.args.passings.now c.args.part.0 c.args.part.1 c.requires) c.write_letters.ensures.letters
