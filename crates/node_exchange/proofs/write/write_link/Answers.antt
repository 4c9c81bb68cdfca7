use Rattle.std.proofs.Common.{subst}
use Rattle.std.specs.List.{All}
use Rattle.node_exchange.specs.Letters.{letter, IsLetter}
use Rattle.node_exchange.proofs.LetterLaws.{good_on}
use Rattle.node_exchange.proofs.write.write_link.Goals as goal

pub returns-clause-letters : goal.returns-clause-letters
returns-clause-letters c =
    good_on c.args.from_node c.args.to_node c.from.result c.to.result c.args.passing.now c.if-not-leads.ensures c.from.ensures c.to.ensures
    (subst (λ es. All (λ e. IsLetter (letter c.from.result c.to.result e)) es) c.drained.ensures c.in_ok-write_all.ensures.good)
