use Rattle.shared_costs.proofs.ShareLaws.{share-keeps}
use Rattle.shared_costs.proofs.sharing.share.Goals as goal

pub returns-clause-sharing : goal.returns-clause-sharing
returns-clause-sharing c = share-keeps c.args.sizes.now c.args.var c.args.tables.now c.give.new.tables c.give.ensures
