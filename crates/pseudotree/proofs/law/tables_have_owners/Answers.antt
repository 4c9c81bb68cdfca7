use Rattle.pseudotree.proofs.NestLaws as nest
use Rattle.pseudotree.proofs.law.tables_have_owners.Goals as goal

pub returns : goal.returns
returns c = nest.tables_have_owners
