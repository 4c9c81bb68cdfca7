use Rattle.pseudotree.proofs.NestLaws as nest
use Rattle.pseudotree.proofs.law.separators_nest.Goals as goal

pub returns : goal.returns
returns c = nest.separators_nest
