use Rattle.std.proofs.Common.{refl}
use Rattle.agent_cells.proofs.ResultLaws.{on_ok3}
use Rattle.agent_cells.proofs.CollectLaws.{has_found}
use Rattle.agent_cells.proofs.collect.take_one.Goals as goal

pub returns-clause-found : goal.returns-clause-found
returns-clause-found c =
    on_ok3 c.add.result c.add.ensures.letters c.add.ensures.takes c.add.ensures.greatest
    (has_found _ _ _ _ _ _ _ _ _ _ _ refl c.take_all-count.ensures.end c.requires.empty c.take_all-count.ensures.taken)
