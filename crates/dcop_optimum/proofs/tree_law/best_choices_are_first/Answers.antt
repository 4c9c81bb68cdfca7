use Rattle.dcop_optimum.proofs.ChoiceLaws as laws
use Rattle.dcop_optimum.proofs.tree_law.best_choices_are_first.Goals as goal

pub returns : goal.returns
returns c = laws.best_choices_are_first
