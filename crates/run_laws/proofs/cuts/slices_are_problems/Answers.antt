use Rattle.run_laws.proofs.SliceLaws as laws
use Rattle.run_laws.proofs.cuts.slices_are_problems.Goals as goal

pub returns : goal.returns
returns c = laws.slices_are_problems
