use Rattle.run_laws.proofs.SlicingLaws as laws
use Rattle.run_laws.proofs.cuts.optima_are_least_of_slices.Goals as goal

pub returns : goal.returns
returns c = laws.optima_are_least_of_slices
