use Rattle.run_laws.proofs.CutCountLaws as laws
use Rattle.run_laws.proofs.cuts.slices_have_counted.Goals as goal

pub returns : goal.returns
returns c = laws.slices_have_counted
