use Rattle.run_laws.proofs.SliceLaws as laws
use Rattle.run_laws.proofs.cuts.uncut_slices_are_whole.Goals as goal

pub returns : goal.returns
returns c = laws.uncut_slices_are_whole
