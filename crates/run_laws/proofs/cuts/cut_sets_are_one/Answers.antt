use Rattle.run_laws.proofs.CutSetLaws as laws
use Rattle.run_laws.proofs.cuts.cut_sets_are_one.Goals as goal

pub returns : goal.returns
returns c = laws.cut_sets_are_one
