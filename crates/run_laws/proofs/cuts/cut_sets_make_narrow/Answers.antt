use Rattle.run_laws.proofs.CutCountLaws as laws
use Rattle.run_laws.proofs.cuts.cut_sets_make_narrow.Goals as goal

pub returns : goal.returns
returns c = laws.cut_sets_make_narrow
