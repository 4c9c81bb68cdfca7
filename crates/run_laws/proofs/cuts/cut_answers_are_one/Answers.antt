use Rattle.run_laws.proofs.KeptLaws as laws
use Rattle.run_laws.proofs.cuts.cut_answers_are_one.Goals as goal

pub returns : goal.returns
returns c = laws.cut_answers_are_one
