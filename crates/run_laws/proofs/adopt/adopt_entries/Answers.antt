use Rattle.run_laws.proofs.EntryLaws as found
use Rattle.run_laws.proofs.adopt.adopt_entries.Goals as goal

pub returns : goal.returns
returns c = found.adopt_entries
