use Rattle.run_laws.proofs.TokenRunLaws as found
use Rattle.run_laws.proofs.tokens.token_runs.Goals as goal

pub returns : goal.returns
returns c = found.token_runs
