use Rattle.protocol_steps.proofs.PlacingLaws as found
use Rattle.protocol_steps.proofs.law.places_fit.Goals as goal

pub returns : goal.returns
returns c = found.places_fit
