use Rattle.run_laws.proofs.TurnLaws as laws
use Rattle.run_laws.proofs.cuts.turns_are_in_order.Goals as goal

pub returns : goal.returns
returns c = laws.turns_are_in_order
