use Rattle.delivery_turns.proofs.OneWayLaws.{one-way}
use Rattle.delivery_turns.proofs.sprint.runs_go_one_way.Goals as goal

pub returns : goal.returns
returns c = one-way
