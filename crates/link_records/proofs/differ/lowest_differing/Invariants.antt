use Rattle.link_records.specs.Found.{IsLowestOf}
use Rattle.link_records.proofs.differ.lowest_differing.Given as goal

abbrev pub invariant-loop-link : goal.invariant-loop-link
invariant-loop-link l = IsLowestOf l.kept l.link l.lowest
