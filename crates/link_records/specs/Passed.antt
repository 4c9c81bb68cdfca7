-- What a link has passed, given the difference that it keeps.
use Rattle.std.specs.Prelude.{List, [], Option, Some, None}
use Rattle.worker_laws.specs.Wires.{Passage}
use Rattle.link_records.specs.declared.first.FirstDifference.{FirstDifference}

-- the passages from the first difference on; none if there is no difference
abbrev pub passed_since : Option FirstDifference → List Passage
passed_since None = []
passed_since (Some first) = first.since.items
