use Rattle.link_records.proofs.DifferLaws.{passes_one}
use Rattle.link_records.proofs.kept.KeptLink.keep.Goals as goal

pub returns-clause-passed : goal.returns-clause-passed
returns-clause-passed c = passes_one _ _ c.new.result c.pass.ensures.ends.1 c.pass.ensures.ends.0 c.pass.ensures.passages
