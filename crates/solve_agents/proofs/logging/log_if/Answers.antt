use Rattle.solve_agents.proofs.CrewLaws.{journals_ascend, merge_of}
use Rattle.solve_agents.proofs.logging.log_if.Goals as goal

pub merge-requires-clause-ascend : goal.merge-requires-clause-ascend
merge-requires-clause-ascend g c = journals_ascend _ c.args.cells.now c.in_ok-journals.journals c.in_ok-journals.ensures c.requires.ascend

pub returns-clause-merged : goal.returns-clause-merged
returns-clause-merged g c = merge_of _ c.args.cells.now c.in_ok-journals.journals c.in_ok-journals.ensures c.in_ok-merge.field-0 c.in_ok-merge.ensures
