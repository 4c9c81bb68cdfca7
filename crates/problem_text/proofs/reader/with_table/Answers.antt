use Rattle.problem_text.specs.Lines.{words}
use Rattle.problem_text.specs.Drafts.{IsDraft}
use Rattle.problem_text.proofs.DraftLaws.{table-draft}
use Rattle.problem_text.proofs.reader.with_table.Goals as goal

pub with_table-requires-clause-draft : goal.with_table-requires-clause-draft
with_table-requires-clause-draft c = let draft : IsDraft c.args.draft = rw (← c.draft.view_is) c.draft.invariant.draft in table-draft c.args.draft _ (words c.args.text.now) draft c.in_ok-table.ensures.gives
