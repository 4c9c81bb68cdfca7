use Rattle.std.proofs.Common.{sym, ◌∙◌}
use Rattle.certificate_check.proofs.FirstLaws.{not_told}
use Rattle.certificate_check.proofs.TurnLaws.{each_one}
use Rattle.certificate_check.proofs.cutting.cut_difference.Goals as goal

pub cells_in_turns-requires-clause-scopes : goal.cells_in_turns-requires-clause-scopes
cells_in_turns-requires-clause-scopes c =
    sym c.in_ok-differs.ensures ∙ not_told c.in_ok-differs.differs (sym c.is_some.ensures ∙ c.if-is_some.false)

pub least_cell-least-requires : goal.least_cell-least-requires
least_cell-least-requires c = each_one c.args.problem.now c.args.cut.now c.args.turns.now c.requires.fits c.args.root c.requires.within
