use Rattle.std.proofs.Common.{sym, subst}
use Rattle.certificate_text.specs.declared.certificate.Turn.{Turn}
use Rattle.run_laws.specs.Slice.{AreCutValues}
use Rattle.certificate_check.proofs.TurnLaws.{IsTurnOf, turn_same, cut_is, turn_within, tree_in, fits_in, apart_in, told_cells}
use Rattle.certificate_check.proofs.turns.cells_in_turn.Goals as goal

pub slice_at-requires-clause-cut : goal.slice_at-requires-clause-cut
slice_at-requires-clause-cut c = cut_is c.args.problem.now c.args.cut.now c.args.turns.now c.requires.fits

pub slice_at-requires-clause-values : goal.slice_at-requires-clause-values
slice_at-requires-clause-values c =
    subst (λ (t : Turn). AreCutValues c.args.problem.now c.args.cut.now t.values)
    (sym (turn_same c.args.turns.now c.args.number c.index-turns-number.result c.requires.within c.index-turns-number.is))
    (turn_within c.args.problem.now c.args.cut.now c.args.turns.now c.requires.fits c.args.number c.requires.within)

pub cells_difference-requires-clause-tree : goal.cells_difference-requires-clause-tree
cells_difference-requires-clause-tree c =
    let is : IsTurnOf c.args.problem.now c.args.cut.now c.args.turns.now c.args.number c.index-turns-number.result c.in_ok-slice.slice c.as_slice.result.now = record {
      turn_is = turn_same c.args.turns.now c.args.number c.index-turns-number.result c.requires.within c.index-turns-number.is;
      slice_is = c.in_ok-slice.ensures;
      tables_are = c.as_slice.ensures;
    } in
    tree_in c.args.problem.now c.args.cut.now c.args.turns.now c.args.number c.index-turns-number.result c.in_ok-slice.slice c.as_slice.result.now is c.args.tree.now c.requires.tree

pub cells_difference-requires-clause-fits : goal.cells_difference-requires-clause-fits
cells_difference-requires-clause-fits c =
    let is : IsTurnOf c.args.problem.now c.args.cut.now c.args.turns.now c.args.number c.index-turns-number.result c.in_ok-slice.slice c.as_slice.result.now = record {
      turn_is = turn_same c.args.turns.now c.args.number c.index-turns-number.result c.requires.within c.index-turns-number.is;
      slice_is = c.in_ok-slice.ensures;
      tables_are = c.as_slice.ensures;
    } in
    fits_in c.args.problem.now c.args.cut.now c.args.turns.now c.args.number c.index-turns-number.result c.in_ok-slice.slice c.as_slice.result.now is c.requires.fits c.requires.within

pub cells_difference-requires-clause-apart : goal.cells_difference-requires-clause-apart
cells_difference-requires-clause-apart c =
    let is : IsTurnOf c.args.problem.now c.args.cut.now c.args.turns.now c.args.number c.index-turns-number.result c.in_ok-slice.slice c.as_slice.result.now = record {
      turn_is = turn_same c.args.turns.now c.args.number c.index-turns-number.result c.requires.within c.index-turns-number.is;
      slice_is = c.in_ok-slice.ensures;
      tables_are = c.as_slice.ensures;
    } in
    apart_in c.args.problem.now c.args.cut.now c.args.turns.now c.args.number c.index-turns-number.result c.in_ok-slice.slice c.as_slice.result.now is c.args.tree.now c.requires.tree c.requires.scopes

pub returns : goal.returns
returns c =
    let is : IsTurnOf c.args.problem.now c.args.cut.now c.args.turns.now c.args.number c.index-turns-number.result c.in_ok-slice.slice c.as_slice.result.now = record {
      turn_is = turn_same c.args.turns.now c.args.number c.index-turns-number.result c.requires.within c.index-turns-number.is;
      slice_is = c.in_ok-slice.ensures;
      tables_are = c.as_slice.ensures;
    } in
    told_cells c.args.problem.now c.args.cut.now c.args.turns.now c.args.number c.index-turns-number.result c.in_ok-slice.slice c.as_slice.result.now is c.args.tree.now.paths c.in_ok-differs.differs c.in_turn.result c.in_ok-differs.ensures c.in_turn.ensures
