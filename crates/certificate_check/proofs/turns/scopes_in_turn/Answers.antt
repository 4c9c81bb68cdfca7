use Rattle.std.proofs.Common.{sym, subst}
use Rattle.certificate_text.specs.declared.certificate.Turn.{Turn}
use Rattle.run_laws.specs.Slice.{AreCutValues}
use Rattle.certificate_check.proofs.TurnLaws.{IsTurnOf, turn_same, cut_is, turn_within, tree_in, fits_in, told_scopes}
use Rattle.certificate_check.proofs.turns.scopes_in_turn.Goals as goal

pub slice_at-requires-clause-cut : goal.slice_at-requires-clause-cut
slice_at-requires-clause-cut c = cut_is c.args.problem.now c.args.cut.now c.args.turns.now c.requires.fits

pub slice_at-requires-clause-values : goal.slice_at-requires-clause-values
slice_at-requires-clause-values c =
    subst (λ (t : Turn). AreCutValues c.args.problem.now c.args.cut.now t.values)
    (sym (turn_same c.args.turns.now c.args.number c.index-turns-number.result c.requires.within c.index-turns-number.is))
    (turn_within c.args.problem.now c.args.cut.now c.args.turns.now c.requires.fits c.args.number c.requires.within)

pub scopes_difference-differs-requires-clause-tree : goal.scopes_difference-differs-requires-clause-tree
scopes_difference-differs-requires-clause-tree c =
    let is : IsTurnOf c.args.problem.now c.args.cut.now c.args.turns.now c.args.number c.index-turns-number.result c.in_ok-slice.slice c.as_slice.result.now = record {
      turn_is = turn_same c.args.turns.now c.args.number c.index-turns-number.result c.requires.within c.index-turns-number.is;
      slice_is = c.in_ok-slice.ensures;
      tables_are = c.as_slice.ensures;
    } in
    tree_in c.args.problem.now c.args.cut.now c.args.turns.now c.args.number c.index-turns-number.result c.in_ok-slice.slice c.as_slice.result.now is c.args.tree.now c.requires.tree

pub scopes_difference-differs-requires-clause-fits : goal.scopes_difference-differs-requires-clause-fits
scopes_difference-differs-requires-clause-fits c =
    let is : IsTurnOf c.args.problem.now c.args.cut.now c.args.turns.now c.args.number c.index-turns-number.result c.in_ok-slice.slice c.as_slice.result.now = record {
      turn_is = turn_same c.args.turns.now c.args.number c.index-turns-number.result c.requires.within c.index-turns-number.is;
      slice_is = c.in_ok-slice.ensures;
      tables_are = c.as_slice.ensures;
    } in
    fits_in c.args.problem.now c.args.cut.now c.args.turns.now c.args.number c.index-turns-number.result c.in_ok-slice.slice c.as_slice.result.now is c.requires.fits c.requires.within

pub returns : goal.returns
returns c =
    let is : IsTurnOf c.args.problem.now c.args.cut.now c.args.turns.now c.args.number c.index-turns-number.result c.in_ok-slice.slice c.as_slice.result.now = record {
      turn_is = turn_same c.args.turns.now c.args.number c.index-turns-number.result c.requires.within c.index-turns-number.is;
      slice_is = c.in_ok-slice.ensures;
      tables_are = c.as_slice.ensures;
    } in
    told_scopes c.args.problem.now c.args.cut.now c.args.turns.now c.args.number c.index-turns-number.result c.in_ok-slice.slice c.as_slice.result.now is c.args.tree.now.paths c.scopes_difference-differs.result c.in_turn.result c.scopes_difference-differs.ensures c.in_turn.ensures
