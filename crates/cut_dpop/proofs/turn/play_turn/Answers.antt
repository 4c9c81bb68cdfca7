use Rattle.std.proofs.Common.{ℕ, ◌<◌, List, length, sym, ap, subst, ◌∙◌}
use Rattle.std.specs.List.{All}
use Rattle.dcop_base.specs.Problem.{Dcop, cost}
use Rattle.pseudotree.specs.Width.{IsNarrow}
use Rattle.cost_table.specs.Slices.{put_in}
use Rattle.cut_dpop.specs.Start.{paths_in, IsDpopStart}
use Rattle.cut_dpop.proofs.AgreedLaws.{start-on_slice}
use Rattle.cut_dpop.proofs.PlayedLaws.{turn-is, turn-long, cut-inside, is-played}
use Rattle.cut_dpop.proofs.KeptLaws.{kept-in-turn}
use Rattle.cut_dpop.proofs.turn.play_turn.Goals as goal

pub solve_left-requires-clause-start : goal.solve_left-requires-clause-start
solve_left-requires-clause-start g c κs within =
    subst (λ (q : Dcop). IsDpopStart q c.args.start.now) (sym c.in_ok-left.ensures)
    (start-on_slice c.args.problem.now c.args.cut.now c.in_ok-turn.turn c.args.start.now c.slices_keep_trees.ensures c.requires.start)

pub solve_left-requires-clause-narrow : goal.solve_left-requires-clause-narrow
solve_left-requires-clause-narrow g c κs within =
    subst (λ (q : Dcop). IsNarrow q (paths_in c.args.start.now)) (sym c.in_ok-left.ensures) (c.requires.narrow c.in_ok-turn.turn)

pub with_own-values-requires-clause-long : goal.with_own-values-requires-clause-long
with_own-values-requires-clause-long g c =
    ap (λ (xs : List ℕ). length xs) c.as_slice-2.ensures
    ∙ turn-long c.args.problem.now (paths_in c.args.start.now) c.args.cut.now c.args.sizes.now c.requires.sizes c.args.number c.in_ok-turn.turn c.in_ok-turn.ensures c.requires.within
    ∙ sym (ap (λ (xs : List ℕ). length xs) c.as_slice-3.ensures)

pub with_own-values-requires-clause-within : goal.with_own-values-requires-clause-within
with_own-values-requires-clause-within g c =
    subst (λ (xs : List ℕ). All (λ v. v < length c.in_ok-outcome.outcome.values) xs) (sym c.as_slice-2.ensures)
    (cut-inside c.args.problem.now (paths_in c.args.start.now) c.args.cut.now c.args.sizes.now c.requires.sizes c.args.number c.in_ok-turn.turn c.in_ok-turn.ensures
    c.in_ok-left.left c.in_ok-outcome.outcome c.in_ok-left.ensures c.in_ok-outcome.ensures c.requires.cut)

pub returns-clause-played : goal.returns-clause-played
returns-clause-played g c =
    is-played c.args.problem.now (paths_in c.args.start.now) c.args.cut.now c.args.sizes.now c.requires.sizes c.args.number c.in_ok-turn.turn c.in_ok-turn.ensures
    c.in_ok-left.left c.in_ok-outcome.outcome c.in_ok-left.ensures c.in_ok-outcome.ensures c.cost_of-cost.result c.with_own-values.result
    (c.cost_of-cost.ensures.cost ∙ ap (cost c.in_ok-left.left) c.as_slice.ensures)
    (c.with_own-values.ensures ∙ ap (λ (xs : List ℕ). put_in xs c.as_slice-3.result.now c.in_ok-outcome.outcome.values) c.as_slice-2.ensures ∙ ap (λ (xs : List ℕ). put_in c.args.cut.now xs c.in_ok-outcome.outcome.values) c.as_slice-3.ensures)

-- the start is one of DPOP agents of the slice
pub keep_turn-requires : goal.keep_turn-requires
keep_turn-requires g c = (
  c.in_ok-left.left,
  subst (λ (q : Dcop). IsDpopStart q c.args.start.now) (sym c.in_ok-left.ensures)
      (start-on_slice c.args.problem.now c.args.cut.now c.in_ok-turn.turn c.args.start.now c.slices_keep_trees.ensures c.requires.start),
)

pub returns-clause-kept : goal.returns-clause-kept
returns-clause-kept g c =
    let start : IsDpopStart c.in_ok-left.left c.args.start.now =
    subst (λ (q : Dcop). IsDpopStart q c.args.start.now) (sym c.in_ok-left.ensures)
    (start-on_slice c.args.problem.now c.args.cut.now c.in_ok-turn.turn c.args.start.now c.slices_keep_trees.ensures c.requires.start) in
    kept-in-turn c.args.keep c.args.problem.now (paths_in c.args.start.now) c.args.cut.now c.args.number c.in_ok-left.left c.in_ok-turn.turn c.args.kept.now.items c.keep_turn.new.kept.items
    c.in_ok-left.ensures
    (turn-is c.args.problem.now (paths_in c.args.start.now) c.args.cut.now c.args.sizes.now c.requires.sizes c.args.number c.in_ok-turn.turn c.in_ok-turn.ensures)
    (c.in_ok-keep_turn.ensures c.in_ok-left.left start c.in_ok-outcome.ensures.tables)
