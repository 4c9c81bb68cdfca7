use Rattle.std.proofs.Common.{◌≡◌, ℕ, ◌+◌, ◌≤◌, List, sym, subst, arith}
use Rattle.certificate_text.specs.declared.certificate.Turn.{Turn}
use Rattle.cut_dpop.specs.Start.{paths_in}
use Rattle.cut_dpop.proofs.BestLaws.{some-turn, best-first, best-take, best-keep}
use Rattle.cut_dpop.proofs.KeptLaws.{kept-none, kept-next}
use Rattle.cut_dpop.specs.Kept.{AreTurnsKept}
use Rattle.cut_dpop.specs.Played.{IsBestOf}
use Rattle.cut_dpop.proofs.turn.play_turns.Goals as goal
use Rattle.cut_dpop.proofs.turn.play_turns.Goals.{then-played-best, else-played-best}

pub play_turn-requires-clause-within : goal.play_turn-requires-clause-within
play_turn-requires-clause-within g c κs within = some-turn c.args.problem.now c.args.cut.now c.problem_is_whole.ensures c.requires.cut

pub loop-number-init : goal.loop-number-init
loop-number-init g c = (
  best-first c.args.problem.now (paths_in c.args.start.now) c.args.cut.now c.in_ok-best.best c.in_ok-best.ensures.played,
  kept-next c.args.keep c.args.problem.now (paths_in c.args.start.now) c.args.cut.now 0 c.new-kept.result.items c.play_turn.new.kept.items
      (kept-none c.args.keep c.args.problem.now (paths_in c.args.start.now) c.args.cut.now c.new-kept.result.items c.new-kept.ensures.items) c.in_ok-best.ensures.kept,
)

pub loop-number-preserved : goal.loop-number-preserved
loop-number-preserved g c =
    let kept = kept-next c.args.keep c.args.problem.now (paths_in c.args.start.now) c.args.cut.now c.loop-number.number _ _ c.loop-number.invariant.1 c.in_ok-played.ensures.kept in
    elim c.if-played-best.branch [
      | then-played-best w ↦ (
        subst (IsBestOf c.args.problem.now (paths_in c.args.start.now) c.args.cut.now (c.loop-number.number + 1)) (sym w.best-is)
            (best-take c.args.problem.now (paths_in c.args.start.now) c.args.cut.now c.loop-number.number c.loop-number.best c.in_ok-played.played c.loop-number.invariant.0 c.in_ok-played.ensures.played w.if-played-best.true),
        kept,
      )
      | else-played-best w ↦ (
        subst (IsBestOf c.args.problem.now (paths_in c.args.start.now) c.args.cut.now (c.loop-number.number + 1)) (sym w.best-is)
            (best-keep c.args.problem.now (paths_in c.args.start.now) c.args.cut.now c.loop-number.number c.loop-number.best c.in_ok-played.played c.loop-number.invariant.0 c.in_ok-played.ensures.played w.if-played-best.false),
        kept,
      )
    ]

pub returns-clause-best : goal.returns-clause-best
returns-clause-best g c =
    let some = some-turn c.args.problem.now c.args.cut.now c.problem_is_whole.ensures c.requires.cut in
    let count = c.requires.turns in
    let one : 1 ≤ c.args.turns = omega (arith, some, count) in
    let end = c.loop-number.auto.number-end one in
    let past = c.loop-number-test.false in
    let all : c.loop-number.number ≡ c.args.turns = omega (arith, end, past) in
    subst (λ (n : ℕ). IsBestOf c.args.problem.now (paths_in c.args.start.now) c.args.cut.now n c.loop-number.best) all c.loop-number.invariant.0

pub returns-clause-kept : goal.returns-clause-kept
returns-clause-kept g c =
    let some = some-turn c.args.problem.now c.args.cut.now c.problem_is_whole.ensures c.requires.cut in
    let count = c.requires.turns in
    let one : 1 ≤ c.args.turns = omega (arith, some, count) in
    let end = c.loop-number.auto.number-end one in
    let past = c.loop-number-test.false in
    let all : c.loop-number.number ≡ c.args.turns = omega (arith, end, past) in
    subst (λ (ts : List Turn). AreTurnsKept c.args.keep c.args.problem.now (paths_in c.args.start.now) c.args.cut.now c.args.turns ts) (sym c.from_vec.ensures)
    (subst (λ (n : ℕ). AreTurnsKept c.args.keep c.args.problem.now (paths_in c.args.start.now) c.args.cut.now n c.loop-number.kept.items) all c.loop-number.invariant.1)
