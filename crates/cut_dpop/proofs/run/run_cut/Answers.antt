use Rattle.std.proofs.Common.{◌≡◌, ℕ, ◌<◌, ◌≤◌, List, length, refl, sym, ap, subst, ◌∙◌, arith}
use Rattle.std.specs.List.{All}
use Rattle.dcop_base.specs.Problem.{Dcop}
use Rattle.dcop_base.specs.Limits.{turn_limit}
use Rattle.cut_dpop.specs.End.{IsCutRefused}
use Rattle.cut_dpop.proofs.EndLaws.{few-turns, may-cut, copy-narrow, few-messages, cut-end, cut-refused, passed-on}
use Rattle.cut_dpop.proofs.run.run_cut.Goals as goal

pub sizes_of-requires : goal.sizes_of-requires
sizes_of-requires g c =
    let cut = may-cut c.args.problem.now c.args.tree.now.paths c.args.limit c.in_ok-cut.cut c.args.tree.now c.cut_sets_are_one.ensures c.problem_is_whole.ensures c.requires.tree.pseudotree refl c.requires.limit c.in_ok-cut.ensures in
    let sizes : c.as_slice.result.now ≡ c.args.problem.now.sizes = c.as_slice.ensures ∙ ap (λ (q : Dcop). q.sizes) c.problem.view_is in
    subst (λ (xs : List ℕ). All (λ v. v < length xs) c.as_slice-2.result.now) (sym sizes)
    (subst (λ (xs : List ℕ). All (λ v. v < length c.args.problem.now.sizes) xs) (sym c.as_slice-2.ensures) cut.within)

pub turns_of-requires-clause-cut : goal.turns_of-requires-clause-cut
turns_of-requires-clause-cut g c =
    may-cut c.args.problem.now c.args.tree.now.paths c.args.limit c.in_ok-cut.cut c.args.tree.now c.cut_sets_are_one.ensures c.problem_is_whole.ensures c.requires.tree.pseudotree refl c.requires.limit c.in_ok-cut.ensures

pub returns-in_err-turns-clause-refused : goal.returns-in_err-turns-clause-refused
returns-in_err-turns-clause-refused g c =
    let refused = cut-refused c.args.problem.now c.args.tree.now c.args.limit c.args.keep c.in_ok-cut.cut c.in_err-turns.field-0.0 c.cut_sets_are_one.ensures c.problem_is_whole.ensures c.requires.tree.pseudotree c.requires.limit c.in_ok-cut.ensures c.in_err-turns.ensures.refused in
    passed-on c.from_residual-in_err-turns.result c.in_err-turns.field-0.0 (IsCutRefused c.args.problem.now c.args.tree.now.paths c.args.limit c.args.keep) c.from_residual-in_err-turns.ensures.1 refused

pub play_turns-requires-clause-cut : goal.play_turns-requires-clause-cut
play_turns-requires-clause-cut g c κs within =
    may-cut c.args.problem.now c.args.tree.now.paths c.args.limit c.in_ok-cut.cut c.args.tree.now c.cut_sets_are_one.ensures c.problem_is_whole.ensures c.requires.tree.pseudotree refl c.requires.limit c.in_ok-cut.ensures

pub play_turns-requires-clause-narrow : goal.play_turns-requires-clause-narrow
play_turns-requires-clause-narrow g c κs within =
    copy-narrow c.args.problem.now c.args.tree.now c.in_ok-copy_of.field-0 c.args.limit c.in_ok-cut.cut c.cut_sets_make_narrow.ensures c.in_ok-cut.ensures c.requires.most c.in_ok-copy_of.ensures.paths

pub overflow_mul-result : goal.overflow_mul-result
overflow_mul-result g c =
    let allowed = c.in_ok-turns.ensures.allowed in
    let few = few-turns c.args.problem.now c.args.tree.now.paths c.in_ok-cut.cut c.args.keep allowed.0 in
    let low : c.in_ok-turns.turns ≤ turn_limit = subst (λ (n : ℕ). n ≤ turn_limit) (sym allowed.1) few in
    let best = c.in_ok-all.ensures.best in
    let most = few-messages c.args.problem.now c.in_ok-turns.turns c.in_ok-all.all.best.deliveries c.problem_is_whole.ensures low best.played.deliveries in
    omega (arith, most)

pub returns-clause-end : goal.returns-clause-end
returns-clause-end g c =
    cut-end c.args.problem.now c.args.tree.now.paths c.in_ok-copy_of.field-0.paths c.args.limit c.args.keep c.in_ok-cut.cut c.in_ok-turns.turns c.in_ok-all.all.best c.in_ok-all.all.tables c.in_ok-cut.ensures c.in_ok-turns.ensures.allowed
    c.in_ok-copy_of.ensures.paths c.in_ok-all.ensures.best c.in_ok-all.ensures.kept
