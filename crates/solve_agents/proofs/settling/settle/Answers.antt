use Rattle.std.proofs.Common.{None, Some, inl, inr, refl}
use Rattle.solve_agents.proofs.WiringLaws.{fails_on, wide_is}
use Rattle.solve_agents.proofs.settling.settle.Goals as goal

pub returns-in_err-found-clause-links : goal.returns-in_err-found-clause-links
returns-in_err-found-clause-links g c = fails_on _ _ _ _ _ _ _ _ _ _ c.from_residual.result _ c.from_residual.ensures.1 refl refl (λ many h. h) (λ start most is. inl is) c.in_err-found.ensures.links

pub returns-in_err-chosen-in-None-clause-links : goal.returns-in_err-chosen-in-None-clause-links
returns-in_err-chosen-in-None-clause-links g c =
    let fits = wide_is c.args.problem.now c.in_ok-found.found.tree.paths None c.in_ok-found.ensures.found.paths c.in-None.ensures.wide in
    fails_on _ _ _ _ _ _ _ _ _ _ c.from_residual-in_err-chosen-in-None.result _ c.from_residual-in_err-chosen-in-None.ensures.1 c.in_ok-found.ensures.links c.in_ok-found.ensures.nodes (λ many no h. no (c.in_ok-found.ensures.honest h))
    (λ start most is. inr (inl (fits, is))) c.in_err-chosen-in-None.ensures.links

pub returns-in_err-reached-in-Some-clause-links : goal.returns-in_err-reached-in-Some-clause-links
returns-in_err-reached-in-Some-clause-links g c =
    let wide = wide_is c.args.problem.now c.in_ok-found.found.tree.paths (Some c.in-Some.field-0) c.in_ok-found.ensures.found.paths c.in-Some.ensures.wide in
    fails_on _ _ _ _ _ _ _ _ _ _ c.from_residual-in_err-reached-in-Some.result _ c.from_residual-in_err-reached-in-Some.ensures.1 c.in_ok-found.ensures.links c.in_ok-found.ensures.nodes (λ many no h. no (c.in_ok-found.ensures.honest h))
    (λ start most is. inr (inr ((c.in-Some.field-0, wide), is))) c.in_err-reached-in-Some.ensures.links
