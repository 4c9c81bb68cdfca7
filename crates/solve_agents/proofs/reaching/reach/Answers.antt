use Rattle.std.proofs.Common.{inl, inr, refl}
use Rattle.solve_agents.proofs.WiringLaws.{fails_behind, fails_on}
use Rattle.solve_agents.proofs.reaching.reach.Goals as goal

pub returns-clause-links : goal.returns-clause-links
returns-clause-links g c = fails_behind _ _ _ _ _ _ _ _ _ _ c.reach_on.result c.in_ok-found.ensures.links c.in_ok-found.ensures.nodes (λ many no h. no (c.in_ok-found.ensures.honest h)) (λ start most is. inr is) c.reach_on.ensures.links

pub returns-in_err-found-clause-links : goal.returns-in_err-found-clause-links
returns-in_err-found-clause-links g c = fails_on _ _ _ _ _ _ _ _ _ _ c.from_residual.result _ c.from_residual.ensures.1 refl refl (λ many h. h) (λ start most is. inl is) c.in_err-found.ensures.links
