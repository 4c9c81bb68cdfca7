use Rattle.std.proofs.Common.{ℕ, List, refl, subst}
use Rattle.protocol_steps.specs.TreeAgents.{adopt_agents}
use Rattle.solve_methods.specs.Kept.{HaveLogged}
use Rattle.solve_agents.proofs.WiringLaws.{fails_on}
use Rattle.solve_agents.proofs.reaching.reach_on.Goals as goal

pub run_over-requires-clause-start : goal.run_over-requires-clause-start
run_over-requires-clause-start g c κs within =
    let found = c.requires.found in (record { pseudotree = found.tree; linked = found.linked }, c.requires.error)

pub reached_by-requires : goal.reached_by-requires
reached_by-requires g c =
    let found = c.requires.found in
    subst (λ (paths : List (List ℕ)). HaveLogged c.args.asked.budget (adopt_agents c.args.problem.now paths c.args.asked.error) c.args.asked.certified c.in_ok-ran.ran) found.paths c.in_ok-ran.ensures.logged

pub returns-in_err-ran-clause-links : goal.returns-in_err-ran-clause-links
returns-in_err-ran-clause-links g c = fails_on _ _ _ _ _ _ _ _ _ _ c.from_residual.result _ c.from_residual.ensures.1 refl refl (λ many h. h) (λ start most is. (c.args.found.tree, is.0, c.requires.found.paths, is.1)) c.in_err-ran.ensures.links
