-- The bounds of each row enclose its agent's subtree.
use Rattle.std.proofs.Common.{◌≡◌, ℕ, suc, ◌+◌, ◌≤◌, ◌<◌, List, [], ◌∷◌, length, Some, slice_get, ap, sym, subst, ◌∙◌, arith}
use Rattle.std.specs.List.{All}
use Rattle.std.proofs.lemmas.List.Elements.{All-nil, All-cons}
use Rattle.std.proofs.lemmas.Option.{same_Some}
use Rattle.dcop_base.specs.Problem.{Dcop}
use Rattle.dcop_base.specs.Whole.{IsProblem}
use Rattle.pseudotree.specs.DepthFirst.{dfs}
use Rattle.adopt_context.specs.Context.{value_in}
use Rattle.protocol_steps.specs.Network.{Network}
use Rattle.protocol_steps.specs.View.{View, AdoptKind, standing_of}
use Rattle.dcop_optimum.specs.Enclosing.{Encloses}
use Rattle.run_laws.specs.TokenLaws.{TokenRuns}
use Rattle.run_laws.specs.AdoptRunLaws.{HoldsOfAdopt, AdoptBoundsEnclose}
use Rattle.minimised_problem.specs.Goal.{problem_solved}
use Rattle.minimised_problem.proofs.SolvedLaws.{solved_problem}
use Rattle.solve_printed.specs.Rows.{row_of, rows_from}
use Rattle.solve_printed.specs.Enclosing.{TellsBounds, ReplayedBoundsEnclose}

module _ (p : Dcop) (error : ℕ) (state : Network) (holds : HoldsOfAdopt p (dfs p) error state) where
  -- one row
  row-encloses : (i : ℕ) (v : View) → i < length p.sizes → slice_get state.views i ≡ Some v → TellsBounds p state (row_of i v)
  row-encloses i v lt at =
      let agent = holds.agents i lt in
      let same : AdoptKind agent.0 ≡ v = same_Some (AdoptKind agent.0) v (sym agent.1 ∙ at) in
      record {
        view = agent.0;
        is = agent.1;
        enclose = subst (λ (w : View). Encloses p (dfs p) i (value_in agent.0.known) (standing_of w).lower (standing_of w).upper) same agent.2.bounds;
      }

  -- the rows from a place on
  rows-enclose : (i : ℕ) (vs : List View) → i + length vs ≤ length p.sizes → ((k : ℕ) → slice_get state.views (i + k) ≡ slice_get vs k) → All (TellsBounds p state) (rows_from i vs)
  rows-enclose i [] few at = All-nil (TellsBounds p state)
  rows-enclose i (v ∷ vs) few at =
      let here : i + 0 ≡ i = omega arith in
      All-cons (TellsBounds p state) (row_of i v) (rows_from (i + 1) vs)
      (row-encloses i v (omega (arith, few)) (ap (slice_get state.views) (sym here) ∙ at 0))
      (rows-enclose (i + 1) vs (omega (arith, few)) (λ k. let next : i + 1 + k ≡ i + suc k = omega arith in ap (slice_get state.views) next ∙ at (suc k)))

  pub all-enclose : All (TellsBounds p state) (rows_from 0 state.views)
  all-enclose = let sized = holds.sized in rows-enclose 0 state.views (omega (arith, sized)) (λ k. let same : 0 + k ≡ k = omega arith in ap (slice_get state.views) same)

pub bounds-enclose : TokenRuns → AdoptBoundsEnclose → ReplayedBoundsEnclose
bounds-enclose tokens bounds file error es events agents names whole told =
    let p : Dcop = problem_solved file in
    let problem : IsProblem p = solved_problem file.goal file.problem whole in
    let state = told.1.state in
    let holds : HoldsOfAdopt p (dfs p) error state = bounds p (dfs p) error problem (tokens.pseudotree p problem) es state told.1.ran in
    subst (All (TellsBounds p state)) (sym told.1.rows) (all-enclose p error state holds)
