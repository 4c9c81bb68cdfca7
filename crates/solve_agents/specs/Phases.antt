-- The phases in which agents are run: their start, and their most deliveries.
use Rattle.std.specs.Prelude.{◌≡◌, ℕ, ◌⊎◌, None}
use Rattle.dcop_base.specs.Problem.{Dcop}
use Rattle.pseudotree.specs.DepthFirst.{dfs}
use Rattle.pseudotree.specs.Pseudotree.{RootedTree}
use Rattle.delivery_core.specs.declared.start.Start.{Start}
use Rattle.delivery_core.specs.declared.start.Start.TheVariants.{Token, Dpop, Adopt}
use Rattle.minimised_problem.specs.Found.{token_deliveries}
use Rattle.solve_methods.specs.Auto.{IsWide}
use Rattle.solve_methods.specs.Dpop.{dpop_deliveries, wide_in}

-- a phase in which agents are run from this start, with at most this number of deliveries
abbrev pub IsPhase : Start → ℕ → Start → ℕ → Type 0
IsPhase start most start' most' = (start' ≡ start) × (most' ≡ most)

-- no phase: no agents are run
abbrev pub IsNoPhase : Start → ℕ → Type 0
IsNoPhase start most = ⊥

-- the search for a problem's depth-first tree, with as many deliveries as it takes
abbrev pub IsSearchPhase : Dcop → Start → ℕ → Type 0
IsSearchPhase p start most = (start ≡ Token) × (most ≡ token_deliveries p)

-- DPOP on that tree, with as many deliveries as it takes
abbrev pub IsDpopPhase : Dcop → Start → ℕ → Type 0
IsDpopPhase p start most = (tree : RootedTree) × (start ≡ Dpop tree) × (tree.paths ≡ dfs p) × (most ≡ dpop_deliveries p)

-- ADOPT on that tree, for a requested error and under a budget
abbrev pub IsAdoptPhase : Dcop → ℕ → ℕ → Start → ℕ → Type 0
IsAdoptPhase p error budget start most = (tree : RootedTree) × (start ≡ Adopt tree error) × (tree.paths ≡ dfs p) × (most ≡ budget)

-- a phase of the method DPOP: the search for the tree, or DPOP on it if nothing is too wide in it
abbrev pub IsPhaseByDpop : Dcop → Start → ℕ → Type 0
IsPhaseByDpop p start most = IsSearchPhase p start most ⊎ ((wide_in p ≡ None) × IsDpopPhase p start most)

-- a phase of the method ADOPT: the search for the tree, or ADOPT on it
abbrev pub IsPhaseByAdopt : Dcop → ℕ → ℕ → Start → ℕ → Type 0
IsPhaseByAdopt p error budget start most = IsSearchPhase p start most ⊎ IsAdoptPhase p error budget start most

-- a phase of the method auto: the search for the tree, DPOP on it if nothing is too wide in it, or
-- ADOPT otherwise
abbrev pub IsPhaseByAuto : Dcop → ℕ → ℕ → Start → ℕ → Type 0
IsPhaseByAuto p error budget start most = IsSearchPhase p start most ⊎ ((wide_in p ≡ None) × IsDpopPhase p start most) ⊎ (IsWide p × IsAdoptPhase p error budget start most)
