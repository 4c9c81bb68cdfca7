-- Turns that were run, and the best of them so far.
use Rattle.std.specs.Prelude.{◌≡◌, ℕ, ◌<◌, ◌≤◌, List, [], slice_index_or}
use Rattle.dcop_base.specs.Problem.{Dcop, cost}
use Rattle.cost_table.specs.Slices.{put_in}
use Rattle.dcop_optimum.specs.Optimum.{IsOptimum}
use Rattle.dcop_optimum.specs.TreeOptimum.{IsFirstOptimumOf}
use Rattle.run_laws.specs.Slice.{slice_of}
use Rattle.run_laws.specs.Turns.{turns_of}
use Rattle.cut_dpop.specs.Start.{turn_deliveries}
use Rattle.cut_dpop.specs.declared.turn.Played.{Played}

-- the values of the turn with this number
abbrev pub turn_of : Dcop → List ℕ → ℕ → List ℕ
turn_of p cut number = slice_index_or (turns_of p cut) number []

-- the result of a turn: the first optimum of its slice on the tree, with the turn's own values, its
-- cost, and the number of messages that DPOP takes
pub record IsTurnPlayed (p : Dcop) (paths : List (List ℕ)) (cut : List ℕ) (number : ℕ) (played : Played) : Type 0 where
  pub others : List ℕ
  pub first : IsFirstOptimumOf (slice_of p cut (turn_of p cut number)) paths others
  pub cost_is : played.cost ≡ cost (slice_of p cut (turn_of p cut number)) others
  pub values_are : played.values ≡ put_in cut (turn_of p cut number) others
  pub deliveries : played.deliveries ≡ turn_deliveries p

-- the result of the first turn of least cost among the first `count`
pub record IsBestOf (p : Dcop) (paths : List (List ℕ)) (cut : List ℕ) (count : ℕ) (best : Played) : Type 0 where
  pub number : ℕ
  pub within : number < count
  pub played : IsTurnPlayed p paths cut number best
  pub lowest : (k c : ℕ) → k < count → IsOptimum (slice_of p cut (turn_of p cut k)) c → best.cost ≤ c
  pub first : (k c : ℕ) → k < number → IsOptimum (slice_of p cut (turn_of p cut k)) c → best.cost < c
