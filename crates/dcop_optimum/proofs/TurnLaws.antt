-- Laws of the turned problem.
use Rattle.std.proofs.Common.{◌≡◌, ℕ, ◌+◌, ◌-◌, ◌≤◌, List, [], ◌∷◌, length, map, refl, ap, arith, All}
use Rattle.std.specs.List.{sum_by}
use Rattle.std.proofs.lemmas.List.{length-map}
use Rattle.std.proofs.lemmas.List.Elements.{All-head, All-tail, All-weaker, All-map}
use Rattle.std.proofs.lemmas.List.Sums.{sum_by-cons}
use Rattle.dcop_base.specs.Table.{CostTable, AreWithin, cell_at, greatest}
use Rattle.dcop_base.specs.Problem.{Dcop}
use Rattle.dcop_base.specs.Faults.{cell_count, greatest_sum}
use Rattle.dcop_base.specs.Whole.{IsTableOf, IsProblem}
use Rattle.dcop_base.proofs.JointLaws.{AreJoints-scopes}
use Rattle.dcop_optimum.specs.Goal.{turned_table, turned, SumToTop, TellsGreatest}
use Rattle.dcop_optimum.proofs.TurnedTableLaws.{greatest-turned, turned_whole, cell_at-turned}

-- turned tables have as many cells
cell_count-turned : (ts : List CostTable) → cell_count (map turned_table ts) ≡ cell_count ts
cell_count-turned [] = refl
cell_count-turned (t ∷ ts) =
    let first = sum_by-cons (λ (t : CostTable). length t.cells) t ts in
    let first' = sum_by-cons (λ (t : CostTable). length t.cells) (turned_table t) (map turned_table ts) in
    let same = length-map t.cells (λ c. greatest t.cells - c) in
    let rest = cell_count-turned ts in
    omega arith

-- the greatest cells of turned tables sum to no more
greatest_sum-turned : (ts : List CostTable) → greatest_sum (map turned_table ts) ≤ greatest_sum ts
greatest_sum-turned [] = omega arith
greatest_sum-turned (t ∷ ts) =
    let first = sum_by-cons (λ (t : CostTable). greatest t.cells) t ts in
    let first' = sum_by-cons (λ (t : CostTable). greatest t.cells) (turned_table t) (map turned_table ts) in
    let below = greatest-turned t in
    let rest = greatest_sum-turned ts in
    omega arith

-- the cells that an assignment names in tables and in the turned tables sum to the greatest sum
cost-turned : (sizes values : List ℕ) (ts : List CostTable) → AreWithin sizes values → All (IsTableOf sizes) ts → sum_by (λ t. cell_at t values) ts + sum_by (λ t. cell_at t values) (map turned_table ts) ≡ greatest_sum ts
cost-turned sizes values [] within whole = refl
cost-turned sizes values (t ∷ ts) within whole =
    let first = sum_by-cons (λ (t : CostTable). greatest t.cells) t ts in
    let cells = sum_by-cons (λ (t : CostTable). cell_at t values) t ts in
    let cells' = sum_by-cons (λ (t : CostTable). cell_at t values) (turned_table t) (map turned_table ts) in
    let same = cell_at-turned sizes values t within (All-head (IsTableOf sizes) t ts whole) in
    let rest = cost-turned sizes values ts within (All-tail (IsTableOf sizes) t ts whole) in
    omega arith

-- turned tables have the same scopes
scopes-turned : (ts : List CostTable) → map (λ (t : CostTable). t.scope) ts ≡ map (λ (t : CostTable). t.scope) (map turned_table ts)
scopes-turned [] = refl
scopes-turned (t ∷ ts) = ap (λ (scopes : List (List ℕ)). t.scope ∷ scopes) (scopes-turned ts)

-- a problem, turned, is one too
pub turned_problem : (p : Dcop) → IsProblem p → IsProblem (turned p)
turned_problem p whole = record {
  some = whole.some;
  few = whole.few;
  sizes = whole.sizes;
  tables = All-map (IsTableOf p.sizes) turned_table p.tables (All-weaker (IsTableOf p.sizes) (λ t. IsTableOf p.sizes (turned_table t)) (turned_whole p.sizes) p.tables whole.tables);
  cells = rw cell_count-turned whole.cells;
  sums = (let below = greatest_sum-turned p.tables in let cap = whole.sums in omega arith);
  joints = AreJoints-scopes (length p.sizes) p.tables (map turned_table p.tables) p.joints (scopes-turned p.tables) whole.joints;
}

-- an assignment's costs in a problem and in the turned one sum to the top sum
pub sum_to_top : (p : Dcop) → IsProblem p → SumToTop p (turned p)
sum_to_top p whole values within = cost-turned p.sizes values p.tables within whole.tables

-- the greatest sum of a problem is the top sum less the optimum of the turned one
pub tells_greatest : (p : Dcop) → IsProblem p → TellsGreatest p (turned p)
tells_greatest p whole least at_least = record {
  attained =
      let costs = sum_to_top p whole at_least.attained.0 at_least.attained.1 in
      let at = at_least.attained.2 in
      (at_least.attained.0, at_least.attained.1, omega arith);
  highest = λ values within.
      let costs = sum_to_top p whole values within in
      let lowest = at_least.lowest values within in
      omega arith;
}
