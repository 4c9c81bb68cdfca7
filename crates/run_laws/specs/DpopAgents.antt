-- The agents in a run of DPOP, the tables that they make, and what they send.
use Rattle.std.specs.Prelude.{◌≡◌, ℕ, ◌+◌, ◌<◌, true, false, List, length, Some, slice_get, slice_index}
use Rattle.dcop_base.specs.Table.{CostTable, product}
use Rattle.dcop_base.specs.Problem.{Dcop}
use Rattle.dcop_base.specs.Knowledge.{private_of}
use Rattle.dcop_base.specs.Values.{cell_with, cost_with, with_own}
use Rattle.pseudotree.specs.Pseudotree.{separator_of}
use Rattle.pseudotree.specs.Place.{sizes_of}
use Rattle.protocol_steps.specs.declared.message.Message.{Message}
use Rattle.protocol_steps.specs.declared.message.Message.TheVariants.{Util, ValueAll}
use Rattle.protocol_steps.specs.Dpop.{DpopView, own_tables, kept_tables, joined_cost}
use Rattle.protocol_steps.specs.View.{View, OfDpop, made_of, started_of, failed_of, table_of}
use Rattle.protocol_steps.specs.Laws.{IsBeside}
use Rattle.dcop_optimum.specs.Subtree.{AreValuesAbove, IsSubtreeOptimum}
use Rattle.protocol_steps.specs.TreeAgents.{place_at}

-- a table over the separator of variable i, from the root down, with one cell for each choice of values: the subtree optimum of i, whatever values the other ancestors have
pub record IsOptimumTable (p : Dcop) (paths : List (List ℕ)) (i : ℕ) (t : CostTable) : Type 0 where
  pub scope : t.scope ≡ separator_of p paths i
  pub sizes : t.sizes ≡ sizes_of p t.scope
  pub full : length t.cells ≡ product t.sizes
  pub cells : (value : ℕ → ℕ) → AreValuesAbove p paths i value → IsSubtreeOptimum p paths i value (cell_with t value)

-- what variable i may send: a UTIL with the table of its subtree optima, or VALUE
abbrev pub IsSent : Dcop → List (List ℕ) → ℕ → Message → Type 0
IsSent p paths i (Util scope cells) = IsOptimumTable p paths i (record { scope = scope; sizes = sizes_of p scope; cells = cells })
IsSent p paths i (ValueAll values) = Unit {0}
IsSent p paths i message = ⊥

-- what holds of the agent of variable i: it was made from what variable i knows and its place, it has started and not failed, its parent and children are among its neighbours, and a table that it has made is that of its subtree optima
pub record IsAgentOf (p : Dcop) (paths : List (List ℕ)) (i : ℕ) (v : View) : Type 0 where
  pub made : made_of v ≡ OfDpop (private_of p i) (place_at p paths i)
  pub started : started_of v ≡ true
  pub not_failed : failed_of v ≡ false
  pub beside : IsBeside v
  pub table : (t : CostTable) → table_of v ≡ Some t → IsOptimumTable p paths i t

-- no joined cell of the agent of variable i is cut off at the cap, whatever tables of its children it keeps: each is the cost of the own tables plus that of the kept ones
abbrev pub AreUncut : Dcop → List (List ℕ) → ℕ → DpopView → Type 0
AreUncut p paths i v = (value : ℕ → ℕ) (d : ℕ) → AreValuesAbove p paths i value → d < slice_index p.sizes i
    → joined_cost v value d ≡ cost_with (own_tables v) (with_own v.own.me d value) + cost_with (kept_tables v) (with_own v.own.me d value)

-- the agents of all variables
abbrev pub AreAgents : Dcop → List (List ℕ) → List View → Type 0
AreAgents p paths views = (i : ℕ) → i < length p.sizes → (v : View) × (slice_get views i ≡ Some v) × IsAgentOf p paths i v
