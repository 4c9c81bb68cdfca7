-- A problem with its variables in another order, and what was found there, reported in the problem's own order.
use Rattle.std.specs.Prelude.{◌≡◌, ℕ, List, length, map, slice_index, Option, Some, None}
use Rattle.std.specs.List.{AllZip}
use Rattle.dcop_base.specs.Problem.{Dcop}
use Rattle.dcop_base.specs.Table.{values_at}
use Rattle.problem_order.specs.Order.{IsOrder}
use Rattle.problem_order.specs.Reordered.{IsTableFor}
use Rattle.search_stages.specs.declared.report.Found.{Found}

-- the same problem with its variables in this order: variable k of it is variable `order k` of the other
pub record IsInOrder (p : Dcop) (order : List ℕ) (inside : Dcop) : Type 0 where
  pub is_order : IsOrder (length p.sizes) order
  pub sizes : inside.sizes ≡ map (λ v. slice_index p.sizes v) order
  pub tables : AllZip (IsTableFor order) p.tables inside.tables

-- what a search found, told by the problem's own variables: a value for each variable of the order;
-- taken in that order they are the values that the search found, and the cost is the one that it
-- found
pub record IsToldOutside (order : List ℕ) (inside outside : Found) : Type 0 where
  pub many : length outside.values ≡ length order
  pub values : values_at order outside.values ≡ inside.values
  pub cost : outside.cost ≡ inside.cost

-- an assignment is reported if one was found, and none if none was found
abbrev pub AreToldOutside : List ℕ → Option Found → Option Found → Type 0
AreToldOutside order None None = Unit {0}
AreToldOutside order None (Some outside) = ⊥
AreToldOutside order (Some inside) None = ⊥
AreToldOutside order (Some inside) (Some outside) = IsToldOutside order inside outside
