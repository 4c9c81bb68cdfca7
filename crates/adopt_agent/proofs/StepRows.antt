-- Worked rows, computed by the definitions: a leaf that is told to end in another context than it knows, and bounds at the cap.
use Rattle.std.proofs.Common.{◌≡◌, ℕ, true, false, List, [], ◌∷◌, Some, refl}
use Rattle.dcop_base.specs.Limits.{amount_limit}
use Rattle.dcop_base.specs.Table.{CostTable}
use Rattle.protocol_steps.specs.declared.message.Message.TheVariants.{Value, Cost, Threshold, Terminate}
use Rattle.protocol_steps.specs.Agent.{Stepped}
use Rattle.protocol_steps.specs.Adopt.{AdoptView, new_adopt}
use Rattle.protocol_steps.specs.AdoptStep.{adopt_start, adopt_step}
use Rattle.protocol_steps.proofs.Rows.{of_two}

-- variable 1 below 0, with these neighbours, children and further tables
abbrev below_zero : List ℕ → List ℕ → List ℕ → List CostTable → AdoptView
below_zero neighbours sizes children tables = new_adopt
    (record { me = 1; size = 2; neighbours = neighbours; neighbour_sizes = sizes; tables = of_two 0 1 (5 ∷ 3 ∷ 2 ∷ 7 ∷ []) ∷ tables })
    (record { me = 1; path = 0 ∷ []; path_sizes = 2 ∷ []; children = children; lower = children })
    0

abbrev leaf_told : Stepped AdoptView
leaf_told = adopt_step (adopt_start (below_zero (0 ∷ []) (2 ∷ []) [] [])).view ((0, Value 0) ∷ [])

pub leaf_sends : leaf_told.sends ≡ (0, Cost ((0, 0) ∷ []) 3 (Some 3)) ∷ []
leaf_sends = refl

-- TERMINATE brings the value 1 of variable 0, of which the leaf knows the value 0
abbrev leaf_ended : Stepped AdoptView
leaf_ended = adopt_step leaf_told.view ((0, Terminate ((0, 1) ∷ [])) ∷ [])

pub leaf_has_ended : leaf_ended.view.phase.ended ≡ true
leaf_has_ended = refl

pub leaf_takes_the_last_values : leaf_ended.view.value ≡ 0
leaf_takes_the_last_values = refl

pub leaf_sends_nothing : leaf_ended.sends ≡ []
leaf_sends_nothing = refl

-- the bounds of the child of both own values are the greatest
abbrev at_cap : Stepped AdoptView
at_cap = adopt_step (adopt_start (below_zero (0 ∷ 2 ∷ []) (2 ∷ 2 ∷ []) (2 ∷ []) (of_two 1 2 (0 ∷ 0 ∷ 0 ∷ 0 ∷ []) ∷ []))).view
    ((0, Value 0) ∷ (2, Cost ((1, 0) ∷ []) amount_limit (Some amount_limit)) ∷ (2, Cost ((1, 1) ∷ []) amount_limit (Some amount_limit)) ∷ [])

pub sums_stay_at_the_cap : at_cap.sends ≡ (0, Cost ((0, 0) ∷ []) amount_limit (Some amount_limit)) ∷ (2, Value 0) ∷ (2, Threshold amount_limit ((0, 0) ∷ [])) ∷ []
sums_stay_at_the_cap = refl

pub open_at_the_cap : at_cap.view.phase.ended ≡ false
open_at_the_cap = refl
