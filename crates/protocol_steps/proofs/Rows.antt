-- Worked rows: four batches of one ADOPT agent, computed by the definitions.
use Rattle.std.proofs.Common.{◌≡◌, ℕ, true, false, List, [], ◌∷◌, Some, None, refl}
use Rattle.dcop_base.specs.Table.{CostTable}
use Rattle.protocol_steps.specs.declared.message.Message.{Message}
use Rattle.protocol_steps.specs.declared.message.Message.TheVariants.{Value, Cost, Threshold, Terminate}
use Rattle.protocol_steps.specs.Agent.{Stepped}
use Rattle.protocol_steps.specs.Adopt.{AdoptView, new_adopt}
use Rattle.protocol_steps.specs.AdoptStep.{adopt_start, adopt_step}

-- a table of two variables with two values each
abbrev pub of_two : ℕ → ℕ → List ℕ → CostTable
of_two u v cells = record { scope = u ∷ v ∷ []; sizes = 2 ∷ 2 ∷ []; cells = cells }

abbrev zeros : List ℕ
zeros = 0 ∷ 0 ∷ 0 ∷ 0 ∷ []

-- the agent m of five tables over r, p, m and k, which are 0, 1, 2 and 3
abbrev middle : AdoptView
middle = new_adopt
    (record { me = 2; size = 2; neighbours = 0 ∷ 1 ∷ 3 ∷ []; neighbour_sizes = 2 ∷ 2 ∷ 2 ∷ []; tables = of_two 1 2 zeros ∷ of_two 0 2 zeros ∷ of_two 2 3 (5 ∷ 5 ∷ 1 ∷ 1 ∷ []) ∷ [] })
    (record { me = 2; path = 0 ∷ 1 ∷ []; path_sizes = 2 ∷ 2 ∷ []; children = 3 ∷ []; lower = 3 ∷ [] })
    0

abbrev batch_a : List (ℕ × Message)
batch_a = (0, Value 0) ∷ (1, Value 0) ∷ (1, Threshold 5 ((0, 0) ∷ [])) ∷ []

abbrev batch_b : List (ℕ × Message)
batch_b = (1, Threshold 1 ((0, 1) ∷ [])) ∷ (1, Terminate ((0, 1) ∷ (1, 0) ∷ [])) ∷ []

abbrev batch_c : List (ℕ × Message)
batch_c = (3, Cost ((0, 1) ∷ (2, 0) ∷ []) 5 (Some 5)) ∷ []

abbrev batch_d : List (ℕ × Message)
batch_d = (3, Cost ((0, 1) ∷ (2, 1) ∷ []) 1 (Some 1)) ∷ []

abbrev middle_a : Stepped AdoptView
middle_a = adopt_step (adopt_start middle).view batch_a

abbrev middle_b : Stepped AdoptView
middle_b = adopt_step middle_a.view batch_b

abbrev middle_c : Stepped AdoptView
middle_c = adopt_step middle_b.view batch_c

abbrev middle_d : Stepped AdoptView
middle_d = adopt_step middle_c.view batch_d

pub middle_sends_a : middle_a.sends ≡ (1, Cost ((0, 0) ∷ (1, 0) ∷ []) 0 None) ∷ (3, Value 0) ∷ (3, Threshold 5 ((0, 0) ∷ (1, 0) ∷ [])) ∷ []
middle_sends_a = refl

pub middle_sends_b : middle_b.sends ≡ (1, Cost ((0, 1) ∷ (1, 0) ∷ []) 0 None) ∷ (3, Value 0) ∷ (3, Threshold 1 ((0, 1) ∷ (1, 0) ∷ [])) ∷ []
middle_sends_b = refl

pub middle_sends_c : middle_c.sends ≡ (1, Cost ((0, 1) ∷ (1, 0) ∷ []) 0 (Some 5)) ∷ (3, Value 1) ∷ (3, Threshold 1 ((0, 1) ∷ (1, 0) ∷ [])) ∷ []
middle_sends_c = refl

pub middle_open_c : middle_c.view.phase.ended ≡ false
middle_open_c = refl

pub middle_sends_d : middle_d.sends ≡ (3, Value 1) ∷ (3, Threshold 1 ((0, 1) ∷ (1, 0) ∷ [])) ∷ (3, Terminate ((0, 1) ∷ (1, 0) ∷ (2, 1) ∷ [])) ∷ []
middle_sends_d = refl

pub middle_ended_d : middle_d.view.phase.ended ≡ true
middle_ended_d = refl

pub middle_value_d : middle_d.view.value ≡ 1
middle_value_d = refl
