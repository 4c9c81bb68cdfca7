-- What the agents of a tree make and choose, as functions of the variables.
use Rattle.std.specs.Prelude.{◌≡◌, ℕ, ◌<◌, Bool, true, false, List, [], ◌∷◌, map, length, Option, Some, None, if◌then◌else◌}
use Rattle.dcop_base.specs.Table.{CostTable}
use Rattle.dcop_base.specs.Problem.{Dcop}
use Rattle.dcop_base.specs.Knowledge.{private_of}
use Rattle.pseudotree.specs.Tree.{children_of}
use Rattle.pseudotree.specs.Pseudotree.{separator_of}
use Rattle.protocol_steps.specs.declared.message.Message.{Message}
use Rattle.protocol_steps.specs.declared.message.Message.TheVariants.{Util, ValueAll}
use Rattle.protocol_steps.specs.Agent.{Phase, Stepped}
use Rattle.protocol_steps.specs.Values.{context_of}
use Rattle.protocol_steps.specs.Dpop.{DpopView, util_table, best_value}
use Rattle.protocol_steps.specs.TreeAgents.{place_at}

-- an agent that has started, and has ended or not
abbrev pub phase_with : Bool → Phase
phase_with ended = record { started = true; ended = ended; failed = false }

-- the agent of variable i in a state
abbrev pub view_with : Dcop → List (List ℕ) → ℕ → Bool → List (Option CostTable) → Option CostTable → ℕ → DpopView
view_with p paths i ended kept made value = record { own = private_of p i; place = place_at p paths i; phase = phase_with ended; kept = kept; made = made; value = value }

-- a table is kept, where this is so
abbrev pub kept_if : (ℕ → CostTable) → (ℕ → Bool) → ℕ → Option CostTable
kept_if table up c = if up c then Some (table c) else None

-- the agent of variable i with these tables of its children, and nothing made yet
abbrev pub full : Dcop → List (List ℕ) → (ℕ → CostTable) → ℕ → DpopView
full p paths table i = view_with p paths i false (map (λ c. Some (table c)) (children_of paths i)) None 0

-- the tables that the agents make, and the values that they take under those of their separators
pub record Plan (p : Dcop) (paths : List (List ℕ)) : Type 0 where
  pub table : ℕ → CostTable
  pub value : ℕ → ℕ
  pub table_is : (i : ℕ) → i < length paths → table i ≡ util_table (full p paths table i)
  pub value_is : (i : ℕ) → i < length paths → value i ≡ best_value (full p paths table i) value

-- the UTIL of variable i
abbrev pub util_of_plan : {p : Dcop} {paths : List (List ℕ)} → Plan p paths → ℕ → Message
util_of_plan plan i = Util (plan.table i).scope (plan.table i).cells

-- the VALUE for variable c
abbrev pub values_for_child : (p : Dcop) (paths : List (List ℕ)) → (ℕ → ℕ) → ℕ → Message
values_for_child p paths value c = ValueAll (context_of (separator_of p paths c) value)

-- an agent that takes its value, and tells its children
abbrev pub decided : {p : Dcop} {paths : List (List ℕ)} → Plan p paths → ℕ → Stepped DpopView
decided {p} {paths} plan i = record {
  view = view_with p paths i true (map (λ c. Some (plan.table c)) (children_of paths i)) (Some (plan.table i)) (plan.value i);
  sends = map (λ c. (c, values_for_child p paths plan.value c)) (children_of paths i);
}

-- an agent that has made its table: it tells its parent; the root decides
abbrev pub joins : {p : Dcop} {paths : List (List ℕ)} → Plan p paths → ℕ → Option ℕ → Stepped DpopView
joins {p} {paths} plan i (Some u) = record {
  view = view_with p paths i false (map (λ c. Some (plan.table c)) (children_of paths i)) (Some (plan.table i)) 0;
  sends = (u, util_of_plan plan i) ∷ [];
}
joins plan i None = decided plan i
