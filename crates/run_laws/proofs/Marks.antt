-- How far a run of DPOP is: which UTIL and which VALUE were taken, and what all agents and links are then.
use Rattle.std.specs.Prelude.{◌≡◌, ℕ, ◌+◌, Bool, true, ◌&&◌, List, [], ◌∷◌, ◌++◌, map, length, drop, Option, Some, None, if◌then◌else◌}
use Rattle.std.specs.List.{list_all}
use Rattle.dcop_base.specs.Table.{CostTable}
use Rattle.dcop_base.specs.Problem.{Dcop}
use Rattle.pseudotree.specs.Tree.{parent_of, children_of, is_variable}
use Rattle.protocol_steps.specs.declared.message.Message.{Message}
use Rattle.protocol_steps.specs.Dpop.{DpopView}
use Rattle.protocol_steps.proofs.TallyLaws.{tally}
use Rattle.run_laws.proofs.Plan.{view_with, kept_if, Plan, util_of_plan, values_for_child}

-- the variables whose UTIL was taken by their parent, and those that took the VALUE of their parent
pub record Marks : Type 0 where
  pub up : ℕ → Bool
  pub down : ℕ → Bool

-- a message, where it was told
abbrev pub told : Bool → Message → List Message
told b m = if b then m ∷ [] else []

-- the root has ended where it has joined, and the others where they know their values
abbrev pub ended_by : Option ℕ → Bool → Bool → Bool
ended_by None joined down = joined
ended_by (Some u) joined down = down

abbrev pub one_if : Bool → ℕ
one_if b = if b then 1 else 0

module _ {p : Dcop} {paths : List (List ℕ)} (plan : Plan p paths) where
  -- an agent has joined where the tables of all its children were taken
  abbrev pub joined : Marks → ℕ → Bool
  joined s i = list_all s.up (children_of paths i)

  abbrev pub ended : Marks → ℕ → Bool
  ended s i = ended_by (parent_of paths i) (joined s i) (s.down i)

  -- an agent by what it keeps, and whether it has joined and ended
  abbrev pub view_by : ℕ → Bool → Bool → List (Option CostTable) → DpopView
  view_by i b e kept = view_with p paths i e kept (if b then Some (plan.table i) else None) (if e then plan.value i else 0)

  abbrev pub view : Marks → ℕ → DpopView
  view s i = view_by i (joined s i) (ended s i) (map (kept_if plan.table s.up) (children_of paths i))

  -- the messages between two agents: UTIL to the parent, VALUE to a child
  abbrev pub messages : ℕ → ℕ → Bool → Bool → List Message
  messages j i b e = told (is_variable i (parent_of paths j) && b) (util_of_plan plan j) ++ told (is_variable j (parent_of paths i) && e) (values_for_child p paths plan.value i)

  -- all that agent j has sent to agent i
  abbrev pub sent : Marks → ℕ → ℕ → List Message
  sent s j i = messages j i (joined s j) (ended s j)

  -- what agent i has taken of agent j
  abbrev pub past : Marks → ℕ → ℕ → List Message
  past s i j = messages j i (s.up j) (s.down i)

  -- what waits for agent i from agent j
  abbrev pub waits : Marks → ℕ → ℕ → List Message
  waits s i j = drop (length (past s i j)) (sent s j i)

  -- what was taken was sent, and it was sent after what it needs
  pub record IsFit (s : Marks) : Type 0 where
    pub up_joined : (c : ℕ) → s.up c ≡ true → joined s c ≡ true
    pub up_known : (c : ℕ) → s.up c ≡ true → (u : ℕ) × (parent_of paths c ≡ Some u)
    pub down_ended : (c u : ℕ) → s.down c ≡ true → parent_of paths c ≡ Some u → ended s u ≡ true
    pub down_known : (c : ℕ) → s.down c ≡ true → (u : ℕ) × (parent_of paths c ≡ Some u)
    pub ended_joined : (i : ℕ) → ended s i ≡ true → joined s i ≡ true

  -- how many messages were taken
  abbrev pub taken : ℕ → Marks → ℕ
  taken n s = tally (λ c. one_if (s.up c)) n + tally (λ c. one_if (s.down c)) n
