-- What holds of every ADOPT agent.
use Rattle.std.specs.Prelude.{◌≡◌, ℕ, ◌+◌, ◌<◌, ◌≤◌, Bool, true, ◌&&◌, List, length, replicate, slice_index}
use Rattle.std.specs.List.{filter}
use Rattle.dcop_base.specs.declared.knowledge.Private.{Private}
use Rattle.dcop_base.specs.Limits.{amount_limit}
use Rattle.dcop_base.specs.Table.{has}
use Rattle.dcop_base.specs.Values.{cost_with, with_own}
use Rattle.pseudotree.specs.declared.agent.Place.{Place}
use Rattle.adopt_context.specs.Context.{Context, names_all, part_of}
use Rattle.adopt_context.specs.Bounds.{Entry, cap, entry_at}
use Rattle.adopt_bounds.specs.Rows.{BoundsView}
use Rattle.protocol_steps.specs.Knowledge.{IsKnowledge}
use Rattle.protocol_steps.specs.Placing.{IsPlaceFor}
use Rattle.protocol_steps.specs.Adopt.{higher}
use Rattle.protocol_steps.specs.AdoptBounds.{counts, delta}
use Rattle.protocol_steps.specs.AdoptRange.{fits}
use Rattle.protocol_steps.specs.Values.{valued}
use Rattle.adopt_agent.specs.declared.best.Best.{Best}
use Rattle.adopt_agent.specs.Best.{AreBest}
use Rattle.adopt_agent.specs.Costs.{Differ}
use Rattle.adopt_agent.specs.Stage.{knowing}

-- what an agent is made from, with a context over its path
pub record IsAdoptGround (own : Private) (place : Place) (known : Context) : Type 0 where
  pub own_fits : IsKnowledge own
  pub placed : IsPlaceFor own place
  pub known_fits : fits (knowing own place known) known ≡ true

-- the costs are those of each own value by the tables that count
pub record AreCosts (own : Private) (place : Place) (known : Context) (costs : List ℕ) : Type 0 where
  pub counted : length costs ≡ own.size
  pub each : (d : ℕ) → d < own.size → slice_index costs d ≡ delta (knowing own place known) d

-- costs to which the tables were added that count and name a variable
pub record AreAdded (own : Private) (place : Place) (known : Context) (var : ℕ) (before after : List ℕ) : Type 0 where
  pub counted : length after ≡ own.size
  pub each : (d : ℕ) → d < own.size → slice_index after d ≡ cap (slice_index before d + cost_with (filter (λ t. has t.scope var && counts (knowing own place known) t) own.tables) (with_own own.me d (valued known)))

-- what the tables that count and name a variable add to costs of 0
pub record AreTableShares (own : Private) (place : Place) (known : Context) (var : ℕ) (shares : List ℕ) : Type 0 where
  pub count : ℕ
  pub added : AreAdded own place known var (replicate count 0) shares

-- costs and shares by a context that differs from what is known at most in the value of one variable
pub record WereShared (own : Private) (place : Place) (known : Context) (var : ℕ) (costs shares : List ℕ) : Type 0 where
  pub before : Context
  pub others : Differ before known var
  pub costed : AreCosts own place before costs
  pub shared : AreTableShares own place before var shares

-- the context of each entry is part of what is known
abbrev pub RestOn : Context → List (List Entry) → Type 0
RestOn known rows = (d k : ℕ) → part_of (entry_at rows d k).context known ≡ true

-- the bounds have a row for each own value, they are for the agent's children, and the context of each entry is part of what is known
pub record AreBacked (own : Private) (place : Place) (known : Context) (bounds : BoundsView) : Type 0 where
  pub children : bounds.children ≡ place.children
  pub counted : length bounds.rows ≡ own.size
  pub rest : RestOn known bounds.rows

-- an agent's knowledge, costs, bounds and least bounds are consistent, and its value and amounts are within their ranges
pub record IsSound (own : Private) (place : Place) (higher_ones : List ℕ) (error : ℕ) (known : Context) (costs : List ℕ) (knows_higher : Bool) (bounds : BoundsView) (best : Best) (value threshold last_received : ℕ) : Type 0 where
  pub ground : IsAdoptGround own place known
  pub costed : AreCosts own place known costs
  pub higher_is : higher_ones ≡ higher (knowing own place known)
  pub knows_higher_is : knows_higher ≡ names_all known (higher (knowing own place known))
  pub backed : AreBacked own place known bounds
  pub best_is : AreBest costs knows_higher bounds.rows best
  pub value_below : value < own.size
  pub error_within : error ≤ amount_limit
  pub threshold_within : threshold ≤ amount_limit
  pub last_within : last_received ≤ amount_limit
