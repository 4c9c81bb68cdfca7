-- The view of an ADOPT agent.
use Rattle.std.specs.Prelude.{ℕ, Bool, false, List, [], length, replicate, ◌==◌}
use Rattle.std.specs.List.{filter}
use Rattle.dcop_base.specs.Table.{has}
use Rattle.dcop_base.specs.declared.knowledge.Private.{Private}
use Rattle.pseudotree.specs.declared.agent.Place.{Place}
use Rattle.adopt_context.specs.Context.{Context}
use Rattle.adopt_context.specs.Bounds.{Entry, blank}
use Rattle.protocol_steps.specs.Agent.{Phase, not_started}

-- an ADOPT agent: what it was made from, what it knows of the values of its path, its value, its threshold and the last one received, whether it has taken TERMINATE, and for each own value a row with one entry for each child
pub record AdoptView : Type 0 where
  pub own : Private
  pub place : Place
  pub error : ℕ
  pub phase : Phase
  pub known : Context
  pub value : ℕ
  pub threshold : ℕ
  pub last : ℕ
  pub told : Bool
  pub rows : List (List Entry)

-- an ADOPT agent as it is made, before its start
abbrev pub new_adopt : Private → Place → ℕ → AdoptView
new_adopt own place error = record {
  own = own;
  place = place;
  error = error;
  phase = not_started;
  known = [];
  value = 0;
  threshold = 0;
  last = 0;
  told = false;
  rows = replicate own.size (replicate (length place.children) blank);
}

-- whether the agent is the root: its path is empty
abbrev pub is_root : AdoptView → Bool
is_root v = length v.place.path == 0

-- the higher neighbours: those that are in the path
abbrev pub higher : AdoptView → List ℕ
higher v = filter (has v.place.path) v.own.neighbours
