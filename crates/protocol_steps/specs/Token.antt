-- The view of a token agent.
use Rattle.std.specs.Prelude.{ℕ, Bool, false, not, ◌||◌, List, [], take, Option, Some, None, if◌then◌else◌}
use Rattle.std.specs.List.{find, filter, flat_map, concat}
use Rattle.dcop_base.specs.Table.{has}
use Rattle.dcop_base.specs.declared.knowledge.Private.{Private}
use Rattle.pseudotree.specs.declared.agent.Place.{Place}
use Rattle.protocol_steps.specs.Agent.{Phase, not_started}

-- a token agent: what it knows of the problem, its phase, whether it has opened (taken its TOKEN,
-- or started as the root) and the path that it then got, the subtrees of its children that came
-- back, and the child that it waits for
pub record TokenView : Type 0 where
  pub own : Private
  pub phase : Phase
  pub opened : Bool
  pub path : List ℕ
  pub kept : List (List ℕ)
  pub awaited : Option ℕ

-- a token agent as it is made, before its start
abbrev pub new_token : Private → TokenView
new_token own = record { own = own; phase = not_started; opened = false; path = []; kept = []; awaited = None }

-- whether a variable is in the path or in a kept subtree
abbrev pub is_visited : TokenView → ℕ → Bool
is_visited v u = has v.path u || has (concat v.kept) u

-- the lowest neighbour that has not been visited, if there is one
abbrev pub next_child : TokenView → Option ℕ
next_child v = find (λ u. not (is_visited v u)) v.own.neighbours

-- the children: the first variable of each kept subtree
abbrev pub token_children : TokenView → List ℕ
token_children v = flat_map (λ subtree. take 1 subtree) v.kept

-- the place of a token agent, once it has ended: its neighbours that are not in its path are its lower neighbours; the path's sizes are left out
abbrev pub token_place : TokenView → Option Place
token_place v =
    if v.phase.ended
    then Some (record {
      me = v.own.me;
      path = v.path;
      path_sizes = [];
      children = token_children v;
      lower = filter (λ u. not (has v.path u)) v.own.neighbours;
    })
    else None
