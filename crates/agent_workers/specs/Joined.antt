-- Cells in a list, and how their links join them.
use Rattle.std.specs.Prelude.{◌≡◌, ℕ, ◌≤◌, true, List, map, length, Some, slice_get}
use Rattle.std.specs.List.{Contains}
use Rattle.std.specs.declared.dyn_box.DynBox.{DynBox}
use Rattle.std.specs.declared.alloc.Global.{Global}
use Rattle.dcop_base.specs.Limits.{variable_limit}
use Rattle.protocol_steps.specs.View.{View}
use Rattle.worker_laws.specs.Cells.{CellState, peers, IsWired}
use Rattle.worker_laws.specs.OneNode.{home}
use Rattle.agent_cells.specs.declared.cell.Cell.{Cell}
use Rattle.agent_cells.specs.Settled.{EndsJoin}
use Rattle.agent_cells.specs.State.{state_of, begun_in, tails_in, heads_in, IsCell, KeepsLinks}

module _ {X : Type 0} {F : X → Type 0} where
  -- the cells as plain values
  abbrev pub states_of : (DynBox X Global F → View) → List (Cell X F) → List CellState
  states_of meaning cells = map (λ c. state_of meaning c) cells

  -- P holds of each cell of a list
  pub record EachIs (P : Cell X F → Type 0) (cells : List (Cell X F)) : Type 0 where
    pub each : (i : ℕ) (c : Cell X F) → slice_get cells i ≡ Some c → P c

  -- R holds of each cell and the cell that is at its place afterwards; there are as many cells as
  -- before
  pub record EachBecomes (R : Cell X F → Cell X F → Type 0) (before after : List (Cell X F)) : Type 0 where
    pub size : length after ≡ length before
    pub each : (i : ℕ) (a b : Cell X F) → slice_get before i ≡ Some a → slice_get after i ≡ Some b → R a b

  -- a sound cell, which has begun
  pub record HasBegun (meaning : DynBox X Global F → View) (c : Cell X F) : Type 0 where
    pub cell : IsCell meaning c
    pub begun : begun_in c ≡ true

  -- a cell of the same agent, with the same links
  pub record IsSameCell (before after : Cell X F) : Type 0 where
    pub me : after.me ≡ before.me
    pub links : KeepsLinks before after

  -- if there is a link from one cell to another, its ends are in the two
  abbrev pub HaveJoinedEnds : Cell X F → Cell X F → Type 0
  HaveJoinedEnds from to = EndsJoin (tails_in from) to.me (heads_in to) from.me

  -- cells joined in `nodes` nodes: they are at most 1,000; cell i is that of agent i, and its peers
  -- are other agents, each with it as a peer; each link between two peers in one node has its ends
  -- in their cells
  pub record AreCellsJoined (meaning : DynBox X Global F → View) (nodes : ℕ) (cells : List (Cell X F)) : Type 0 where
    pub few : length cells ≤ variable_limit
    pub wired : (i : ℕ) (c : Cell X F) → slice_get cells i ≡ Some c → IsWired (length cells) i (state_of meaning c)
    pub others : (i : ℕ) (c : Cell X F) → slice_get cells i ≡ Some c → Contains (peers (state_of meaning c).taken) i → ⊥
    pub back : (i j : ℕ) (a b : Cell X F) → slice_get cells i ≡ Some a → slice_get cells j ≡ Some b → Contains (peers (state_of meaning a).taken) j → Contains (peers (state_of meaning b).taken) i
    pub ends : (i j : ℕ) (a b : Cell X F) → slice_get cells i ≡ Some a → slice_get cells j ≡ Some b → home nodes (length cells) i ≡ home nodes (length cells) j → HaveJoinedEnds a b
