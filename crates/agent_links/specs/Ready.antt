-- New cells, ready to be run.
use Rattle.std.specs.Prelude.{◌≡◌, ℕ, false, List}
use Rattle.std.specs.declared.dyn_box.DynBox.{DynBox}
use Rattle.std.specs.declared.alloc.Global.{Global}
use Rattle.protocol_steps.specs.declared.run_end.RunEnd.{RunEnd}
use Rattle.protocol_steps.specs.declared.run_end.RunEnd.TheVariants.{AllEnded, Spent, Still}
use Rattle.protocol_steps.specs.View.{View}
use Rattle.agent_cells.specs.declared.cell.Cell.{Cell}
use Rattle.agent_cells.specs.Links.{Tail, Head}
use Rattle.agent_cells.specs.State.{state_of, begun_in, tails_in, heads_in, IsCell}
use Rattle.agent_workers.specs.Joined.{EachIs, AreCellsJoined}
use Rattle.agent_workers.specs.Run.{views_of}

-- how many messages were taken in a run that ended in this way
abbrev pub deliveries_in : RunEnd → ℕ
deliveries_in (AllEnded n) = n
deliveries_in (Spent n) = n
deliveries_in (Still n) = n

module _ {X : Type 0} {F : X → Type 0} where
  -- a sound cell that has not begun, of an agent with this view and number, over these ends of
  -- links
  pub record IsNewCell (meaning : DynBox X Global F → View) (view : View) (me : ℕ) (tails : List Tail) (heads : List Head) (c : Cell X F) : Type 0 where
    pub cell : IsCell meaning c
    pub begun : begun_in c ≡ false
    pub me_is : (state_of meaning c).me ≡ me
    pub view_is : (state_of meaning c).view ≡ view
    pub tails_are : tails_in c ≡ tails
    pub heads_are : heads_in c ≡ heads

  -- sound cells of agents with these views, none of which has begun, joined in `nodes` nodes
  pub record AreReadyIn (meaning : DynBox X Global F → View) (nodes : ℕ) (made : List View) (cells : List (Cell X F)) : Type 0 where
    pub joined : AreCellsJoined meaning nodes cells
    pub sound : EachIs (λ c. IsCell meaning c) cells
    pub fresh : EachIs (λ c. begun_in c ≡ false) cells
    pub views : views_of meaning cells ≡ made

  -- the same, joined in one node
  abbrev pub AreReady : (DynBox X Global F → View) → List View → List (Cell X F) → Type 0
  AreReady meaning made cells = AreReadyIn meaning 1 made cells
