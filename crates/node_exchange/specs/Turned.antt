-- Wires that are used in turn, and what they carry.
use Rattle.std.specs.Prelude.{◌≡◌, ℕ, zero, suc, ◌+◌, ◌-◌, ◌≤◌, List, [], ◌∷◌, ◌++◌, length, Result, Ok, Err}
use mathlib.Core.List.{IsPrefix}
use Rattle.wire_pump.specs.Wire.{Told}
use Rattle.wire_pump.specs.Ends.{start_of, CountsLater}
use Rattle.wire_pump.specs.Pump.{HasPassed}
use Rattle.node_exchange.specs.declared.fault.PassFault.{PassFault}
use Rattle.node_exchange.specs.declared.fault.PassFault.TheVariants.{Failed, Bytes, NoMemory}
use Rattle.node_exchange.specs.Passings.{Passing, frames_of}

-- the bytes that the two wires of a pair send: those to the second end, and those to the first
abbrev pub Load : Type 0
Load = List ℕ × List ℕ

-- what two nodes send to each other in an exchange
abbrev pub load : ℕ → ℕ → List Passing → Load
load a b ps = (frames_of a b ps, frames_of b a ps)

-- what a node and each of the next `count` nodes send to each other
abbrev pub row_loads : ℕ → ℕ → List Passing → List Load
row_loads a zero ps = []
row_loads a (suc count) ps = row_loads a count ps ++ load a (a + 1 + count) ps ∷ []

-- what each of the first `rows` nodes and each node after it send to each other
abbrev pub loads_of : ℕ → ℕ → List Passing → List Load
loads_of nodes zero ps = []
loads_of nodes (suc rows) ps = loads_of nodes rows ps ++ row_loads rows (nodes - 1 - rows) ps

-- what the two nodes of each pair send to each other in an exchange, in the order (0, 1), (0, 2)
-- and so on
abbrev pub loads : ℕ → List Passing → List Load
loads nodes ps = loads_of nodes nodes ps

-- how many pairs of wires an exchange with this result may have lost
abbrev pub lost_by : {T : Type 0} → Result T PassFault → ℕ
lost_by (Ok value) = 0
lost_by (Err Failed) = 1
lost_by (Err (Bytes from_node to_node place sent taken)) = 0
lost_by (Err NoMemory) = 1

module _ {W : Type 0} (told : W → Told) (is_joined : W → W → Type 0) where
  -- the same pair of wires after it has carried this load: each wire has sent exactly these bytes
  -- more, and as many were received at the other; their faults are as they were, their counts of
  -- waits did not fall, and wires that were joined still are
  pub record HasCarried (load : Load) (before after : W × W) : Type 0 where
    pub at_second : List ℕ
    pub there : HasPassed (start_of (told before.0) (told before.1)) (told after.0) (told after.1) load.0 at_second
    pub at_first : List ℕ
    pub back : HasPassed (start_of (told before.1) (told before.0)) (told after.1) (told after.0) load.1 at_first
    pub first : CountsLater (told before.0) (told after.0)
    pub second : CountsLater (told before.1) (told after.1)
    pub joined : is_joined before.0 before.1 → is_joined after.0 after.1

  -- pair by pair, each is the same pair of wires after it has carried its load
  abbrev pub EachCarried : List Load → List (W × W) → List (W × W) → Type 0
  EachCarried [] [] [] = Unit {0}
  EachCarried [] [] (e ∷ es) = ⊥
  EachCarried [] (d ∷ ds) es = ⊥
  EachCarried (l ∷ ls) [] es = ⊥
  EachCarried (l ∷ ls) (d ∷ ds) [] = ⊥
  EachCarried (l ∷ ls) (d ∷ ds) (e ∷ es) = HasCarried l d e × EachCarried ls ds es

  -- some pairs were taken from the front of the list. The first of them carried these loads, each
  -- its own, and were put at the end of the list, in the same order; the others, at most `most`,
  -- are gone
  pub record AreTurnedWith (most : ℕ) (loads : List Load) (before after : List (W × W)) : Type 0 where
    pub taken : List (W × W)
    pub used : List (W × W)
    pub later : EachCarried loads taken used
    pub gone : List (W × W)
    pub few : length gone ≤ most
    pub turned : before ++ used ≡ (taken ++ gone) ++ after

  -- some pairs were used in this way, whatever they carried
  abbrev pub AreTurned : ℕ → List (W × W) → List (W × W) → Type 0
  AreTurned most before after = (loads : List Load) × AreTurnedWith most loads before after

  -- the first of these loads were carried in turn, and no others
  pub record HaveCarriedFirst (most : ℕ) (loads : List Load) (before after : List (W × W)) : Type 0 where
    pub carried : List Load
    pub first : IsPrefix carried loads
    pub turned : AreTurnedWith most carried before after

  -- exactly these loads were carried in turn; after a fault maybe only the first of them
  abbrev pub HaveCarried : {T : Type 0} → List Load → List (W × W) → List (W × W) → Result T PassFault → Type 0
  HaveCarried loads before after (Ok value) = AreTurnedWith 0 loads before after
  HaveCarried {T = T} loads before after (Err fault) = HaveCarriedFirst (lost_by {T = T} (Err fault)) loads before after
