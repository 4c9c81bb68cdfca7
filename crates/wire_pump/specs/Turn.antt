-- The outcome of one poll of a pump.
use Rattle.wire_pump.specs.Wire.{Told}
use Rattle.wire_pump.specs.Ends.{IsLater, Waits}
use Rattle.wire_pump.specs.Pump.{GivesFrom}
use Rattle.wire_pump.specs.declared.ends.Ends.{Ends}
use Rattle.wire_pump.specs.declared.pump.Turn.{Turn}
use Rattle.wire_pump.specs.declared.pump.Turn.TheVariants.{Done, Open}

module _ {W : Type 0} (told : W → Told) (is_joined : W → W → Type 0) where
  -- the pump goes on from a later state, in which each direction that is not done waits
  pub record GoesOn (a b : Ends W) : Type 0 where
    pub later : IsLater told a b
    pub waits : Waits told a b
    pub joined : is_joined a.first a.second → is_joined b.first b.second

  -- the pump is done with an output that it may give, or it goes on
  abbrev pub AfterTurn : Ends W → Turn W → Type 0
  AfterTurn e (Done out) = GivesFrom told is_joined e out
  AfterTurn e (Open later) = GoesOn e later

-- this holds if the pump goes on
abbrev pub OnOpen : {W : Type 0} → Turn W → Type 0 → Type 0
OnOpen (Done out) P = Unit {0}
OnOpen (Open later) P = P
