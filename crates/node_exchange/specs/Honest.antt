-- Wires that carry what is sent.
use Rattle.std.specs.Prelude.{List}
use Rattle.std.specs.List.{All}
use Rattle.wire_pump.specs.Wire.{Told}
use Rattle.wire_pump.specs.Pump.{HaveAll}

-- the wires of each pair tell their bytes, and each has received all that the other has sent
abbrev pub HaveReceivedAll : {W : Type 0} → (W → Told) → List (W × W) → Type 0
HaveReceivedAll told pairs = All (λ pair. HaveAll (told pair.0) (told pair.1)) pairs

module _ {W : Type 0} (told : W → Told) (is_joined : W → W → Type 0) where
  -- the two wires of each pair are joined, and each has received all that the other has sent
  pub record AreHonest (pairs : List (W × W)) : Type 0 where
    pub joined : All (λ pair. is_joined pair.0 pair.1) pairs
    pub all : HaveReceivedAll told pairs
