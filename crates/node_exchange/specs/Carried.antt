-- What was carried over the wires between two nodes.
use Rattle.std.specs.Prelude.{◌≡◌, ℕ, ◌<◌, ◌⊎◌, List}
use Rattle.wire_pump.specs.Wire.{Told}
use Rattle.wire_pump.specs.Pump.{HaveAll}
use Rattle.wire_pump.specs.declared.pump.Pumped.{Pumped}
use Rattle.wire_pump.specs.declared.pump.PumpFail.{PumpFail}

module _ {W : Type 0} (told : W → Told) (is_joined : W → W → Type 0) where
  -- exactly what was sent at each end was received at the other; the wires are joined, and each has
  -- received all that the other has sent
  pub record IsCarried (to_second to_first : List ℕ) (p : Pumped W) : Type 0 where
    pub there : p.at_second ≡ to_second
    pub back : p.at_first ≡ to_first
    pub joined : is_joined p.first p.second
    pub all : HaveAll (told p.first) (told p.second)

-- one of the two wires counts a fault
abbrev pub HaveAnyFault : {W : Type 0} → (W → Told) → PumpFail W → Type 0
HaveAnyFault told f = (0 < (told f.first).faults) ⊎ (0 < (told f.second).faults)
