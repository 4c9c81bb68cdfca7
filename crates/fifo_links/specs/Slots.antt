-- The ring of a link.
use Rattle.std.specs.Prelude.{ℕ}

-- how many items a ring holds
abbrev pub ring_slots : ℕ
ring_slots = 64
