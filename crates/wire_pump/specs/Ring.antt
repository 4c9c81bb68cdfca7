-- A ring of bytes, with both of its ends.
use Rattle.std.specs.Prelude.{◌≡◌, ◌+◌, ◌≤◌, ℕ, List, length}
use Rattle.rtrb.specs.Ring.{sent, received, known_items, known_free}
use Rattle.wire_pump.specs.declared.ring.Ring.{Ring}

-- how many bytes a ring can hold
abbrev pub ring_bytes : ℕ
ring_bytes = 4096

-- all bytes that were put in, and all that were taken out, oldest first
abbrev pub put_into : Ring → List ℕ
put_into r = sent r.tail

abbrev pub taken_from : Ring → List ℕ
taken_from r = received r.head

-- the bytes in the ring that the taking end knows of, and the number of slots that the putting end
-- knows to be free
abbrev pub known_in : Ring → List ℕ
known_in r = known_items r.head

abbrev pub free_in : Ring → ℕ
free_in r = known_free r.tail

-- all that was taken from one ring was put into the other, and if `room` more bytes are put into
-- the first, both together hold no more than one can
pub record IsPoured (room : ℕ) (from to : Ring) : Type 0 where
  pub whole : taken_from from ≡ put_into to
  pub fits : room + length (put_into from) ≤ ring_bytes + length (taken_from to)
