-- Sending and receiving, poll by poll.
use Rattle.std.proofs.Common.{◌≡◌, ◌+◌, ◌≤◌, ℕ, List, ◌++◌, length, take, drop, Option, Some, None, refl, ap, sym, subst, ◌∙◌, append_assoc, take-add, arith, length-drop}
use Rattle.dcop_edge.specs.Faults.{Rose}
use Rattle.wire_pump.specs.Wire.{Told, told_more, counted_more, Wrote, Gave, Broke, WaitsToWrite, WaitsToRead}
use Rattle.wire_pump.specs.Lane.{Sends, Receives, Fails}

-- a count that rose later has risen since
pub Rose-after : (a b c : ℕ) → a ≤ b → Rose b c → Rose a c
Rose-after a b c le rose = grind (arith)

told_more-more : (before : Option (List ℕ)) (xs ys : List ℕ) → told_more (told_more before xs) ys ≡ told_more before (xs ++ ys)
told_more-more None xs ys = refl
told_more-more (Some text) xs ys = ap Some (append_assoc text xs ys)

told_more-take : (before now then : Option (List ℕ)) (bytes : List ℕ) (at count : ℕ) → now ≡ told_more before (take at bytes) → then ≡ told_more now (take count (drop at bytes))
    → then ≡ told_more before (take (at + count) bytes)
told_more-take before now then bytes at count p q =
    q ∙ ap (λ t. told_more t (take count (drop at bytes))) p ∙ told_more-more before (take at bytes) (take count (drop at bytes)) ∙ ap (λ xs. told_more before xs) (sym (take-add at count bytes))

counted_more-more : (before now then at count : ℕ) → now ≡ counted_more before at → then ≡ counted_more now count → then ≡ counted_more before (at + count)
counted_more-more before now then at count p q = omega (arith, p, q)

pub Sends-none : (a : Told) (bytes : List ℕ) (went : ℕ) → went ≤ length bytes → Sends a bytes went a went
Sends-none a bytes went le = record { within = le; sent = λ before h. h; received = refl; sent_count = λ before h. h; received_count = refl; write_waits = omega arith; read_waits = refl; faults = refl }

pub Sends-more : (a b c : Told) (bytes : List ℕ) (went now count : ℕ) → Sends a bytes went b now → Wrote b (drop now bytes) count c → Sends a bytes went c (now + count)
Sends-more a b c bytes went now count s w = record {
  within = let w1 = w.within in let s1 = s.within in omega (arith, length-drop now bytes);
  sent = λ before h. told_more-take before b.sent c.sent bytes now count (s.sent before h) (ap (λ (t : Told). t.sent) w.is);
  received = ap (λ (t : Told). t.received) w.is ∙ s.received;
  sent_count = λ before h. counted_more-more before b.sent_count c.sent_count now count (s.sent_count before h) w.counted;
  received_count = ap (λ (t : Told). t.received_count) w.is ∙ s.received_count;
  write_waits = let e : c.write_waits ≡ b.write_waits = ap (λ (t : Told). t.write_waits) w.is in let s1 = s.write_waits in omega arith;
  read_waits = ap (λ (t : Told). t.read_waits) w.is ∙ s.read_waits;
  faults = ap (λ (t : Told). t.faults) w.is ∙ s.faults;
}

pub Sends-waits : (a b c : Told) (bytes : List ℕ) (went now : ℕ) → Sends a bytes went b now → WaitsToWrite b c → Sends a bytes went c now × Rose a.write_waits c.write_waits
Sends-waits a b c bytes went now s w = (
  record {
    within = s.within;
    sent = λ before h. ap (λ (t : Told). t.sent) w.is ∙ s.sent before h;
    received = ap (λ (t : Told). t.received) w.is ∙ s.received;
    sent_count = λ before h. ap (λ (t : Told). t.sent_count) w.is ∙ s.sent_count before h;
    received_count = ap (λ (t : Told). t.received_count) w.is ∙ s.received_count;
    write_waits = let w1 = w.grew in let s1 = s.write_waits in omega arith;
    read_waits = ap (λ (t : Told). t.read_waits) w.is ∙ s.read_waits;
    faults = ap (λ (t : Told). t.faults) w.is ∙ s.faults;
  },
  Rose-after a.write_waits b.write_waits c.write_waits s.write_waits w.rose,
)

pub Fails-after : (a b c : Told) → b.faults ≡ a.faults → Broke b c → Fails a c
Fails-after a b c e w = record { grew = let w1 = w.grew in omega arith; rose = subst (λ n. Rose n c.faults) e w.rose }

pub Receives-none : (a : Told) (old : List ℕ) (came : ℕ) → came ≤ length old → Receives a old came a old came
Receives-none a old came le = record { within = le; same_length = refl; received = λ before h. h; sent = refl; received_count = λ before h. h; sent_count = refl; read_waits = omega arith; write_waits = refl; faults = refl }

pub Receives-more : (a b c : Told) (old new newer : List ℕ) (came now count : ℕ) → Receives a old came b new now → Gave b (drop now new) (drop now newer) count c
    → take now newer ≡ take now new → length newer ≡ length new → Receives a old came c newer (now + count)
Receives-more a b c old new newer came now count r g front len = record {
  within = let g1 = g.within in let r1 = r.within in let r2 = r.same_length in omega (arith, length-drop now new);
  same_length = len ∙ r.same_length;
  received = λ before h. told_more-take before b.received c.received newer now count (r.received before h ∙ ap (λ xs. told_more before xs) (sym front)) (ap (λ (t : Told). t.received) g.is);
  sent = ap (λ (t : Told). t.sent) g.is ∙ r.sent;
  received_count = λ before h. counted_more-more before b.received_count c.received_count now count (r.received_count before h) g.counted;
  sent_count = ap (λ (t : Told). t.sent_count) g.is ∙ r.sent_count;
  read_waits = let e : c.read_waits ≡ b.read_waits = ap (λ (t : Told). t.read_waits) g.is in let r1 = r.read_waits in omega arith;
  write_waits = ap (λ (t : Told). t.write_waits) g.is ∙ r.write_waits;
  faults = ap (λ (t : Told). t.faults) g.is ∙ r.faults;
}

pub Receives-waits : (a b c : Told) (old new newer : List ℕ) (came now : ℕ) → Receives a old came b new now → WaitsToRead b c → take now newer ≡ take now new → length newer ≡ length new
    → Receives a old came c newer now × Rose a.read_waits c.read_waits
Receives-waits a b c old new newer came now r w front len = (
  record {
    within = r.within;
    same_length = len ∙ r.same_length;
    received = λ before h. ap (λ (t : Told). t.received) w.is ∙ r.received before h ∙ ap (λ xs. told_more before xs) (sym front);
    sent = ap (λ (t : Told). t.sent) w.is ∙ r.sent;
    received_count = λ before h. ap (λ (t : Told). t.received_count) w.is ∙ r.received_count before h;
    sent_count = ap (λ (t : Told). t.sent_count) w.is ∙ r.sent_count;
    read_waits = let w1 = w.grew in let r1 = r.read_waits in omega arith;
    write_waits = ap (λ (t : Told). t.write_waits) w.is ∙ r.write_waits;
    faults = ap (λ (t : Told). t.faults) w.is ∙ r.faults;
  },
  Rose-after a.read_waits b.read_waits c.read_waits r.read_waits w.rose,
)
