-- Wires that failed are charged.
use Rattle.std.proofs.Common.{◌≡◌, ℕ, ◌<◌, ◌≤◌, ◌⊎◌, ◌∙◌, inl, inr, arith}
use Rattle.std.proofs.lemmas.Bool.{cases_eq}
use Rattle.dcop_edge.specs.Faults.{Rose}
use Rattle.wire_pump.specs.Wire.{Told}
use Rattle.wire_pump.specs.Pump.{HasFailed}
use Rattle.wire_pump.specs.declared.pump.PumpFail.{PumpFail}
use Rattle.node_exchange.specs.Carried.{HaveAnyFault}

some_fault : (a b : ℕ) → Rose a b → 0 < b
some_fault a b rose = elim rose [ inl lt ↦ omega (arith, lt) | inr full ↦ omega (arith, full) ]

pub any_fault : {W : Type 0} (told : W → Told) (is_joined : W → W → Type 0) (first second : W) (f : PumpFail W) → HasFailed told is_joined first second f → HaveAnyFault told f
any_fault told is_joined first second f h = elim h.rose [
  | inl one ↦ inl (some_fault (told first).faults (told f.first).faults one)
  | inr other ↦ inr (some_fault (told second).faults (told f.second).faults other)
]

rose_then : (a b c : ℕ) → Rose a b → b ≤ c → (c ≡ b) ⊎ Rose b c → a ≤ b → Rose a c
rose_then a b c (inl lt) le more first = inl (omega (arith, lt, le))
rose_then a b c (inr full) le (inl same) first = inr (same ∙ full)
rose_then a b c (inr full) le (inr (inl lt)) first = inl (omega (arith, lt, first))
rose_then a b c (inr full) le (inr (inr last)) first = inr last

then_rose : (a b c : ℕ) → a ≤ b → Rose b c → Rose a c
then_rose a b c le (inl lt) = inl (omega (arith, le, lt))
then_rose a b c le (inr full) = inr full

-- charging two wires of which one has failed raises the count
pub charged : (a b c m n : ℕ) → (m ≡ 0 → b ≡ a) → (0 < m → (a ≤ b) × Rose a b) → (n ≡ 0 → c ≡ b) → (0 < n → (b ≤ c) × Rose b c) → (0 < m) ⊎ (0 < n) → (a ≤ c) × Rose a c
charged a b c m n none some none_too some_too any = elim (cases_eq m 0) [
  | inl zeroed ↦
      let same = none zeroed in
      let lt : 0 < n = elim any [ inl m_some ↦ absurd (omega (arith, zeroed, m_some)) | inr n_some ↦ n_some ] in
      let two = some_too lt in
      let le = two.0 in
      (omega (arith, same, le), then_rose a b c (omega (arith, same)) two.1)
  | inr other ↦
      let one = some (omega (arith, other)) in
      let first = one.0 in
      elim (cases_eq n 0) [
        | inl zeroed ↦ let same = none_too zeroed in (omega (arith, first, same), rose_then a b c one.1 (omega (arith, same)) (inl same) first)
        | inr more ↦ let two = some_too (omega (arith, more)) in let le = two.0 in (omega (arith, first, le), rose_then a b c one.1 le (inr two.1) first)
      ]
]
