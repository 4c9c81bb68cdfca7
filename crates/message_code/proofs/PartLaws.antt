-- Parts that stand one behind the other, and where reading them stops.
use Rattle.std.proofs.Common.{◌≡◌, ℕ, ◌+◌, ◌≤◌, List, ◌++◌, length, sym, ap, ◌∙◌, append_assoc, arith, length-append}
use Rattle.message_code.specs.declared.stop.Stop.{Stop}
use Rattle.message_code.specs.declared.stop.Stop.TheVariants as stops
use Rattle.std.proofs.Common.{◌<◌}
use Rattle.std.specs.Int.{Width, to_be_bytes}
use Rattle.message_code.specs.Form.{Form, number, first_fault}
use Rattle.message_code.specs.Reading.{Stopped}
use Rattle.message_code.proofs.NumberLaws.{IsWide, number_passes}

-- a fault in the first part is the fault of what begins with it
pub stopped_first : {N M : Type 0} (form : N → Form) (inner : M → N) (bytes : List ℕ) (stop : Stop) → Stopped form bytes stop → Stopped (λ (next : M). form (inner next)) bytes stop
stopped_first form inner bytes (stops.Bad left) h = record { within = h.within; place = λ next before place e. h.place (inner next) before place e }
stopped_first form inner bytes stops.NoMemory h = tt

-- a form passes a front: the rest is judged by what follows, from behind the front on
abbrev pub Passes : {M : Type 0} → (M → Form) → (M → Form) → List ℕ → List ℕ → Type 0
Passes {M} form deep front rest = (next : M) (before : ℕ) → first_fault (form next) before (front ++ rest) ≡ first_fault (deep next) (before + length front) rest

-- a fault behind a front that is passed
pub stopped_behind : {M : Type 0} (form deep : M → Form) (bytes front rest : List ℕ) (stop : Stop) → bytes ≡ front ++ rest → Passes form deep front rest → Stopped deep rest stop → Stopped form bytes stop
stopped_behind {M} form deep bytes front rest (stops.Bad left) is passes h =
    let long : length bytes ≡ length front + length rest = ap length is ∙ length-append front rest in
    record {
      within = let few = h.within in omega arith;
      place = λ next before place e. ap (first_fault (form next) before) is ∙ passes next before ∙ h.place next (before + length front) place (omega arith);
    }
stopped_behind form deep bytes front rest stops.NoMemory is passes h = tt

-- two fronts, one behind the other
pub passes_both : {M : Type 0} (form mid deep : M → Form) (front second rest : List ℕ) → Passes form mid front (second ++ rest) → Passes mid deep second rest → Passes form deep (front ++ second) rest
passes_both form mid deep front second rest p q next before =
    ap (first_fault (form next) before) (append_assoc front second rest) ∙ p next before ∙ q next (before + length front)
    ∙ ap (λ (x : ℕ). first_fault (deep next) x rest) (omega (arith, length-append front second))

-- a number in its range is passed, with what it decides
pub field_passes : {M : Type 0} (w : Width) (most : ℕ) → IsWide w most → (least limit n : ℕ) (form : ℕ → M → Form) (rest : List ℕ) → n < most → least ≤ n → n < limit
    → Passes (λ (next : M). number w least limit (λ k. form k next)) (form n) (to_be_bytes w n) rest
field_passes w most wide least limit n form rest fits ge lt next before =
    number_passes w most wide least limit n (λ k. form k next) before rest fits ge lt ∙ ap (λ (x : ℕ). first_fault (form n next) (before + x) rest) (sym (wide.len n))

-- a fault behind a number that is in its range
pub field_stops : {M : Type 0} (w : Width) (most : ℕ) → IsWide w most → (least limit n : ℕ) (form : ℕ → M → Form) (bytes rest : List ℕ) (stop : Stop) → bytes ≡ to_be_bytes w n ++ rest → n < most → least ≤ n → n < limit
    → Stopped (form n) rest stop → Stopped (λ (next : M). number w least limit (λ k. form k next)) bytes stop
field_stops {M} w most wide least limit n form bytes rest stop is fits ge lt h =
    stopped_behind (λ (next : M). number w least limit (λ k. form k next)) (form n) bytes (to_be_bytes w n) rest stop is (field_passes w most wide least limit n form rest fits ge lt) h
