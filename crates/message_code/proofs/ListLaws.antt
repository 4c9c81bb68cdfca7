-- Lists of numbers, one after the other.
use Rattle.std.proofs.Common.{◌≡◌, ℕ, suc, ◌+◌, ◌-◌, ◌<◌, ◌≤◌, List, [], ◌∷◌, ◌++◌, length, All, refl, ap, ◌∙◌, append_assoc, arith, length-append}
use Rattle.std.specs.List.{flat_map}
use Rattle.std.specs.Int.{Width, byte_len, to_be_bytes}
use Rattle.std.proofs.lemmas.List.Concat.{flat_map-cons}
use Rattle.std.proofs.lemmas.List.Elements.{All-head, All-tail}
use Rattle.message_code.specs.declared.stop.Stop.{Stop}
use Rattle.message_code.specs.Form.{Form, number, numbers, first_fault}
use Rattle.message_code.specs.Reading.{Stopped}
use Rattle.message_code.proofs.NumberLaws.{IsWide, number_passes}
use Rattle.message_code.proofs.PartLaws.{stopped_first, stopped_behind}

-- so many numbers are read from the front
pub record HasTaken (w : Width) (limit : ℕ) (bytes taken : List ℕ) (count : ℕ) (rest : List ℕ) : Type 0 where
  pub whole : bytes ≡ flat_map (to_be_bytes w) taken ++ rest
  pub told : length taken ≡ count
  pub range : All (λ n. n < limit) taken

-- numbers in their range are passed
pub numbers_pass : (w : Width) (most limit : ℕ) → IsWide w most → limit ≤ most → (ns : List ℕ) (m k : ℕ) (next : Form) (before : ℕ) (rest : List ℕ) → All (λ n. n < limit) ns → m ≡ length ns + k
    → first_fault (numbers w limit m next) before (flat_map (to_be_bytes w) ns ++ rest) ≡ first_fault (numbers w limit k next) (before + length (flat_map (to_be_bytes w) ns)) rest
numbers_pass w most limit wide le [] m k next before rest range e =
    let same : m ≡ k = omega arith in
    let at : before ≡ before + 0 = omega arith in
    ap (λ (x : ℕ). first_fault (numbers w limit x next) before rest) same ∙ ap (λ (x : ℕ). first_fault (numbers w limit k next) x rest) at
numbers_pass w most limit wide le (n ∷ ns) m k next before rest range e =
    let more : m ≡ suc (length ns + k) = omega arith in
    let lt : n < limit = All-head (λ x. x < limit) n ns range in
    let code = to_be_bytes w in
    let apart : flat_map code (n ∷ ns) ++ rest ≡ code n ++ (flat_map code ns ++ rest) = ap (λ (x : List ℕ). x ++ rest) (flat_map-cons code n ns) ∙ append_assoc (code n) (flat_map code ns) rest in
    let at : before + byte_len w + length (flat_map code ns) ≡ before + length (flat_map code (n ∷ ns)) = omega (arith, wide.len n, ap length (flat_map-cons code n ns), length-append (code n) (flat_map code ns)) in
    ap (λ (x : ℕ). first_fault (numbers w limit x next) before (flat_map code (n ∷ ns) ++ rest)) more
    ∙ ap (first_fault (numbers w limit (suc (length ns + k)) next) before) apart
    ∙ number_passes w most wide 0 limit n (λ _. numbers w limit (length ns + k) next) before (flat_map code ns ++ rest) (omega arith) (omega arith) lt
    ∙ numbers_pass w most limit wide le ns (length ns + k) k next (before + byte_len w) rest (All-tail (λ x. x < limit) n ns range) refl
    ∙ ap (λ (x : ℕ). first_fault (numbers w limit k next) x rest) at

-- where one more number is not read, so many are not
pub numbers_stop : (w : Width) (most limit : ℕ) → IsWide w most → limit ≤ most → (bytes taken : List ℕ) (count i : ℕ) (rest : List ℕ) (stop : Stop) → HasTaken w limit bytes taken i rest → i < count
    → Stopped (number w 0 limit) rest stop → Stopped (numbers w limit count) bytes stop
numbers_stop w most limit wide le bytes taken count i rest stop h lt stopped =
    let left : count ≡ length taken + suc (count - (i + 1)) = let told = h.told in omega arith in
    let one : Stopped (λ (next : Form). numbers w limit (suc (count - (i + 1))) next) rest stop = stopped_first (number w 0 limit) (λ next n. numbers w limit (count - (i + 1)) next) rest stop stopped in
    stopped_behind (numbers w limit count) (numbers w limit (suc (count - (i + 1)))) bytes (flat_map (to_be_bytes w) taken) rest stop h.whole
    (λ next before. numbers_pass w most limit wide le taken count (suc (count - (i + 1))) next before rest h.range left) one
