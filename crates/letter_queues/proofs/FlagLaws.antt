-- Flags of bytes, and the next one that is set.
use Rattle.std.proofs.Common.{◌≡◌, ℕ, zero, suc, ◌+◌, ◌-◌, ◌<◌, ◌≤◌, Bool, true, List, [], ◌∷◌, map, drop, length, replicate, slice_index, Option, Some, None, refl, sym, ap, subst, ◌∙◌, arith, length-drop, get_or-drop}
use Rattle.std.specs.List.{slice_get}
use Rattle.std.proofs.lemmas.Option.{same_Some}
use Rattle.std.proofs.lemmas.List.{length-map}
use Rattle.memchr.specs.Find.{IsFirst, IsFirstByte, Nowhere, NoneBefore, Passes, is_byte}
use Rattle.memchr.proofs.lemmas.FindLemmas.{IsFirst-agree}
use Rattle.letter_queues.specs.Flags.{IsSet}

-- the flags of bytes that are all the same
pub flags_all : (n byte : ℕ) → map (is_byte 1) (replicate n byte) ≡ replicate n (is_byte 1 byte)
flags_all zero byte = refl
flags_all (suc n) byte = ap (λ (flags : List Bool). is_byte 1 byte ∷ flags) (flags_all n byte)

in_rest : (bytes rest : List ℕ) (from k : ℕ) → rest ≡ drop from bytes → slice_index rest k ≡ slice_index bytes (from + k)
in_rest bytes rest from k is = ap (λ (xs : List ℕ). slice_index xs k) is ∙ get_or-drop from bytes k 0

rest_length : (bytes rest : List ℕ) (from : ℕ) → rest ≡ drop from bytes → length rest ≡ length bytes - from
rest_length bytes rest from is = ap (λ (xs : List ℕ). length xs) is ∙ length-drop from bytes

behind : (bytes rest : List ℕ) (from k : ℕ) → rest ≡ drop from bytes → from ≤ k → Passes (is_byte 1) bytes k → Passes (is_byte 1) rest (k - from)
behind bytes rest from k is low p =
    let e : from + (k - from) ≡ k = omega (arith, low) in
    ap (is_byte 1) (in_rest bytes rest from (k - from) is ∙ ap (λ (n : ℕ). slice_index bytes n) e) ∙ p

-- a search from a place of a list on
pub none_from : (bytes rest : List ℕ) (from : ℕ) (r : Option ℕ) → rest ≡ drop from bytes → r ≡ None → IsFirstByte (is_byte 1) rest r → Nowhere (Passes (is_byte 1) bytes) from (length bytes)
none_from bytes rest from r is none h = λ k low high p.
    let found : Nowhere (Passes (is_byte 1) rest) 0 (length rest) = subst (λ (o : Option ℕ). IsFirstByte (is_byte 1) rest o) none h in
    let size = rest_length bytes rest from is in
    found (k - from) (omega arith) (omega (arith, size, low, high)) (behind bytes rest from k is low p)

pub first_from : (bytes rest : List ℕ) (from ahead : ℕ) (r : Option ℕ) → rest ≡ drop from bytes → r ≡ Some ahead → IsFirstByte (is_byte 1) rest r
    → NoneBefore (Passes (is_byte 1) bytes) from (length bytes) (from + ahead) × Passes (is_byte 1) bytes (from + ahead)
first_from bytes rest from ahead r is some h =
    let found : NoneBefore (Passes (is_byte 1) rest) 0 (length rest) ahead × Passes (is_byte 1) rest ahead = subst (λ (o : Option ℕ). IsFirstByte (is_byte 1) rest o) some h in
    let size = rest_length bytes rest from is in
    let high : ahead < length rest = found.0.high in (
      record {
        low = omega arith;
        high = omega (arith, size, high);
        before = λ k low below p. found.0.before (k - from) (omega arith) (omega (arith, low, below)) (behind bytes rest from k is low p);
      },
      ap (is_byte 1) (sym (in_rest bytes rest from ahead is)) ∙ found.1,
    )

flag_of : (bytes : List ℕ) (k : ℕ) → k < length bytes → slice_get (map (is_byte 1) bytes) k ≡ Some (is_byte 1 (slice_index bytes k))
flag_of [] k lt = absurd (omega (arith, lt))
flag_of (b ∷ bytes) zero lt = refl
flag_of (b ∷ bytes) (suc k) lt = flag_of bytes k (omega (arith, lt))

-- the first byte of a busy agent is the first flag that is set
pub first_set : (bytes : List ℕ) (from : ℕ) (r : Option ℕ) → IsFirst (Passes (is_byte 1) bytes) from (length bytes) r → IsFirst (IsSet (map (is_byte 1) bytes)) from (length (map (is_byte 1) bytes)) r
first_set bytes from r h =
    let flags : List Bool = map (is_byte 1) bytes in
    let first : IsFirst (IsSet flags) from (length bytes) r = IsFirst-agree (Passes (is_byte 1) bytes) (IsSet flags) from (length bytes)
    (λ k lt p. flag_of bytes k lt ∙ ap (λ (b : Bool). Some b) p)
    (λ k lt q. same_Some (is_byte 1 (slice_index bytes k)) true (sym (flag_of bytes k lt) ∙ q)) r h in
    subst (λ (n : ℕ). IsFirst (IsSet flags) from n r) (sym (length-map bytes (is_byte 1))) first
