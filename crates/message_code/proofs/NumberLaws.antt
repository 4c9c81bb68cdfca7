-- Numbers at the front of bytes, and their form.
use Rattle.std.proofs.Common.{◌≡◌, ℕ, ◌+◌, ◌^◌, ◌<◌, ◌≤◌, Bool, true, ◌&&◌, List, ◌++◌, length, take, drop, refl, ap, ◌∙◌, arith, length-append}
use Rattle.std.specs.Prelude.{nat_le, nat_lt}
use Rattle.std.specs.Int.{Width, w8, w16, w32, w64, byte_len, from_be_bytes, to_be_bytes}
use Rattle.std.proofs.lemmas.List.{take_at, drop_at}
use Rattle.std.proofs.lemmas.Nat.{from_be_bytes-to_be_bytes_2, from_be_bytes-to_be_bytes_4, from_be_bytes-to_be_bytes_8}
use Rattle.message_code.specs.Form.{Form, number, stands, first_fault}

-- what is known of a width: its codes are so long, and each number below a limit is read back
pub record IsWide (w : Width) (most : ℕ) : Type 0 where
  pub len : (n : ℕ) → length (to_be_bytes w n) ≡ byte_len w
  pub again : (n : ℕ) → n < most → from_be_bytes w (to_be_bytes w n) ≡ n

pub wide8 : IsWide w8 (2 ^ 8)
wide8 = record { len = λ n. refl; again = λ n lt. omega arith }

pub wide16 : IsWide w16 (2 ^ 16)
wide16 = record { len = λ n. refl; again = λ n lt. from_be_bytes-to_be_bytes_2 n lt }

pub wide32 : IsWide w32 (2 ^ 32)
wide32 = record { len = λ n. refl; again = λ n lt. from_be_bytes-to_be_bytes_4 n lt }

pub wide64 : IsWide w64 (2 ^ 64)
wide64 = record { len = λ n. refl; again = λ n lt. from_be_bytes-to_be_bytes_8 n lt }

both_true : (a b c : Bool) → a ≡ true → b ≡ true → c ≡ true → a && (b && c) ≡ true
both_true a b c p q r = rw (p, q, r) refl

le_true : (a b : ℕ) → a ≤ b → nat_le a b ≡ true
le_true a b h = grind arith

lt_true : (a b : ℕ) → a < b → nat_lt a b ≡ true
lt_true a b h = grind arith

-- a number in its range is passed
pub number_passes : (w : Width) (most : ℕ) → IsWide w most → (least limit n : ℕ) (next : ℕ → Form) (before : ℕ) (rest : List ℕ) → n < most → least ≤ n → n < limit
    → first_fault (number w least limit next) before (to_be_bytes w n ++ rest) ≡ first_fault (next n) (before + byte_len w) rest
number_passes w most wide least limit n next before rest fits ge lt =
    let front : take (byte_len w) (to_be_bytes w n ++ rest) ≡ to_be_bytes w n = take_at (to_be_bytes w n) rest (byte_len w) (wide.len n) in
    let behind : drop (byte_len w) (to_be_bytes w n ++ rest) ≡ rest = drop_at (to_be_bytes w n) rest (byte_len w) (wide.len n) in
    let is : from_be_bytes w (take (byte_len w) (to_be_bytes w n ++ rest)) ≡ n = ap (from_be_bytes w) front ∙ wide.again n fits in
    let whole : nat_le (byte_len w) (length (to_be_bytes w n ++ rest)) ≡ true = le_true _ _ (omega (arith, wide.len n, length-append (to_be_bytes w n) rest)) in
    let low : nat_le least (from_be_bytes w (take (byte_len w) (to_be_bytes w n ++ rest))) ≡ true = le_true _ _ (omega arith) in
    let high : nat_lt (from_be_bytes w (take (byte_len w) (to_be_bytes w n ++ rest))) limit ≡ true = lt_true _ _ (omega arith) in
    let test : stands w least limit (to_be_bytes w n ++ rest) ≡ true = both_true _ _ _ whole low high in
    rw (test, is, behind) refl
