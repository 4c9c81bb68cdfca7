-- The table of a function whose cells were raised.
use Rattle.std.proofs.Common.{◌≡◌, ℕ, true, false, List, [], ◌∷◌, ◌++◌, length, take, drop, map, min, None, nat_eq, nat_lt, refl, ap, ◌∙◌, arith}
use Rattle.std.specs.List.{list_any}
use Rattle.std.proofs.Math.Seq.{take-append_seam}
use Rattle.std.proofs.lemmas.List.{length-map}
use Rattle.std.proofs.lemmas.Bool.Decides.{nat_tests}
use Rattle.dcop_base.specs.Table.{CostTable, product, table_fault}
use Rattle.wcsp_text.specs.Functions.{IsWritten}
use Rattle.wcsp_text.specs.Problems.{raised}

-- a cell as it is raised and cut
abbrev capped : ℕ → ℕ → ℕ → ℕ
capped top most cell = min (raised top most cell) 4611686018427387904

cap-within : (c : ℕ) → nat_lt 4611686018427387904 (min c 4611686018427387904) ≡ false
cap-within c = grind (arith, nat_tests)

all-within : (top most : ℕ) (cells : List ℕ) → list_any (λ c. nat_lt 4611686018427387904 c) (map (capped top most) cells) ≡ false
all-within top most [] = refl
all-within top most (c ∷ cs) = rw (cap-within (raised top most c), all-within top most cs) refl

-- nothing is wrong with the table
pub capped-whole : (t : CostTable) (top most long : ℕ) (items now new : List ℕ) → IsWritten t → items ≡ t.cells → now ≡ items → new ≡ map (λ c. min (raised top most c) 4611686018427387904) now → length now ≡ long → table_fault t.scope t.sizes (take long (new ++ drop (length new) items)) ≡ None
capped-whole t top most long items now new whole items-are same new-is long-is =
    let many : length new ≡ length now = ap length new-is ∙ length-map now (capped top most) in
    let end : long ≡ length new = omega (arith, many, long-is) in
    let all : take long (new ++ drop (length new) items) ≡ new = rw end (take-append_seam new (drop (length new) items)) in
    let sized : nat_eq (length t.sizes) (length t.scope) ≡ true = grind (arith, nat_tests, whole.sized) in
    let old : length now ≡ length t.cells = ap length (same ∙ items-are) in
    let full : nat_eq (length new) (product t.sizes) ≡ true = grind (arith, nat_tests, many, old, whole.full) in
    let low : list_any (λ c. nat_lt 4611686018427387904 c) new ≡ false = rw new-is (all-within top most now) in
    rw (all, whole.apart, sized, whole.positive, full, low) refl
