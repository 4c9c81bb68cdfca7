-- The mark of an assignment is small.
use Rattle.std.proofs.Common.{◌≡◌, ℕ, ◌+◌, ◌*◌, ◌<◌, ◌≤◌, ◌^◌, List, [], ◌∷◌, length, get_or, drop, ap, sym, ◌∙◌, arith}
use Rattle.std.proofs.Math.Nat.{mul-le-mul_left, mul-le-mul_right}
use Rattle.std.specs.List.{All}
use Rattle.std.proofs.lemmas.List.{drop_more}
use Rattle.std.proofs.lemmas.List.Elements.{All-head, All-tail}
use Rattle.dcop_base.specs.Limits.{size_limit}
use Rattle.dcop_base.specs.Problem.{Dcop, IsAssignment}
use Rattle.dcop_base.specs.Table.{AreWithin}
use Rattle.dcop_base.specs.Whole.{IsProblem}
use Rattle.solve_methods.specs.Drill.{mark_from, mark_of}

product-few : (a b c d : ℕ) → a ≤ c → b ≤ d → a * b ≤ c * d
product-few a b c d x y =
    let left : a * b ≤ c * b = mul-le-mul_right b x in
    let right : c * b ≤ c * d = mul-le-mul_left c y in
    omega (arith, left, right)

mark-le : (place : ℕ) (sizes values : List ℕ) → All (λ s. (1 ≤ s) × (s ≤ size_limit)) sizes → AreWithin sizes values → place + length sizes ≤ 1001 → mark_from place values ≤ length sizes * 1025024
mark-le place [] [] all within few = omega arith
mark-le place [] (v ∷ vs) all within few = absurd within
mark-le place (s ∷ ss) [] all within few = absurd within
mark-le place (s ∷ ss) (v ∷ vs) all within few =
    let size = All-head (λ (s : ℕ). (1 ≤ s) × (s ≤ size_limit)) s ss all in
    let one : place * v ≤ 1001 * 1024 = product-few place v 1001 1024 (omega (arith, few)) (omega (arith, within.0, size.1)) in
    let rest = mark-le (place + 1) ss vs (All-tail (λ (s : ℕ). (1 ≤ s) × (s ≤ size_limit)) s ss all) within.1 (omega (arith, few)) in
    omega (arith, one, rest)

-- the mark of an assignment fits a counter
pub mark-small : (p : Dcop) (values : List ℕ) → IsProblem p → IsAssignment p values → mark_of values < 2 ^ 64
mark-small p values whole assigned =
    let most = mark-le 1 p.sizes values whole.sizes assigned (omega (arith, whole.few)) in
    let many : length p.sizes * 1025024 ≤ 1000 * 1025024 = mul-le-mul_right 1025024 whole.few in
    omega (arith, most, many)

-- the mark from a place on: the value there, and what is behind it
pub mark-next : (values : List ℕ) (k value : ℕ) → k < length values → value ≡ get_or values k value → mark_from (k + 1) (drop k values) ≡ (k + 1) * value + mark_from (k + 1 + 1) (drop (k + 1) values)
mark-next values k value lt is =
    ap (mark_from (k + 1)) (drop_more values k value lt) ∙ ap (λ (v : ℕ). (k + 1) * v + mark_from (k + 1 + 1) (drop (k + 1) values)) (sym is)
