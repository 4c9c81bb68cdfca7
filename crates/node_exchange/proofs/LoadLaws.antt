-- What the pairs of nodes send in an exchange, pair by pair.
use Rattle.std.proofs.Common.{◌≡◌, ℕ, zero, suc, ◌+◌, ◌-◌, ◌<◌, ◌≤◌, List, [], ◌∷◌, ◌++◌, refl, sym, ap, ap₂, subst, ◌∙◌, arith}
use Rattle.std.proofs.lemmas.List.{append-nil, append_assoc}
use mathlib.Core.List.{IsPrefix}
use Rattle.wire_pump.specs.Wire.{Told}
use Rattle.worker_laws.specs.Cells.{EachAre}
use Rattle.node_exchange.specs.Passings.{Passing, SamePassing, frames_of}
use Rattle.node_exchange.specs.Turned.{Load, load, row_loads, loads_of, HasCarried}
use Rattle.node_exchange.proofs.LetterLaws.{frames_same}

-- the same was drained of the same links
pub load_same : (a b : ℕ) (ps qs : List Passing) → EachAre SamePassing ps qs → load a b qs ≡ load a b ps
load_same a b ps qs s = ap₂ (λ (there : List ℕ) (back : List ℕ). (there, back)) (frames_same a b ps qs s) (frames_same b a ps qs s)

pub row_same : (a count : ℕ) (ps qs : List Passing) → EachAre SamePassing ps qs → row_loads a count qs ≡ row_loads a count ps
row_same a zero ps qs s = refl
row_same a (suc count) ps qs s = ap₂ (λ (ls : List Load) (l : Load). ls ++ l ∷ []) (row_same a count ps qs s) (load_same a (a + 1 + count) ps qs s)

-- a list with more behind it begins with itself
longer : (xs ys more : List Load) → IsPrefix xs ys → IsPrefix xs (ys ++ more)
longer xs ys more p = (p.0 ++ more, sym (append_assoc xs p.0 more) ∙ ap (λ (zs : List Load). zs ++ more) p.1)

same_front : (xs : List Load) → IsPrefix xs xs
same_front xs = ([], append-nil xs)

row_front : (a m k n : ℕ) (ps : List Passing) → n ≡ k + m → IsPrefix (row_loads a m ps) (row_loads a n ps)
row_front a m zero n ps is = let same : m ≡ n = omega (arith, is) in subst (λ (j : ℕ). IsPrefix (row_loads a m ps) (row_loads a j ps)) same (same_front (row_loads a m ps))
row_front a m (suc k) zero ps is = absurd (omega (arith, is))
row_front a m (suc k) (suc n) ps is = longer (row_loads a m ps) (row_loads a n ps) (load a (a + 1 + n) ps ∷ []) (row_front a m k n ps (omega (arith, is)))

rows_front : (nodes m k n : ℕ) (ps : List Passing) → n ≡ k + m → IsPrefix (loads_of nodes m ps) (loads_of nodes n ps)
rows_front nodes m zero n ps is = let same : m ≡ n = omega (arith, is) in subst (λ (j : ℕ). IsPrefix (loads_of nodes m ps) (loads_of nodes j ps)) same (same_front (loads_of nodes m ps))
rows_front nodes m (suc k) zero ps is = absurd (omega (arith, is))
rows_front nodes m (suc k) (suc n) ps is = longer (loads_of nodes m ps) (loads_of nodes n ps) (row_loads n (nodes - 1 - n) ps) (rows_front nodes m k n ps (omega (arith, is)))

-- one pair more of a row, and one row more
pub row_next : (a second : ℕ) (ps qs : List Passing) → EachAre SamePassing ps qs → a + 1 ≤ second → row_loads a (second - 1 - a) ps ++ load a second qs ∷ [] ≡ row_loads a (second + 1 - 1 - a) ps
row_next a second ps qs s le =
    let place : a + 1 + (second - 1 - a) ≡ second = omega (arith, le) in
    let next : suc (second - 1 - a) ≡ second + 1 - 1 - a = omega (arith, le) in
    ap (λ (l : Load). row_loads a (second - 1 - a) ps ++ l ∷ []) (load_same a second ps qs s ∙ ap (λ (n : ℕ). load a n ps) (sym place))
    ∙ ap (λ (n : ℕ). row_loads a n ps) next

pub rows_next : (nodes first : ℕ) (ps qs : List Passing) → EachAre SamePassing ps qs → loads_of nodes first ps ++ row_loads first (nodes - 1 - first) qs ≡ loads_of nodes (first + 1) ps
rows_next nodes first ps qs s =
    let next : suc first ≡ first + 1 = omega arith in
    ap (λ (ls : List Load). loads_of nodes first ps ++ ls) (row_same first (nodes - 1 - first) ps qs s) ∙ ap (λ (n : ℕ). loads_of nodes n ps) next

-- the pairs so far and the next one are the first of a row, and the rows so far and the next one
-- the first of all
pub row_part : (nodes a second : ℕ) (ps qs : List Passing) → EachAre SamePassing ps qs → a + 1 ≤ second → second < nodes → IsPrefix (row_loads a (second - 1 - a) ps ++ load a second qs ∷ []) (row_loads a (nodes - 1 - a) ps)
row_part nodes a second ps qs s le lt =
    let size : nodes - 1 - a ≡ (nodes - 1 - second) + (second + 1 - 1 - a) = omega (arith, le, lt) in
    subst (λ (ls : List Load). IsPrefix ls (row_loads a (nodes - 1 - a) ps)) (sym (row_next a second ps qs s le))
    (row_front a (second + 1 - 1 - a) (nodes - 1 - second) (nodes - 1 - a) ps size)

pub rows_part : (nodes first : ℕ) (ps qs : List Passing) → EachAre SamePassing ps qs → first < nodes → IsPrefix (loads_of nodes first ps ++ row_loads first (nodes - 1 - first) qs) (loads_of nodes nodes ps)
rows_part nodes first ps qs s lt =
    let size : nodes ≡ (nodes - 1 - first) + (first + 1) = omega (arith, lt) in
    subst (λ (ls : List Load). IsPrefix ls (loads_of nodes nodes ps)) (sym (rows_next nodes first ps qs s))
    (rows_front nodes (first + 1) (nodes - 1 - first) nodes ps size)

-- no pair of a row, and all of them
pub row_none : (a second : ℕ) (ps : List Passing) → second ≡ a + 1 → row_loads a (second - 1 - a) ps ≡ []
row_none a second ps is = let none : second - 1 - a ≡ 0 = omega (arith, is) in ap (λ (n : ℕ). row_loads a n ps) none

pub row_all : (nodes a second : ℕ) (ps : List Passing) → second ≤ nodes → nodes ≤ second → row_loads a (second - 1 - a) ps ≡ row_loads a (nodes - 1 - a) ps
row_all nodes a second ps le ge = let same : second ≡ nodes = omega (arith, le, ge) in ap (λ (n : ℕ). row_loads a (n - 1 - a) ps) same

pub rows_all : (nodes first : ℕ) (ps : List Passing) → first ≤ nodes → nodes ≤ first → loads_of nodes first ps ≡ loads_of nodes nodes ps
rows_all nodes first ps le ge = let same : first ≡ nodes = omega (arith, le, ge) in ap (λ (n : ℕ). loads_of nodes n ps) same

-- a pair that has carried the frames between two nodes
pub same_load : {W : Type 0} (told : W → Told) (is_joined : W → W → Type 0) (a b : ℕ) (ps : List Passing) (there back : List ℕ) (d e : W × W) → there ≡ frames_of a b ps → back ≡ frames_of b a ps
    → HasCarried told is_joined (there, back) d e → HasCarried told is_joined (load a b ps) d e
same_load told is_joined a b ps there back d e first second h = subst (λ (l : Load). HasCarried told is_joined l d e) (ap₂ (λ (there : List ℕ) (back : List ℕ). (there, back)) first second) h
