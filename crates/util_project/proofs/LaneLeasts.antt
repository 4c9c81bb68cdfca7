-- Laws of the least of cells that are taken four at a time.
use Rattle.std.proofs.Common.{◌≡◌, ℕ, zero, suc, ◌+◌, ◌-◌, ◌<◌, ◌≤◌, List, length, get_or, min, refl, sym, ap, ◌∙◌, inl, inr, arith}
use Rattle.std.proofs.lemmas.Simd.{get_or-chunk, get_or-zip2, length-chunk, length-zip2}
use Rattle.std.proofs.lemmas.Bool.{cases_lt}
use lib.Lanes.{chunk, zip2}
use Rattle.util_project.specs.Projection.{IsLeast}

-- four lanes, each of them one of the first cells, of which each is at least one of the lanes
pub record AreLeastLanes (cells lanes : List ℕ) (at : ℕ) : Type 0 where
  pub four : length lanes ≡ 4
  pub some : (j : ℕ) → j < 4 → (d : ℕ) × (d < at) × (get_or cells d 0 ≡ get_or lanes j 0)
  pub lower : (d : ℕ) → d < at → (j : ℕ) × (j < 4) × (get_or lanes j 0 ≤ get_or cells d 0)

pub lanes-first : (cells : List ℕ) → 4 ≤ length cells → AreLeastLanes cells (chunk 0 4 cells) 4
lanes-first cells h = record {
  four = length-chunk 0 4 cells h;
  some = λ j lt. (j, lt, sym (get_or-chunk 0 4 cells j 0 lt ∙ ap (λ (i : ℕ). get_or cells i 0) (let same : 0 + j ≡ j = omega arith in same)));
  lower = λ d lt. (d, lt, (let same : 0 + d ≡ d = omega arith in omega (arith, get_or-chunk 0 4 cells d 0 lt ∙ ap (λ (i : ℕ). get_or cells i 0) same)));
}

pub lanes-more : (cells lanes next : List ℕ) (at : ℕ) → AreLeastLanes cells lanes at → at + 4 ≤ length cells → next ≡ zip2 min (chunk at 4 cells) lanes → AreLeastLanes cells next (at + 4)
lanes-more cells lanes next at so_far h e =
    let long : length (chunk at 4 cells) ≡ 4 = length-chunk at 4 cells h in
    let lane : (j : ℕ) → j < 4 → get_or next j 0 ≡ min (get_or cells (at + j) 0) (get_or lanes j 0) =
    λ j lt. ap (λ (xs : List ℕ). get_or xs j 0) e ∙ get_or-zip2 min (chunk at 4 cells) lanes j 0 0 0 (omega (arith, lt, long)) (omega (arith, lt, so_far.four)) ∙ ap (λ (x : ℕ). min x (get_or lanes j 0)) (get_or-chunk at 4 cells j 0 lt) in
    record {
      four = ap (λ (xs : List ℕ). length xs) e ∙ length-zip2 min (chunk at 4 cells) lanes (long ∙ sym so_far.four) ∙ long;
      some = λ j lt. elim (cases_lt (get_or cells (at + j) 0) (get_or lanes j 0)) [
        | inl less ↦ (at + j, omega (arith, lt), omega (arith, lane j lt, less))
        | inr more ↦ (let old = so_far.some j lt in (old.0, omega (arith, old.1), omega (arith, old.2, lane j lt, more)))
      ];
      lower = λ d lt. elim (cases_lt d at) [
        | inl before ↦ (let old = so_far.lower d before in (old.0, old.1, omega (arith, old.2, lane old.0 old.1)))
        | inr behind ↦ (let j = d - at in
            let small : j < 4 = omega (arith, lt, behind) in
            let here : at + j ≡ d = omega (arith, behind) in
            (j, small, omega (arith, lane j small, ap (λ (i : ℕ). get_or cells i 0) here)))
      ];
    }

-- the least of the lanes is that of the cells
pub lanes-least : (cells lanes : List ℕ) (at least : ℕ) → AreLeastLanes cells lanes at → IsLeast (λ j. get_or lanes j 0) 4 least → IsLeast (λ d. get_or cells d 0) at least
lanes-least cells lanes at least so_far h =
    let cell = so_far.some h.attained.0 h.attained.1 in
    record {
      attained = (cell.0, cell.1, cell.2 ∙ h.attained.2);
      lower = λ d lt. (let lane = so_far.lower d lt in omega (arith, lane.2, h.lower lane.0 lane.1));
    }

-- the least of four numbers
chosen : (f : ℕ → ℕ) (n i j x y : ℕ) → i < n → j < n → f i ≡ x → f j ≡ y → (d : ℕ) × (d < n) × (f d ≡ min x y)
chosen f n i j x y hi hj ei ej = elim (cases_lt x y) [
  | inl less ↦ (i, hi, omega (arith, ei, less))
  | inr more ↦ (j, hj, omega (arith, ej, more))
]

below-each : (f : ℕ → ℕ) (least : ℕ) → least ≡ min (min (f 0) (f 1)) (min (f 2) (f 3)) → (d : ℕ) → d < 4 → least ≤ f d
below-each f least e zero lt = omega (arith, e)
below-each f least e (suc zero) lt = omega (arith, e)
below-each f least e (suc (suc zero)) lt = omega (arith, e)
below-each f least e (suc (suc (suc zero))) lt = omega (arith, e)
below-each f least e (suc (suc (suc (suc d)))) lt = absurd (omega (arith, lt))

pub least-of-four : (f : ℕ → ℕ) (least : ℕ) → least ≡ min (min (f 0) (f 1)) (min (f 2) (f 3)) → IsLeast f 4 least
least-of-four f least e =
    let one = chosen f 4 0 1 (f 0) (f 1) (omega arith) (omega arith) refl refl in
    let two = chosen f 4 2 3 (f 2) (f 3) (omega arith) (omega arith) refl refl in
    let all = chosen f 4 one.0 two.0 (min (f 0) (f 1)) (min (f 2) (f 3)) one.1 two.1 one.2 two.2 in
    record { attained = (all.0, all.1, omega (arith, all.2, e)); lower = below-each f least e }
