-- What is told of a variable: the first table that names it.
use Rattle.std.proofs.Common.{◌≡◌, ℕ, ◌+◌, ◌<◌, ◌≤◌, Bool, true, false, cond, eqb, List, [], ◌∷◌, length, get_or, drop, sym, ap, ◌∙◌, inl, inr, arith, All}
use Rattle.std.specs.List.{count_by}
use Rattle.std.proofs.lemmas.Bool.{cases_Bool, cond-true, cond-false, eqb-true}
use Rattle.std.proofs.lemmas.List.{drop_more, drop_all}
use Rattle.std.proofs.lemmas.List.Sums.{sum_by-cons}
use Rattle.std.proofs.lemmas.List.Elements.{All-head, All-tail}
use Rattle.certificate_text.specs.declared.certificate.Util.{Util}
use Rattle.minimised_problem.specs.Told.{told}

-- whether a table is the variable's own
abbrev pub names : ℕ → Util → Bool
names v u = eqb u.var v

pub told_here : (utils : List Util) (k v : ℕ) (u : Util) → k < length utils → u ≡ get_or utils k u → names v u ≡ true → told (drop k utils) v ≡ u
told_here utils k v u lt is here =
    ap (λ (us : List Util). told us v) (drop_more utils k u lt)
    ∙ ap (λ (x : Util). cond (names v x) x (told (drop (k + 1) utils) v)) (sym is)
    ∙ cond-true (names v u) u (told (drop (k + 1) utils) v) here

pub told_later : (utils : List Util) (k v : ℕ) (u : Util) → k < length utils → u ≡ get_or utils k u → names v u ≡ false → told (drop k utils) v ≡ told (drop (k + 1) utils) v
told_later utils k v u lt is other =
    ap (λ (us : List Util). told us v) (drop_more utils k u lt)
    ∙ ap (λ (x : Util). cond (names v x) x (told (drop (k + 1) utils) v)) (sym is)
    ∙ cond-false (names v u) u (told (drop (k + 1) utils) v) other

pub count_later : (utils : List Util) (k v : ℕ) (u : Util) → k < length utils → u ≡ get_or utils k u → names v u ≡ false → count_by (names v) (drop k utils) ≡ count_by (names v) (drop (k + 1) utils)
count_later utils k v u lt is other =
    let here : count_by (names v) (drop k utils) ≡ count_by (names v) (u ∷ drop (k + 1) utils) =
    ap (count_by (names v)) (drop_more utils k u lt) ∙ ap (λ (x : Util). count_by (names v) (x ∷ drop (k + 1) utils)) (sym is) in
    let step = sum_by-cons (λ x. cond (names v x) 1 0) u (drop (k + 1) utils) in
    let none : cond (names v u) 1 0 ≡ 0 = cond-false {A = ℕ} (names v u) 1 0 other in
    omega (arith, here, step, none)

pub count_none : (utils : List Util) (k v : ℕ) → length utils ≤ k → count_by (names v) (drop k utils) ≡ 1 → ⊥
count_none utils k v le one = let e = sym (ap (count_by (names v)) (drop_all k utils le)) ∙ one in absurd (omega arith)

-- what is told of a variable with a table names it
pub told_names : (utils : List Util) (v : ℕ) → 1 ≤ count_by (names v) utils → (told utils v).var ≡ v
told_names [] v some = absurd (omega arith)
told_names (u ∷ us) v some =
    elim (cases_Bool (names v u)) [
      | inl here ↦ ap (λ (x : Util). x.var) (cond-true (names v u) u (told us v) here) ∙ eqb-true u.var v here
      | inr other ↦
          let rest : 1 ≤ count_by (names v) us =
          omega (arith, some, sum_by-cons (λ x. cond (names v x) 1 0) u us, cond-false {A = ℕ} (names v u) 1 0 other) in
          ap (λ (x : Util). x.var) (cond-false (names v u) u (told us v) other) ∙ told_names us v rest
    ]

-- what holds of each table holds of what is told of a variable with a table
pub told_all : (P : Util → Type 0) (utils : List Util) (v : ℕ) → All P utils → 1 ≤ count_by (names v) utils → P (told utils v)
told_all P [] v all some = absurd (omega arith)
told_all P (u ∷ us) v all some =
    elim (cases_Bool (names v u)) [
      | inl here ↦ rw (cond-true (names v u) u (told us v) here) (All-head P u us all)
      | inr other ↦
          let rest : 1 ≤ count_by (names v) us =
          omega (arith, some, sum_by-cons (λ x. cond (names v x) 1 0) u us, cond-false {A = ℕ} (names v u) 1 0 other) in
          rw (cond-false (names v u) u (told us v) other) (told_all P us v (All-tail P u us all) rest)
    ]
