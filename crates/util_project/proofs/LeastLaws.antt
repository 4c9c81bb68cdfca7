-- Laws of leasts: one number more, leasts that were appended, and the leasts of the runs of blocks.
use Rattle.std.proofs.Common.{◌≡◌, ℕ, suc, ◌+◌, ◌-◌, ◌*◌, ◌<◌, ◌≤◌, List, [], ◌∷◌, ◌++◌, length, length-append, None, get_or, take, drop, min, take_at, append_assoc, refl, sym, ap, ◌∙◌, subst, inl, inr, arith}
use Rattle.std.specs.List.{All, remove, insert}
use Rattle.std.proofs.lemmas.Nat.{mul-add-lt}
use Rattle.std.proofs.lemmas.List.{get_or_append_left, get_or-append-add, get_or_push, get_or-take, get_or-drop, get_or_default, get_or_past, length_push, length-take, length-drop}
use Rattle.std.proofs.lemmas.List.Elements.{All-take, All-drop}
use Rattle.std.proofs.lemmas.Simd.{get_or-zip2}
use Rattle.std.proofs.lemmas.Bool.{cases_lt}
use Rattle.std.proofs.Math.Nat.{mul_comm}
use Rattle.dcop_base.specs.Table.{product, AreWithin, cell_place, table_fault}
use Rattle.util_kernel.specs.Lanes.{leasts}
use Rattle.cost_table.proofs.RunLaws.{AreCounts, cut-at, product-remove}
use Rattle.cost_table.specs.Cells.{place_in}
use Rattle.cost_table.proofs.SliceLaws.{slice-parts}
use Rattle.util_project.specs.Projection.{IsLeast, IsProjection}
use Rattle.util_project.specs.Leasts.{AppendsLeasts, AreLeastRuns, AreLeastsAt}

-- the least of one number, of one number more, and of the same numbers
pub least-first : (f : ℕ → ℕ) (c : ℕ) → c ≡ f 0 → IsLeast f 1 c
least-first f c e = record {
  attained = (0, omega arith, sym e);
  lower = λ d lt. (let none : d ≡ 0 = omega (arith, lt) in omega (arith, e, ap f none));
}

pub least-more : (f : ℕ → ℕ) (n c m : ℕ) → IsLeast f n c → m ≡ min c (f n) → IsLeast f (n + 1) m
least-more f n c m h e = record {
  attained = elim (cases_lt (f n) c) [
    | inl lt ↦ (n, omega arith, omega (arith, e, lt))
    | inr ge ↦ (h.attained.0, omega (arith, h.attained.1), omega (arith, e, ge, h.attained.2))
  ];
  lower = λ d lt. elim (cases_lt d n) [
    | inl below ↦ omega (arith, e, h.lower d below)
    | inr past ↦ (let same : d ≡ n = omega (arith, lt, past) in omega (arith, e, ap f same))
  ];
}

pub least-same : (f g : ℕ → ℕ) (n c e : ℕ) → ((d : ℕ) → d < n → f d ≡ g d) → c ≡ e → IsLeast f n c → IsLeast g n e
least-same f g n c e same ce h = record {
  attained = (h.attained.0, h.attained.1, sym (same h.attained.0 h.attained.1) ∙ h.attained.2 ∙ ce);
  lower = λ d lt. omega (arith, ce, h.lower d lt, same d lt);
}

-- cells that are appended, one by one and as a whole run
pub appends-none : (block : List ℕ) (size stride : ℕ) (old : List ℕ) → AppendsLeasts block size stride 0 old old
appends-none block size stride old = record { long = omega arith; same = λ k lt. refl; each = λ i lt. absurd (omega (arith, lt)) }

pub appends-more : (block : List ℕ) (size stride i : ℕ) (old now new : List ℕ) (c : ℕ) → AppendsLeasts block size stride i old now → IsLeast (λ d. get_or block (d * stride + i) 0) size c → new ≡ now ++ (c ∷ []) → AppendsLeasts block size stride (i + 1) old new
appends-more block size stride i old now new c h least e = record {
  long = omega (arith, h.long, ap length e, length_push now c);
  same = λ k lt. (let below : k < length now = omega (arith, lt, h.long) in
      ap (λ (xs : List ℕ). get_or xs k 0) e ∙ get_or_append_left now (c ∷ []) 0 k below ∙ h.same k lt);
  each = λ j lt. elim (cases_lt j i) [
    | inl before ↦ (let below : length old + j < length now = omega (arith, before, h.long) in
        least-same _ _ size _ _ (λ d hd. refl) (sym (ap (λ (xs : List ℕ). get_or xs (length old + j) 0) e ∙ get_or_append_left now (c ∷ []) 0 (length old + j) below)) (h.each j before))
    | inr last ↦ (let same : i ≡ j = omega (arith, lt, last) in
        let end : length now ≡ length old + j = omega (arith, h.long, same) in
        least-same _ _ size _ _ (λ d hd. ap (λ (n : ℕ). get_or block (d * stride + n) 0) same) (sym (ap (λ (xs : List ℕ). get_or xs (length old + j) 0) e ∙ get_or_push now c 0 (length old + j) end)) least)
  ];
}

pub appends-run : (block : List ℕ) (size inner : ℕ) (old run new : List ℕ) → length run ≡ inner → ((i : ℕ) → i < inner → IsLeast (λ d. get_or block (d * inner + i) 0) size (get_or run i 0)) → new ≡ old ++ run → AppendsLeasts block size inner inner old new
appends-run block size inner old run new long least e = record {
  long = omega (arith, long, ap length e, length-append old run);
  same = λ k lt. ap (λ (xs : List ℕ). get_or xs k 0) e ∙ get_or_append_left old run 0 k lt;
  each = λ i lt. least-same _ _ size _ _ (λ d hd. refl) (sym (ap (λ (xs : List ℕ). get_or xs (length old + i) 0) e ∙ get_or-append-add old run i 0)) (least i lt);
}

-- what a list holds after its end was written
pub written-back : (old run low post rest now : List ℕ) (start n : ℕ) → now ≡ old ++ run → start ≡ length old → n ≡ length old + length low → take n (take start now ++ (low ++ post) ++ rest) ≡ old ++ low
written-back old run low post rest now start n e es en =
    let front : take start now ≡ old = ap (λ (xs : List ℕ). take start xs) e ∙ take_at old run start (sym es) in
    ap (λ (xs : List ℕ). take n (xs ++ (low ++ post) ++ rest)) front
    ∙ ap (λ (xs : List ℕ). take n (xs ++ rest)) (sym (append_assoc old low post))
    ∙ ap (λ (xs : List ℕ). take n xs) (append_assoc (old ++ low) post rest)
    ∙ take_at (old ++ low) (post ++ rest) n (length-append old low ∙ sym en)

pub tail-long : (old run now : List ℕ) (start k : ℕ) → now ≡ old ++ run → start ≡ length old → k ≡ length now - start → length (take k (drop start now)) ≡ length run
tail-long old run now start k e es ek = omega (arith, es, ek, length-take k (drop start now), length-drop start now, ap length e, length-append old run)

-- no cell that was appended is above a bound of the block's
at-most : (bound : ℕ) (xs : List ℕ) (k : ℕ) → All (λ c. c ≤ bound) xs → get_or xs k 0 ≤ bound
at-most bound xs k all = elim (cases_lt k (length xs)) [
  | inl lt ↦ all k 0 lt
  | inr past ↦ omega (arith, get_or_past xs k 0 past)
]

pub appends-within : (bound : ℕ) (block : List ℕ) (size stride count : ℕ) (old new : List ℕ) → AppendsLeasts block size stride count old new → All (λ c. c ≤ bound) block → All (λ c. c ≤ bound) old → All (λ c. c ≤ bound) new
appends-within bound block size stride count old new h all before = λ k d lt. elim (cases_lt k (length old)) [
  | inl below ↦ omega (arith, get_or_default new k d 0 lt, h.same k below, before k 0 below)
  | inr past ↦ (let i = k - length old in
      let here : k ≡ length old + i = omega (arith, past) in
      let inside : i < count = omega (arith, lt, past, h.long) in
      let cell = (h.each i inside).attained in
      omega (arith, get_or_default new k d 0 lt, ap (λ (n : ℕ). get_or new n 0) here, cell.2, at-most bound block (cell.0 * stride + i) all))
]

-- the leasts of one block more
block-index : (b size inner d i : ℕ) → b * (size * inner) + (d * inner + i) ≡ (b * size + d) * inner + i
block-index b size inner d i = grind arith

pub runs-append : (cells : List ℕ) (b size inner start : ℕ) (kept new block : List ℕ) → AreLeastRuns cells b size inner kept → start ≡ b * (size * inner) → block ≡ take (size * inner) (drop start cells) → AppendsLeasts block size inner inner kept new → AreLeastRuns cells (b + 1) size inner new
runs-append cells b size inner start kept new block runs es eb h =
    let next : (b + 1) * inner ≡ b * inner + inner = grind arith in
    record {
      count = omega (arith, h.long, runs.count, next);
      each = λ c i hc hi. elim (cases_lt c b) [
        | inl lt ↦ (let below : c * inner + i < length kept = omega (arith, mul-add-lt c inner i b lt hi, mul_comm inner b, runs.count) in
            least-same _ _ size _ _ (λ d hd. refl) (sym (h.same (c * inner + i) below)) (runs.each c i lt hi))
        | inr ge ↦ (let same : b ≡ c = omega (arith, hc, ge) in
            let at : length kept + i ≡ c * inner + i = omega (arith, runs.count, ap (λ (n : ℕ). n * inner) same) in
            least-same _ _ size _ _ (λ d hd.
            (let inside : d * inner + i < size * inner = omega (arith, mul-add-lt d inner i size hd hi, mul_comm inner size) in
            ap (λ (xs : List ℕ). get_or xs (d * inner + i) 0) eb ∙ get_or-take (size * inner) (drop start cells) (d * inner + i) 0 inside ∙ get_or-drop start cells (d * inner + i) 0
            ∙ ap (λ (n : ℕ). get_or cells (n + (d * inner + i)) 0) es ∙ ap (λ (n : ℕ). get_or cells n 0) (block-index b size inner d i)
            ∙ ap (λ (n : ℕ). get_or cells ((n * size + d) * inner + i) 0) same))
            (ap (λ (n : ℕ). get_or new n 0) at) (h.each i hi))
      ];
      within = λ bound all. appends-within bound block size inner inner kept new h
          (subst (λ (xs : List ℕ). All (λ c. c ≤ bound) xs) (sym eb) (All-take (λ c. c ≤ bound) (size * inner) (drop start cells) (All-drop (λ c. c ≤ bound) start cells all))) (runs.within bound all);
    }

-- the least of one block of single cells more
pub cells-append : (cells : List ℕ) (b size start : ℕ) (kept new block : List ℕ) (c : ℕ) → AreLeastRuns cells b size 1 kept → start ≡ b * size → block ≡ take size (drop start cells) → length block ≡ size → IsLeast (λ d. get_or block d 0) (length block) c → new ≡ kept ++ (c ∷ []) → AreLeastRuns cells (b + 1) size 1 new
cells-append cells b size start kept new block c runs es eb long least e =
    let one : size ≡ size * 1 = omega arith in
    let sized = subst (λ (n : ℕ). IsLeast (λ d. get_or block d 0) n c) long least in
    let here = least-same _ (λ d. get_or block (d * 1 + 0) 0) size c c (λ d lt. ap (λ (n : ℕ). get_or block n 0) (let same : d ≡ d * 1 + 0 = omega arith in same)) refl sized in
    runs-append cells b size 1 start kept new block runs (es ∙ ap (λ (n : ℕ). b * n) one) (eb ∙ ap (λ (n : ℕ). take n (drop start cells)) one)
    (appends-more block size 1 0 kept kept new c (appends-none block size 1 kept) here e)

-- one run more that lowers a run
pub lower-more : (block run new from : List ℕ) (n inner : ℕ) → length run ≡ inner → n * inner + inner ≤ length block → from ≡ take inner (drop (n * inner) block) → new ≡ leasts run from → ((i : ℕ) → i < inner → IsLeast (λ d. get_or block (d * inner + i) 0) n (get_or run i 0)) → (i : ℕ) → i < inner → IsLeast (λ d. get_or block (d * inner + i) 0) (n + 1) (get_or new i 0)
lower-more block run new from n inner long fits ef en least i lt =
    let here : i < length run = omega (arith, lt, long) in
    let there : i < length from = omega (arith, lt, ap length ef, length-take inner (drop (n * inner) block), length-drop (n * inner) block, fits) in
    let cell : get_or from i 0 ≡ get_or block (n * inner + i) 0 = ap (λ (xs : List ℕ). get_or xs i 0) ef ∙ get_or-take inner (drop (n * inner) block) i 0 lt ∙ get_or-drop (n * inner) block i 0 in
    let low : get_or new i 0 ≡ min (get_or run i 0) (get_or block (n * inner + i) 0) =
    ap (λ (xs : List ℕ). get_or xs i 0) en ∙ get_or-zip2 min run from i 0 0 0 here there ∙ ap (λ (m : ℕ). min (get_or run i 0) m) cell in
    least-more (λ d. get_or block (d * inner + i) 0) n (get_or run i 0) (get_or new i 0) (least i lt) low

-- the leasts of the runs are those of the cells at each value
pub leasts-of-runs : (sizes cells : List ℕ) (k : ℕ) (kept : List ℕ) (blocks size inner : ℕ) → k < length sizes → AreCounts sizes k blocks inner → size ≡ get_or sizes k 0 → AreLeastRuns cells blocks size inner kept → AreLeastsAt sizes cells k kept
leasts-of-runs sizes cells k kept blocks size inner h counts es given =
    let runs : AreLeastRuns cells (product (take k sizes)) (get_or sizes k 0) (product (drop (suc k) sizes)) kept = rw (← counts.before, ← counts.behind, ← es) given in
    record {
      count = runs.count ∙ sym (product-remove sizes k h);
      each = λ others w. (let cut = cut-at sizes k others h w in
          least-same _ _ (get_or sizes k 0) _ _ (λ d hd. sym (ap (λ (n : ℕ). get_or cells n 0) (cut.within d))) (sym (ap (λ (n : ℕ). get_or kept n 0) cut.without)) (runs.each _ _ cut.block cut.inner));
      within = runs.within;
    }

-- the projection of a table by a variable
projected : (scope sizes cells : List ℕ) (var place : ℕ) (kept : List ℕ) → place ≡ place_in scope var → place < length sizes → table_fault scope sizes cells ≡ None → AreLeastsAt sizes cells place kept → IsProjection (record { scope = scope; sizes = sizes; cells = cells }) var (record { scope = remove scope place; sizes = remove sizes place; cells = kept })
projected scope sizes cells var place kept ep lt e at = record {
  same_scope = ap (λ (n : ℕ). remove scope n) ep;
  same_sizes = ap (λ (n : ℕ). remove sizes n) ep;
  whole = slice-parts scope sizes cells place kept lt e at.count at.within;
  cells = λ others w. subst (λ (n : ℕ). IsLeast (λ d. get_or cells (cell_place sizes (insert others n d)) 0) (get_or sizes n 0) (get_or kept (cell_place (remove sizes place) others) 0)) ep
      (at.each others (subst (λ (n : ℕ). AreWithin (remove sizes n) others) (sym ep) w));
}

-- the projection of a table by a variable, of which the parts are these
pub projection-of : (scope sizes cells : List ℕ) (var place : ℕ) (kept vs ss cs : List ℕ) → place ≡ place_in scope var → place < length sizes → table_fault scope sizes cells ≡ None → AreLeastsAt sizes cells place kept
    → vs ≡ remove scope place → ss ≡ remove sizes place → cs ≡ kept
    → IsProjection (record { scope = scope; sizes = sizes; cells = cells }) var (record { scope = vs; sizes = ss; cells = cs })
projection-of scope sizes cells var place kept vs ss cs ep lt e at same_scope same_sizes same_cells = rw (same_scope, same_sizes, same_cells) (projected scope sizes cells var place kept ep lt e at)
