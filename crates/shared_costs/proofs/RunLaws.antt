-- Laws of runs: the value that a cell has of a variable, lows over one run more, and shifts of one run more.
use Rattle.std.proofs.Common.{◌≡◌, ◌≢◌, ℕ, ◌+◌, ◌-◌, ◌*◌, ◌%◌, ◌<◌, ◌≤◌, List, length, get_or, set, take, drop, length-take, length-drop, refl, sym, ap, ◌∙◌, subst, inl, inr, length-set, get_or-set_same, get_or-set_other, arith}
use Rattle.std.specs.List.{All}
use Rattle.std.proofs.Math.Nat.{mul-le-mul_right, mul_assoc}
use Rattle.std.proofs.lemmas.Nat.{div-mul-add, mod-mul-add, mul-add-lt}
use Rattle.std.proofs.lemmas.Bool.{cases_lt}
use Rattle.std.proofs.lemmas.List.{get_or-take, get_or-drop}
use Rattle.std.proofs.lemmas.List.Elements.{All-set}
use Rattle.dcop_base.specs.Limits.{amount_limit}
use Rattle.shared_costs.specs.Runs.{digit, moved, IsLowered, IsShifted, IsShiftedRun}

-- a cell of the run of a value has that value
pub digit-at : (size inner block a i : ℕ) → a < size → i < inner → digit size inner ((block * size + a) * inner + i) ≡ a
digit-at size inner block a i ha hi = ap (λ (n : ℕ). n % size) (div-mul-add (block * size + a) inner i hi) ∙ mod-mul-add block size a ha

pub digit-in : (size inner block a k : ℕ) → a < size → (block * size + a) * inner ≤ k → k < (block * size + a) * inner + inner → digit size inner k ≡ a
digit-in size inner block a k ha from to =
    let start = (block * size + a) * inner in
    let here : start + (k - start) ≡ k = omega arith in
    ap (λ (n : ℕ). digit size inner n) (sym here) ∙ digit-at size inner block a (k - start) ha (omega arith)

-- a run lies within the cells
pub run-room : (block blocks size a inner count : ℕ) → block < blocks → a < size → count ≡ blocks * (size * inner) → (block * size + a) * inner + inner ≤ count
run-room block blocks size a inner count hb ha e =
    let q = block * size + a in
    let below : q + 1 ≤ blocks * size = grind (arith, mul-add-lt block size a blocks hb ha) in
    let room : (q + 1) * inner ≤ blocks * size * inner = mul-le-mul_right inner below in
    let next : (q + 1) * inner ≡ q * inner + inner = grind arith in
    omega (arith, room, next, mul_assoc blocks size inner, e)

-- the runs of a block end where those of the next begin
pub block-next : (block size a inner : ℕ) → a ≡ size → (block * size + a) * inner ≡ (block + 1) * (size * inner)
block-next block size a inner e = ap (λ (n : ℕ). (block * size + n) * inner) e ∙ (let same : (block * size + size) * inner ≡ (block + 1) * (size * inner) = grind arith in same)

pub block-first : (block size inner : ℕ) → block * (size * inner) ≡ (block * size + 0) * inner
block-first block size inner = grind arith

pub run-next : (block size a inner : ℕ) → (block * size + (a + 1)) * inner ≡ (block * size + a) * inner + inner
run-next block size a inner = grind arith

-- amounts that were lowered to no more than the first cells
pub record IsLoweredTo (inner : ℕ) (cells old : List ℕ) (done : ℕ) (new : List ℕ) : Type 0 where
  pub count : length new ≡ length old
  pub less : (a : ℕ) → get_or new a 0 ≤ get_or old a 0
  pub below : (k : ℕ) → k < done → get_or new (digit (length old) inner k) 0 ≤ get_or cells k 0

pub lowered-none : (inner : ℕ) (cells old : List ℕ) (done : ℕ) → done ≡ 0 → IsLoweredTo inner cells old done old
lowered-none inner cells old done e = record { count = refl; less = λ a. omega arith; below = λ k lt. absurd (omega (arith, lt, e)) }

pub lowered-at : (inner : ℕ) (cells old : List ℕ) (done more : ℕ) (new : List ℕ) → done ≡ more → IsLoweredTo inner cells old done new → IsLoweredTo inner cells old more new
lowered-at inner cells old done more new e h = subst (λ (n : ℕ). IsLoweredTo inner cells old n new) e h

set-less : (now : List ℕ) (a x : ℕ) → a < length now → x ≤ get_or now a 0 → (b : ℕ) → get_or (set now a x) b 0 ≤ get_or now b 0
set-less now a x inside low b = elim (cases_lt b a) [
  | inl before ↦ (let ne : b ≢ a = omega arith in omega (arith, get_or-set_other now a b x 0 ne))
  | inr behind ↦ elim (cases_lt a b) [
    | inl after ↦ (let ne : b ≢ a = omega arith in omega (arith, get_or-set_other now a b x 0 ne))
    | inr most ↦ (let same : a ≡ b = omega arith in subst (λ (n : ℕ). get_or (set now a x) n 0 ≤ get_or now n 0) same (omega (arith, low, get_or-set_same now a x 0 inside)))
  ]
]

pub lowered-more : (inner : ℕ) (cells old now : List ℕ) (block a x start more : ℕ) → a < length old → start ≡ (block * length old + a) * inner → more ≡ start + inner → x ≤ get_or now a 0 → ((k : ℕ) → start ≤ k → k < more → x ≤ get_or cells k 0) → IsLoweredTo inner cells old start now → IsLoweredTo inner cells old more (set now a x)
lowered-more inner cells old now block a x start more inside es em low run h =
    let within : a < length now = omega (arith, h.count, inside) in
    let less = set-less now a x within low in
    record {
      count = length-set now a x ∙ h.count;
      less = λ b. omega (arith, less b, h.less b);
      below = λ k lt. elim (cases_lt k start) [
        | inl before ↦ omega (arith, less (digit (length old) inner k), h.below k before)
        | inr here ↦ (let is : digit (length old) inner k ≡ a = digit-in (length old) inner block a k inside (omega (arith, es, here)) (omega (arith, es, em, lt)) in
            omega (arith, ap (λ (n : ℕ). get_or (set now a x) n 0) is, get_or-set_same now a x 0 within, run k here lt))
      ];
    }

pub lowered-all : (inner : ℕ) (cells old : List ℕ) (done : ℕ) (new : List ℕ) → done ≡ length cells → IsLoweredTo inner cells old done new → IsLowered inner cells old new
lowered-all inner cells old done new e h = record { count = h.count; less = h.less; below = λ k lt. h.below k (omega (arith, e, lt)) }

-- a run of no cells, and one cell more
pub run-none : (start low gain : ℕ) (old : List ℕ) → All (λ c. c ≤ amount_limit) old → IsShiftedRun start start low gain old old
run-none start low gain old small = record {
  count = refl;
  small = small;
  cells = λ k from to. absurd (omega (arith, from, to));
  before = λ k lt. refl;
  behind = λ k from. refl;
}

pub run-more : (start k low gain : ℕ) (old now : List ℕ) (x : ℕ) → start ≤ k → k < length old → x ≡ moved (get_or now k 0) low gain → IsShiftedRun start k low gain old now → IsShiftedRun start (k + 1) low gain old (set now k x)
run-more start k low gain old now x from inside e h =
    let within : k < length now = omega (arith, h.count, inside) in
    let same = get_or-set_same now k x 0 within in
    let other : (j : ℕ) → j ≢ k → get_or (set now k x) j 0 ≡ get_or now j 0 = λ j ne. get_or-set_other now k j x 0 ne in
    record {
      count = length-set now k x ∙ h.count;
      small = All-set (λ c. c ≤ amount_limit) now k x (omega (arith, e)) h.small;
      cells = λ j lo hi. elim (cases_lt j k) [
        | inl less ↦ other j (let ne : j ≢ k = omega arith in ne) ∙ h.cells j lo less
        | inr more ↦ (let is : k ≡ j = omega (arith, more, hi) in
            subst (λ (n : ℕ). get_or (set now k x) n 0 ≡ moved (get_or old n 0) low gain) is
            (same ∙ e ∙ ap (λ (n : ℕ). moved n low gain) (h.behind k (omega arith))))
      ];
      before = λ j lt. other j (let ne : j ≢ k = omega (arith, lt, from) in ne) ∙ h.before j lt;
      behind = λ j le. other j (let ne : j ≢ k = omega (arith, le) in ne) ∙ h.behind j (omega (arith, le));
    }

-- cells of which the first were shifted
pub record IsShiftedTo (inner : ℕ) (lows gains : List ℕ) (done : ℕ) (old new : List ℕ) : Type 0 where
  pub count : length new ≡ length old
  pub small : All (λ c. c ≤ amount_limit) new
  pub cells : (k : ℕ) → k < done → get_or new k 0 ≡ moved (get_or old k 0) (get_or lows (digit (length lows) inner k) 0) (get_or gains (digit (length lows) inner k) 0)
  pub rest : (k : ℕ) → done ≤ k → get_or new k 0 ≡ get_or old k 0

pub shifted-none : (inner : ℕ) (lows gains : List ℕ) (done : ℕ) (old : List ℕ) → done ≡ 0 → All (λ c. c ≤ amount_limit) old → IsShiftedTo inner lows gains done old old
shifted-none inner lows gains done old e small = record { count = refl; small = small; cells = λ k lt. absurd (omega (arith, lt, e)); rest = λ k le. refl }

pub shifted-at : (inner : ℕ) (lows gains : List ℕ) (done more : ℕ) (old new : List ℕ) → done ≡ more → IsShiftedTo inner lows gains done old new → IsShiftedTo inner lows gains more old new
shifted-at inner lows gains done more old new e h = subst (λ (n : ℕ). IsShiftedTo inner lows gains n old new) e h

pub shifted-more : (inner : ℕ) (lows gains : List ℕ) (block a start more : ℕ) (old now new : List ℕ) → a < length lows → start ≡ (block * length lows + a) * inner → more ≡ start + inner → IsShiftedTo inner lows gains start old now → IsShiftedRun start more (get_or lows a 0) (get_or gains a 0) now new → IsShiftedTo inner lows gains more old new
shifted-more inner lows gains block a start more old now new inside es em h run = record {
  count = run.count ∙ h.count;
  small = run.small;
  cells = λ k lt. elim (cases_lt k start) [
    | inl before ↦ run.before k before ∙ h.cells k before
    | inr here ↦ (let is : digit (length lows) inner k ≡ a = digit-in (length lows) inner block a k inside (omega (arith, es, here)) (omega (arith, es, em, lt)) in
        run.cells k here lt ∙ ap (λ (n : ℕ). moved n (get_or lows a 0) (get_or gains a 0)) (h.rest k here)
        ∙ ap (λ (n : ℕ). moved (get_or old k 0) (get_or lows n 0) (get_or gains n 0)) (sym is))
  ];
  rest = λ k le. run.behind k le ∙ h.rest k (omega (arith, le, em));
}

pub shifted-all : (inner : ℕ) (lows gains : List ℕ) (done : ℕ) (old new : List ℕ) → done ≡ length old → IsShiftedTo inner lows gains done old new → IsShifted inner lows gains old new
shifted-all inner lows gains done old new e h = record { count = h.count; small = h.small; cells = λ k lt. h.cells k (omega (arith, e, lt)) }

-- what is below each cell of a run, and the low of a run
pub run-below : (x start n : ℕ) (cells : List ℕ) (k : ℕ) → All (λ c. x ≤ c) (take (start + n - start) (drop start cells)) → start + n ≤ length cells → start ≤ k → k < start + n → x ≤ get_or cells k 0
run-below x start n cells k all room from to =
    let many = start + n - start in
    let j = k - start in
    let here : start + j ≡ k = omega arith in
    let small : j < many = omega arith in
    let inside : j < length (take many (drop start cells)) = omega (arith, length-take many (drop start cells), length-drop start cells) in
    omega (arith, all j 0 inside, get_or-take many (drop start cells) j 0 small, get_or-drop start cells j 0, ap (λ (i : ℕ). get_or cells i 0) here)

pub run-low : (inner : ℕ) (lows gains old now : List ℕ) (block a start k : ℕ) → a < length lows → start ≡ (block * length lows + a) * inner → start + inner ≤ length old → ((k : ℕ) → k < length old → get_or lows (digit (length lows) inner k) 0 ≤ get_or old k 0) → IsShiftedTo inner lows gains start old now → start ≤ k → k < start + inner → get_or lows a 0 ≤ get_or now k 0
run-low inner lows gains old now block a start k inside es room low h from to =
    let is : digit (length lows) inner k ≡ a = digit-in (length lows) inner block a k inside (omega (arith, es, from)) (omega (arith, es, to)) in
    omega (arith, low k (omega arith), h.rest k from, ap (λ (n : ℕ). get_or lows n 0) is)

pub one-run : (k low gain x : ℕ) (old : List ℕ) → All (λ c. c ≤ amount_limit) old → k < length old → x ≡ moved (get_or old k 0) low gain → IsShiftedRun k (k + 1) low gain old (set old k x)
one-run k low gain x old small inside e = run-more k k low gain old old x (omega arith) inside e (run-none k low gain old small)
