-- Tuples as they are read: the cell that values name, and the cells with the tuples so far.
use Rattle.std.proofs.Common.{◌≡◌, ℕ, zero, suc, ◌+◌, ◌*◌, ◌<◌, ◌≤◌, Bool, true, false, cond, List, [], ◌∷◌, length, get_or, set, take, drop, ◌++◌, min, replicate, Result, Ok, Err, nat_eq, nat_le, refl, sym, ap, ◌∙◌, subst, arith}
use Rattle.std.specs.List.{list_any}
use Rattle.std.proofs.Math.Nat.{mul-le-mul_left}
use Rattle.std.proofs.Math.Seq.{take-append_seam}
use Rattle.std.proofs.lemmas.List.{drop_more, length-set, get_or-set_same, get_or-set_other}
use Rattle.std.proofs.lemmas.List.FromFn.{fill_by_all, get_or-map-range_with_len, length-map-range_with_len}
use Rattle.std.proofs.lemmas.Bool.Decides.{nat_tests}
use Rattle.std.proofs.lemmas.Bool.{eqb-true, eqb-false, or_parts}
use Rattle.dcop_base.specs.Table.{product, cell_place}
use Rattle.wcsp_text.specs.declared.fault.Fault.{Fault}
use Rattle.wcsp_text.specs.Words.{words}
use Rattle.wcsp_text.specs.Numbers.{Place, place, number, read_on, onto}
use Rattle.wcsp_text.specs.Cells.{Tuple, last_cost, written_cells, values_read, tuples_read, cells_read}
use Rattle.wcsp_text.specs.Gives.{cells_with, filled, named}

step_cons : (place s v p c : ℕ) → place * (s * p) + (v * p + c) ≡ (place * s + v) * p + c
step_cons place s v p c = grind arith

named-onto : (cell s v : ℕ) (ss : List ℕ) (o : Result (List ℕ × Place) Fault) → named cell (s ∷ ss) (onto v o) ≡ named (cell * s + v) ss o
named-onto cell s v ss (Err f) = refl
named-onto cell s v ss (Ok r) = ap (λ (n : ℕ). Ok (n, r.1)) (step_cons cell s v (product ss) (cell_place ss r.0))

named-cons : (cell s v : ℕ) (ss text : List ℕ) (q : Place) → number (words text) ≡ Ok (v, q) → nat_le s v ≡ false → named cell (s ∷ ss) (values_read (s ∷ ss) (place text)) ≡ named (cell * s + v) ss (values_read ss q)
named-cons cell s v ss text q e small = rw (e, small) (named-onto cell s v ss (values_read ss q))

-- a further value
pub named-more : (sizes text : List ℕ) (k cell v : ℕ) (q : Place) → k < length sizes → number (words text) ≡ Ok (v, q) → nat_le (get_or sizes k 0) v ≡ false → named cell (drop k sizes) (values_read (drop k sizes) (place text)) ≡ named (cell * get_or sizes k 0 + v) (drop (k + 1) sizes) (values_read (drop (k + 1) sizes) q)
named-more sizes text k cell v q lt e small = rw (drop_more sizes k 0 lt) (named-cons cell (get_or sizes k 0) v (drop (k + 1) sizes) text q e small)

named-cons-err : (cell s : ℕ) (ss text : List ℕ) (f : Fault) → number (words text) ≡ Err f → named cell (s ∷ ss) (values_read (s ∷ ss) (place text)) ≡ Err f
named-cons-err cell s ss text f e = rw e refl

-- no number where a value should be
pub named-err : (sizes text : List ℕ) (k cell : ℕ) (f : Fault) → k < length sizes → number (words text) ≡ Err f → named cell (drop k sizes) (values_read (drop k sizes) (place text)) ≡ Err f
named-err sizes text k cell f lt e = rw (drop_more sizes k 0 lt) (named-cons-err cell (get_or sizes k 0) (drop (k + 1) sizes) text f e)

bound-step : (cell s v p total : ℕ) → (cell + 1) * (s * p) ≤ total → v < s → (cell * s + v + 1) * p ≤ total
bound-step cell s v p total h lt =
    let less : cell * s + v + 1 ≤ (cell + 1) * s = omega arith in
    let wide = mul-le-mul_left p less in
    let e : p * ((cell + 1) * s) ≡ (cell + 1) * (s * p) = grind arith in
    let f : p * (cell * s + v + 1) ≡ (cell * s + v + 1) * p = grind arith in
    omega (arith, h, wide, e, f)

-- the cell stays within the whole
pub bound-more : (sizes : List ℕ) (k cell v total : ℕ) → k < length sizes → (cell + 1) * product (drop k sizes) ≤ total → v < get_or sizes k 0 → (cell * get_or sizes k 0 + v + 1) * product (drop (k + 1) sizes) ≤ total
bound-more sizes k cell v total lt h small =
    let here : (cell + 1) * (get_or sizes k 0 * product (drop (k + 1) sizes)) ≤ total = rw (drop_more sizes k 0 lt) at h in
    bound-step cell (get_or sizes k 0) v (product (drop (k + 1) sizes)) total here small

-- a product of sizes of which none is 0
pub product-some : (sizes : List ℕ) → list_any (λ s. nat_eq s 0) sizes ≡ false → 1 ≤ product sizes
product-some [] h = omega arith
product-some (s ∷ ss) h =
    let parts = or_parts (nat_eq s 0) (list_any (λ s. nat_eq s 0) ss) h in
    let rest = product-some ss parts.1 in
    let one : 1 ≤ s = grind (arith, nat_tests, parts.0) in
    omega (arith, mul-le-mul_left s rest)

any-drop : (sizes : List ℕ) (k : ℕ) → list_any (λ s. nat_eq s 0) sizes ≡ false → list_any (λ s. nat_eq s 0) (drop k sizes) ≡ false
any-drop sizes zero h = h
any-drop [] (suc k) h = refl
any-drop (s ∷ ss) (suc k) h = any-drop ss k (or_parts (nat_eq s 0) (list_any (λ s. nat_eq s 0) ss) h).1

-- a cell with a further value is within the whole
pub bound-sum : (sizes : List ℕ) (k cell v total : ℕ) → k < length sizes → list_any (λ s. nat_eq s 0) sizes ≡ false → (cell + 1) * product (drop k sizes) ≤ total → v < get_or sizes k 0 → cell * get_or sizes k 0 + v + 1 ≤ total
bound-sum sizes k cell v total lt some h small =
    let wide = bound-more sizes k cell v total lt h small in
    let one = product-some (drop (k + 1) sizes) (any-drop sizes (k + 1) some) in
    omega (arith, wide, mul-le-mul_left (cell * get_or sizes k 0 + v + 1) one)

set-at : (cells : List ℕ) (p c k : ℕ) (b : Bool) → nat_eq p k ≡ b → k < length cells → get_or (set cells p c) k 0 ≡ cond b c (get_or cells k 0)
set-at cells p c k true e lt =
    let same : p ≡ k = eqb-true p k e in
    rw same (get_or-set_same cells k c 0 lt)
set-at cells p c k false e lt =
    let ne = eqb-false p k e in
    get_or-set_other cells p k c 0 (λ h. ne (sym h))

with-cell : (sizes cells : List ℕ) (t : Tuple) (ts : List Tuple) (k : ℕ) → k < length cells → last_cost sizes k (get_or (set cells (cell_place sizes t.values) t.cost) k 0) ts ≡ last_cost sizes k (get_or cells k 0) (t ∷ ts)
with-cell sizes cells t ts k lt =
    ap (λ (y : ℕ). last_cost sizes k y ts) (set-at cells (cell_place sizes t.values) t.cost k (nat_eq (cell_place sizes t.values) k) refl lt)

-- a tuple, and those behind it
pub cells_with-cons : (sizes cells : List ℕ) (t : Tuple) (ts : List Tuple) → cells_with sizes (set cells (cell_place sizes t.values) t.cost) ts ≡ cells_with sizes cells (t ∷ ts)
cells_with-cons sizes cells t ts =
    let many = length-set cells (cell_place sizes t.values) t.cost in
    fill_by_all (λ k. last_cost sizes k (get_or cells k 0) (t ∷ ts)) (cells_with sizes (set cells (cell_place sizes t.values) t.cost) ts) (length cells) 0
    (length-map-range_with_len (λ k. last_cost sizes k (get_or (set cells (cell_place sizes t.values) t.cost) k 0) ts) 0 (length (set cells (cell_place sizes t.values) t.cost)) ∙ many)
    (λ k lt. get_or-map-range_with_len (λ k. last_cost sizes k (get_or (set cells (cell_place sizes t.values) t.cost) k 0) ts) 0 (length (set cells (cell_place sizes t.values) t.cost)) k k 0 (subst (λ (n : ℕ). k < n) (sym many) lt) (omega arith) ∙ with-cell sizes cells t ts k lt)

-- no tuples
pub cells_with-nil : (sizes cells : List ℕ) → cells_with sizes cells [] ≡ cells
cells_with-nil sizes cells = sym (fill_by_all (λ k. get_or cells k 0) cells (length cells) 0 refl (λ k lt. refl))

filled-onto : (sizes cells : List ℕ) (t : Tuple) (o : Result (List Tuple × Place) Fault) → filled sizes cells (onto t o) ≡ filled sizes (set cells (cell_place sizes t.values) t.cost) o
filled-onto sizes cells t (Err f) = refl
filled-onto sizes cells t (Ok r) = ap (λ (cs : List ℕ). Ok (cs, r.1)) (sym (cells_with-cons sizes cells t r.0))

filled-read : (sizes cells : List ℕ) (n cell cost : ℕ) (p q r : Place) (o : Result (List ℕ × Place) Fault) → values_read sizes p ≡ o → named 0 sizes o ≡ Ok (cell, q) → number q.words ≡ Ok (cost, r) → filled sizes cells (tuples_read sizes (suc n) p) ≡ filled sizes (set cells cell cost) (tuples_read sizes n r)
filled-read sizes cells n cell cost p q r (Err f) is e c = cc
filled-read sizes cells n cell cost p q r (Ok v) is e c =
    let pair : ◌≡◌ {A = ℕ × Place} (0 * product sizes + cell_place sizes v.0, v.1) (cell, q) = cc in
    let at : cell_place sizes v.0 ≡ cell = let e = ap (λ (p : ℕ × Place). p.0) pair in omega (arith, e) in
    let here : v.1 ≡ q = ap (λ (p : ℕ × Place). p.1) pair in
    rw (is, here, c, ← at) (filled-onto sizes cells (record { values = v.0; cost = cost }) (tuples_read sizes n r))

-- a further tuple
pub filled-more : (sizes cells text : List ℕ) (n m cell cost : ℕ) (q r : Place) → m ≡ suc n → named 0 sizes (values_read sizes (place text)) ≡ Ok (cell, q) → number q.words ≡ Ok (cost, r) → filled sizes cells (tuples_read sizes m (place text)) ≡ filled sizes (set cells cell cost) (tuples_read sizes n r)
filled-more sizes cells text n m cell cost q r e named cost-is = rw e (filled-read sizes cells n cell cost (place text) q r (values_read sizes (place text)) refl named cost-is)

-- all tuples
pub filled-end : (sizes cells : List ℕ) (n : ℕ) (p : Place) → n ≡ 0 → filled sizes cells (tuples_read sizes n p) ≡ Ok (cells, p)
filled-end sizes cells n p e = rw e (ap (λ (cs : List ℕ). Ok (cs, p)) (cells_with-nil sizes cells))

get-same : (n d k : ℕ) → k < n → get_or (replicate n d) k 0 ≡ d
get-same zero d k lt = absurd (omega arith)
get-same (suc n) d zero lt = refl
get-same (suc n) d (suc k) lt = get-same n d k (omega arith)

long : (n d : ℕ) → length (replicate n d) ≡ n
long zero d = refl
long (suc n) d = ap suc (long n d)

-- cells of the default cost, with all tuples
pub written-filled : (sizes : List ℕ) (default : ℕ) (ts : List Tuple) → cells_with sizes (replicate (product sizes) default) ts ≡ written_cells sizes default ts
written-filled sizes default ts =
    let many = long (product sizes) default in
    fill_by_all (λ k. last_cost sizes k default ts) (cells_with sizes (replicate (product sizes) default) ts) (product sizes) 0
    (length-map-range_with_len (λ k. last_cost sizes k (get_or (replicate (product sizes) default) k 0) ts) 0 (length (replicate (product sizes) default)) ∙ many)
    (λ k lt. get_or-map-range_with_len (λ k. last_cost sizes k (get_or (replicate (product sizes) default) k 0) ts) 0 (length (replicate (product sizes) default)) k k 0 (subst (λ (n : ℕ). k < n) (sym many) lt) (omega arith) ∙ ap (λ (d : ℕ). last_cost sizes k d ts) (get-same (product sizes) default k lt))

pub filled-written : (sizes : List ℕ) (default : ℕ) (cells : List ℕ) (o : Result (List Tuple × Place) Fault) → cells ≡ replicate (product sizes) default → filled sizes cells o ≡ read_on o (λ ts s. Ok (written_cells sizes default ts, s))
filled-written sizes default cells (Err f) e = refl
filled-written sizes default cells (Ok r) e = rw e (ap (λ (cs : List ℕ). Ok (cs, r.1)) (written-filled sizes default r.0))

-- a default cost, a number of tuples and the tuples
pub cells-of : (sizes text : List ℕ) (default count long most : ℕ) (p q r : Place) (items now new : List ℕ) → product sizes ≤ 4194304 → most ≡ min (product sizes) 18446744073709551615 → long ≡ most → items ≡ replicate most default → now ≡ items → number (words text) ≡ Ok (default, p) → number p.words ≡ Ok (count, q) → filled sizes now (tuples_read sizes count q) ≡ Ok (new, r) → length new ≡ product sizes → cells_read sizes (place text) ≡ Ok (take long (new ++ drop (length new) items), r)
cells-of sizes text default count long most p q r items now new few most-is long-is items-are same one two rest many =
    let whole : most ≡ product sizes = omega (arith, few, most-is) in
    let start : now ≡ replicate (product sizes) default = same ∙ (items-are ∙ ap (λ (n : ℕ). replicate n default) whole) in
    let end : long ≡ length new = omega (arith, long-is, whole, many) in
    let all : take long (new ++ drop (length new) items) ≡ new = rw end (take-append_seam new (drop (length new) items)) in
    rw (one, two, all) (sym (filled-written sizes default now (tuples_read sizes count q) start) ∙ rest)
