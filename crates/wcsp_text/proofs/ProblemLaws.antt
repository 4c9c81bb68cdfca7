-- Cells that are cut to the greatest amount: a problem has the same fault, and no cell is cut where it has none.
use Rattle.std.proofs.Common.{◌≡◌, ℕ, ◌+◌, ◌≤◌, Bool, true, false, not, ◌||◌, cond, List, [], ◌∷◌, ◌++◌, length, get_or, map, min, Option, Some, None, nat_eq, nat_lt, nat_le, refl, sym, ap, ap₂, ◌∙◌, arith, position, length-append}
use Rattle.std.specs.List.{All, list_any, position_or_len}
use Rattle.std.specs.Cmp.Lexicographic.{pointwise}
use Rattle.std.proofs.lemmas.List.{length-map}
use Rattle.std.proofs.lemmas.List.Sums.{sum_by_push}
use Rattle.std.proofs.lemmas.List.Elements.{All-head, All-tail}
use Rattle.std.proofs.lemmas.Bool.Decides.{nat_tests}
use Rattle.dcop_base.specs.Table.{CostTable, greatest, has_repeat}
use Rattle.dcop_base.specs.Faults.{cell_count, greatest_sum, cells_fault, next_fault, first_fault, tables_fault, sizes_fault, problem_fault, is_bad_size}
use Rattle.dcop_base.specs.declared.problem.ProblemFault.{ProblemFault}
use Rattle.dcop_base.specs.declared.problem.ProblemFault.TheVariants.{ScopeLength, ScopeRange, ScopeRepeat, CellCount, CostTooLarge, NoVariables, TooManyVariables}
use Rattle.dcop_base.proofs.FaultLaws.{position-none}

-- a cell, cut to the greatest amount
abbrev pub cut : ℕ → ℕ
cut c = min c 4611686018427387904

-- a table with such cells
abbrev pub cut_table : CostTable → CostTable
cut_table t = record { scope = t.scope; sizes = t.sizes; cells = map cut t.cells }

-- whether a cell is above the greatest cost
abbrev dear : ℕ → Bool
dear c = nat_lt 1125899906842624 c

dear-cut : (c : ℕ) → dear (cut c) ≡ dear c
dear-cut c = dear-step (dear c) c refl
  where
    dear-step : (b : Bool) (c : ℕ) → dear c ≡ b → dear (cut c) ≡ b
    dear-step true c e = grind (arith, nat_tests, e)
    dear-step false c e = grind (arith, nat_tests, e)

places-cut : (cells : List ℕ) → position_or_len dear (map cut cells) ≡ position_or_len dear cells
places-cut [] = refl
places-cut (c ∷ cs) = ap₂ (λ (b : Bool) (n : ℕ). cond (not b) (1 + n) 0) (dear-cut c) (places-cut cs)

position-cut : (cells : List ℕ) → position dear (map cut cells) ≡ position dear cells
position-cut cells = ap₂ (λ (n m : ℕ). cond (nat_lt n m) (Some n) None) (places-cut cells) (length-map cells cut)

cut-cheap : (c : ℕ) → dear c ≡ false → cut c ≡ c
cut-cheap c h = let l : c ≤ 1125899906842624 = grind (arith, nat_tests, h) in omega (arith, l)

map-cheap : (cells : List ℕ) → All (λ c. dear c ≡ false) cells → map cut cells ≡ cells
map-cheap [] all = refl
map-cheap (c ∷ cs) all = ap₂ (λ (x : ℕ) (xs : List ℕ). x ∷ xs) (cut-cheap c (All-head (λ c. dear c ≡ false) c cs all)) (map-cheap cs (All-tail (λ c. dear c ≡ false) c cs all))

-- cells of which none is too dear stay
pub cells-kept : (cells : List ℕ) → position dear cells ≡ None → map cut cells ≡ cells
cells-kept cells e = map-cheap cells (position-none dear cells e)

-- earlier tables beside others that have as many cells and the same greatest ones
record AreLike (one two : List CostTable) : Type 0 where
  many : length one ≡ length two
  cells : cell_count one ≡ cell_count two
  sums : greatest_sum one ≡ greatest_sum two

cells-step : (one two : List CostTable) (cells : List ℕ) (o : Option ℕ) → AreLike one two → position dear cells ≡ o → cells_fault one (map cut cells) o ≡ cells_fault two cells o
cells-step one two cells (Some k) like e = ap (λ (n : ℕ). Some (CostTooLarge n k)) like.many
cells-step one two cells None like e = rw (cells-kept cells e, like.many, like.cells, like.sums) refl

next-cut : (sizes : List ℕ) (one two : List CostTable) (t : CostTable) → AreLike one two → next_fault sizes one (cut_table t) ≡ next_fault sizes two t
next-cut sizes one two t like =
    rw (like.many, position-cut t.cells, cells-step one two t.cells (position dear t.cells) like refl) refl

cells-of-none : (sizes : List ℕ) (two : List CostTable) (t : CostTable) → next_fault sizes two t ≡ None → position dear t.cells ≡ None
cells-of-none sizes two t e =
    five (nat_eq (length t.scope) 0 || nat_lt 4 (length t.scope)) (list_any (λ v. nat_le (length sizes) v) t.scope) (has_repeat t.scope) (not (pointwise nat_eq t.sizes (map (λ v. get_or sizes v 0) t.scope))) (ScopeLength (length two)) (ScopeRange (length two)) (ScopeRepeat (length two)) (CellCount (length two)) two t.cells (position dear t.cells) e
  where
    five : (a b c d : Bool) (w x y z : ProblemFault) (two : List CostTable) (cells : List ℕ) (o : Option ℕ) → cond a (Some w) (cond b (Some x) (cond c (Some y) (cond d (Some z) (cells_fault two cells o)))) ≡ None → o ≡ None
    five true b c d w x y z two cells o e = cc
    five false true c d w x y z two cells o e = cc
    five false false true d w x y z two cells o e = cc
    five false false false true w x y z two cells o e = cc
    five false false false false w x y z two cells None e = refl
    five false false false false w x y z two cells (Some k) e = cc

like-push : (one two : List CostTable) (t : CostTable) → AreLike one two → map cut t.cells ≡ t.cells → AreLike (one ++ (cut_table t ∷ [])) (two ++ (t ∷ []))
like-push one two t like e =
    let same : cut_table t ≡ t = ap (λ (cells : List ℕ). record { scope = t.scope; sizes = t.sizes; cells = cells }) e in
    rw same (record {
      many = length-append one (t ∷ []) ∙ ap (λ (n : ℕ). n + 1) like.many ∙ sym (length-append two (t ∷ []));
      cells = sum_by_push (λ (t : CostTable). length t.cells) one t ∙ ap (λ (n : ℕ). n + length t.cells) like.cells ∙ sym (sum_by_push (λ (t : CostTable). length t.cells) two t);
      sums = sum_by_push (λ (t : CostTable). greatest t.cells) one t ∙ ap (λ (n : ℕ). n + greatest t.cells) like.sums ∙ sym (sum_by_push (λ (t : CostTable). greatest t.cells) two t);
    })

tables-step : (sizes : List ℕ) (one two : List CostTable) (t : CostTable) (o : Option ProblemFault) (left right : Option ProblemFault) → AreLike one two → next_fault sizes two t ≡ o → (map cut t.cells ≡ t.cells → left ≡ right) → first_fault o left ≡ first_fault o right
tables-step sizes one two t (Some f) left right like e h = refl
tables-step sizes one two t None left right like e h = h (cells-kept t.cells (cells-of-none sizes two t e))

tables-cut : (sizes : List ℕ) (one two ts : List CostTable) → AreLike one two → tables_fault sizes one (map cut_table ts) ≡ tables_fault sizes two ts
tables-cut sizes one two [] like = refl
tables-cut sizes one two (t ∷ ts) like =
    rw (next-cut sizes one two t like) (tables-step sizes one two t (next_fault sizes two t) (tables_fault sizes (one ++ (cut_table t ∷ [])) (map cut_table ts)) (tables_fault sizes (two ++ (t ∷ [])) ts) like refl
    (λ same. tables-cut sizes (one ++ (cut_table t ∷ [])) (two ++ (t ∷ [])) ts (like-push one two t like same)))

-- a problem of such tables has the same fault
pub problem-cut : (sizes : List ℕ) (ts : List CostTable) → problem_fault sizes (map cut_table ts) ≡ problem_fault sizes ts
problem-cut sizes ts = rw (tables-cut sizes [] [] ts (record { many = refl; cells = refl; sums = refl })) refl

first-none : (a b : Option ProblemFault) → first_fault a b ≡ None → (a ≡ None) × (b ≡ None)
first-none (Some fault) b e = cc
first-none None b e = (refl, e)

-- tables of a problem stay
tables-kept : (sizes : List ℕ) (earlier ts : List CostTable) → tables_fault sizes earlier ts ≡ None → map cut_table ts ≡ ts
tables-kept sizes earlier [] e = refl
tables-kept sizes earlier (t ∷ ts) e =
    let both = first-none (next_fault sizes earlier t) (tables_fault sizes (earlier ++ (t ∷ [])) ts) e in
    let cells = cells-kept t.cells (cells-of-none sizes earlier t both.0) in
    let here : cut_table t ≡ t = ap (λ (cells : List ℕ). record { scope = t.scope; sizes = t.sizes; cells = cells }) cells in
    ap₂ (λ (x : CostTable) (xs : List CostTable). x ∷ xs) here (tables-kept sizes (earlier ++ (t ∷ [])) ts both.1)

two-none : (a b : Bool) (x y : ProblemFault) (o : Option ProblemFault) → cond a (Some x) (cond b (Some y) o) ≡ None → o ≡ None
two-none true b x y o e = cc
two-none false true x y o e = cc
two-none false false x y o e = e

pub problem-kept : (sizes : List ℕ) (ts : List CostTable) → problem_fault sizes ts ≡ None → map cut_table ts ≡ ts
problem-kept sizes ts e =
    let later = two-none (nat_eq (length sizes) 0) (nat_lt 1000 (length sizes)) NoVariables TooManyVariables (first_fault (sizes_fault (position is_bad_size sizes)) (tables_fault sizes [] ts)) e in
    tables-kept sizes [] ts (first-none (sizes_fault (position is_bad_size sizes)) (tables_fault sizes [] ts) later).1
