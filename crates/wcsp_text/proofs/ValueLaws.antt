-- The problem that is made of a network has its values.
use Rattle.std.proofs.Common.{◌≡◌, ℕ, zero, suc, ◌+◌, ◌<◌, ◌≤◌, Bool, true, false, ◌||◌, cond, List, [], ◌∷◌, length, get_or, map, max, min, nat_le, nat_lt, refl, sym, ap, ◌∙◌, subst, arith}
use Rattle.std.specs.List.{list_any, All, sum_by, filter, fold}
use Rattle.std.proofs.lemmas.List.{length-map}
use Rattle.std.proofs.lemmas.List.Sums.{sum_by-cons}
use Rattle.std.proofs.lemmas.List.Elements.{All-head, All-tail}
use Rattle.std.proofs.lemmas.Bool.Decides.{nat_tests}
use Rattle.std.proofs.lemmas.Bool.{or_parts, false≢true}
use Rattle.dcop_base.specs.Table.{CostTable, cell_at, cell_place, values_at, AreWithin}
use Rattle.dcop_base.specs.Problem.{Dcop, cost}
use Rattle.dcop_base.specs.Whole.{IsProblem, IsTableOf}
use Rattle.dcop_base.proofs.ProblemLaws.{place-of-cell}
use Rattle.wcsp_text.specs.Functions.{Function}
use Rattle.wcsp_text.specs.Networks.{Network}
use Rattle.wcsp_text.specs.Problems.{greatest_below, soft_sum, hard, bar, raised, raised_table, tables}
use Rattle.wcsp_text.specs.Values.{is_forbidden, plain_sum, IsValued, HasLeastValue}

at-map : (f : ℕ → ℕ) (xs : List ℕ) (k : ℕ) → k < length xs → get_or (map f xs) k 0 ≡ f (get_or xs k 0)
at-map f [] k lt = absurd (omega arith)
at-map f (x ∷ xs) zero lt = refl
at-map f (x ∷ xs) (suc k) lt = at-map f xs k (omega arith)

-- a cell of a raised table is the raised cell
cell-raised : (top most : ℕ) (sizes values : List ℕ) (t : CostTable) → IsTableOf sizes (raised_table top most t) → AreWithin sizes values → cell_at (raised_table top most t) values ≡ raised top most (cell_at t values)
cell-raised top most sizes values t whole within =
    let here = place-of-cell sizes values (raised_table top most t) whole within in
    let many = length-map t.cells (λ c. raised top most c) in
    at-map (λ c. raised top most c) t.cells (cell_place t.sizes (values_at t.scope values)) (subst (λ (n : ℕ). cell_place t.sizes (values_at t.scope values) < n) many here)

raised-kept : (top most c : ℕ) → nat_le top c ≡ false → raised top most c ≡ c
raised-kept top most c h = rw h refl

raised-hard : (top most c : ℕ) → nat_le top c ≡ true → raised top most c ≡ most
raised-hard top most c h = rw h refl

-- the raised tables of functions
abbrev raised_all : ℕ → ℕ → List Function → List CostTable
raised_all top most fs = map (λ f. raised_table top most f.table) fs

-- whether one of functions forbids values
abbrev forbids : ℕ → List ℕ → List Function → Bool
forbids top values fs = list_any (λ f. nat_le top (cell_at f.table values)) fs

-- where nothing is forbidden the cost is the plain sum
sum-kept : (top most : ℕ) (sizes values : List ℕ) (fs : List Function) → AreWithin sizes values → All (IsTableOf sizes) (raised_all top most fs) → forbids top values fs ≡ false → sum_by (λ t. cell_at t values) (raised_all top most fs) ≡ sum_by (λ f. cell_at f.table values) fs
sum-kept top most sizes values [] within all none = refl
sum-kept top most sizes values (f ∷ fs) within all none =
    let parts = or_parts (nat_le top (cell_at f.table values)) (forbids top values fs) none in
    let here = cell-raised top most sizes values f.table (All-head (IsTableOf sizes) (raised_table top most f.table) (raised_all top most fs) all) within ∙ raised-kept top most (cell_at f.table values) parts.0 in
    let rest = sum-kept top most sizes values fs within (All-tail (IsTableOf sizes) (raised_table top most f.table) (raised_all top most fs) all) parts.1 in
    let left = sum_by-cons (λ t. cell_at t values) (raised_table top most f.table) (raised_all top most fs) in
    let right = sum_by-cons (λ (f : Function). cell_at f.table values) f fs in
    omega (arith, here, rest, left, right)

hard-step : (b : Bool) (top most c r sum : ℕ) → nat_le top c ≡ b → (b ≡ true → r ≡ most) → (b || (nat_le most sum) ≡ true) → most ≤ r + sum
hard-step true top most c r sum e is h = let s = is refl in omega (arith, s)
hard-step false top most c r sum e is h = let l : most ≤ sum = grind (arith, nat_tests, h) in omega (arith, l)

or-true : (a b c : Bool) → (a || b) ≡ true → (b ≡ true → c ≡ true) → (a || c) ≡ true
or-true true b c h f = refl
or-true false b c h f = f h

-- where something is forbidden the cost is at least hard
sum-hard : (top most : ℕ) (sizes values : List ℕ) (fs : List Function) → AreWithin sizes values → All (IsTableOf sizes) (raised_all top most fs) → forbids top values fs ≡ true → most ≤ sum_by (λ t. cell_at t values) (raised_all top most fs)
sum-hard top most sizes values [] within all some = absurd (false≢true some)
sum-hard top most sizes values (f ∷ fs) within all some =
    let rest = sum-hard top most sizes values fs within (All-tail (IsTableOf sizes) (raised_table top most f.table) (raised_all top most fs) all) in
    let cell = cell-raised top most sizes values f.table (All-head (IsTableOf sizes) (raised_table top most f.table) (raised_all top most fs) all) within in
    let left = sum_by-cons (λ t. cell_at t values) (raised_table top most f.table) (raised_all top most fs) in
    let sum = sum_by (λ t. cell_at t values) (raised_all top most fs) in
    let either = or-true (nat_le top (cell_at f.table values)) (forbids top values fs) (nat_le most sum) some (λ h. let l = rest h in grind (arith, nat_tests, l)) in
    let step = hard-step (nat_le top (cell_at f.table values)) top most (cell_at f.table values) (cell_at (raised_table top most f.table) values) sum refl (λ h. cell ∙ raised-hard top most (cell_at f.table values) h) either in
    omega (arith, left, step)

start-fold : (a : ℕ) (xs : List ℕ) → a ≤ fold max a xs
start-fold a [] = omega arith
start-fold a (x ∷ xs) = let rest = start-fold (max a x) xs in omega arith

soft-head : (b : Bool) (top a c : ℕ) (rest : List ℕ) → nat_lt c top ≡ b → nat_le top c ≡ false → c ≤ fold max a (cond b (c ∷ rest) rest)
soft-head true top a c rest e h = let s = start-fold (max a c) rest in omega (arith, s)
soft-head false top a c rest e h = absurd (grind (arith, nat_tests, e, h))

soft-tail : (b : Bool) (a c n : ℕ) (rest : List ℕ) → ((a : ℕ) → n ≤ fold max a rest) → n ≤ fold max a (cond b (c ∷ rest) rest)
soft-tail true a c n rest h = h (max a c)
soft-tail false a c n rest h = h a

-- a cell below top is no more than the greatest of those
soft-le : (top a : ℕ) (cells : List ℕ) (k : ℕ) → nat_le top (get_or cells k 0) ≡ false → get_or cells k 0 ≤ fold max a (filter (λ c. nat_lt c top) cells)
soft-le top a [] k h = omega arith
soft-le top a (c ∷ cs) zero h = soft-head (nat_lt c top) top a c (filter (λ c. nat_lt c top) cs) refl h
soft-le top a (c ∷ cs) (suc k) h = soft-tail (nat_lt c top) a c (get_or cs k 0) (filter (λ c. nat_lt c top) cs) (λ a. soft-le top a cs k h)

-- where nothing is forbidden the plain sum is below hard
sum-soft : (top : ℕ) (values : List ℕ) (fs : List Function) → forbids top values fs ≡ false → sum_by (λ f. cell_at f.table values) fs ≤ soft_sum top fs
sum-soft top values [] none = omega arith
sum-soft top values (f ∷ fs) none =
    let parts = or_parts (nat_le top (cell_at f.table values)) (forbids top values fs) none in
    let here = soft-le top 0 f.table.cells (cell_place f.table.sizes (values_at f.table.scope values)) parts.0 in
    let rest = sum-soft top values fs parts.1 in
    let left = sum_by-cons (λ (f : Function). cell_at f.table values) f fs in
    let right = sum_by-cons (λ (f : Function). greatest_below top f.table.cells) f fs in
    omega (arith, here, rest, left, right)

value-sum : (b : Bool) (top most sum price : ℕ) → nat_le top sum ≡ b → price ≡ sum → sum < most → cond b top sum ≡ cond (nat_lt price (min most top)) price top
value-sum true top most sum price e same below =
    let over : nat_lt price (min most top) ≡ false = grind (arith, nat_tests, e, same) in
    rw over refl
value-sum false top most sum price e same below =
    let under : nat_lt price (min most top) ≡ true = grind (arith, nat_tests, e, same, below) in
    rw under (sym same)

value-step : (b : Bool) (top most sum price : ℕ) → (b ≡ true → most ≤ price) → (b ≡ false → (price ≡ sum) × (sum < most)) → cond (b || nat_le top sum) top sum ≡ cond (nat_lt price (min most top)) price top
value-step true top most sum price f g =
    let h = f refl in
    let over : nat_lt price (min most top) ≡ false = grind (arith, nat_tests, h) in
    rw over refl
value-step false top most sum price f g =
    let h = g refl in
    value-sum (nat_le top sum) top most sum price refl h.0 h.1

-- the values of a network are told by the costs of its problem
pub valued : (w : Network) (p : Dcop) (bar-is : ℕ) → IsProblem p → p.tables ≡ tables w → bar-is ≡ bar w → IsValued w p bar-is
valued w p bar-is whole same e values within =
    let all : All (IsTableOf p.sizes) (tables w) = subst (λ (ts : List CostTable). All (IsTableOf p.sizes) ts) same whole.tables in
    let total : cost p values ≡ sum_by (λ t. cell_at t values) (tables w) = ap (λ (ts : List CostTable). sum_by (λ t. cell_at t values) ts) same in
    rw (e, total) (value-step (is_forbidden w values) w.top (hard w) (plain_sum w values) (sum_by (λ t. cell_at t values) (tables w))
    (λ h. sum-hard w.top (hard w) p.sizes values w.functions within all h)
    (λ h. let soft = sum-soft w.top values w.functions h in (sum-kept w.top (hard w) p.sizes values w.functions within all h, omega (arith, soft))))

least-step : (a b : Bool) (c d most top : ℕ) → nat_lt c most ≡ a → nat_lt d most ≡ b → c ≤ d → most ≤ top → cond a c top ≤ cond b d top
least-step true true c d most top e f h m = h
least-step true false c d most top e f h m = grind (arith, nat_tests, e)
least-step false true c d most top e f h m = absurd (grind (arith, nat_tests, e, f, h))
least-step false false c d most top e f h m = omega arith

-- an optimum of the problem has the least value
pub least : (w : Network) (p : Dcop) (bar-is : ℕ) → bar-is ≡ bar w → IsValued w p bar-is → HasLeastValue w p
least w p bar-is e value best values best-within cheapest within =
    let low : bar-is ≤ w.top = omega (arith, e) in
    rw (value best best-within, value values within) (least-step (nat_lt (cost p best) bar-is) (nat_lt (cost p values) bar-is) (cost p best) (cost p values) bar-is w.top refl refl (cheapest values within) low)
