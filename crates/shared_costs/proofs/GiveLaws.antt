-- Laws of sharing: lows of distinct tables are within what all tables cost, and a table that gives its low and gets a part.
use Rattle.std.proofs.Common.{◌≡◌, ◌≢◌, ℕ, zero, suc, ◌+◌, ◌-◌, ◌*◌, ◌<◌, ◌≤◌, true, List, [], length, get_or, set, take, drop, map, replicate, min, refl, sym, ap, ◌∙◌, subst, inl, inr, length-set, get_or-set_same, get_or-set_other, arith}
use Rattle.std.specs.List.{All, sum_by}
use Rattle.std.proofs.lemmas.List.{drop-drop, get_or-take, get_or-drop, set-get_or, map-set, get_or-map, get_or_default, length-replicate, get_or-replicate}
use Rattle.std.proofs.lemmas.List.Sums.{sum_by-cons, sum_by-set, sum_by-take-drop, sum_by-drop_more}
use Rattle.std.proofs.lemmas.List.Elements.{All-set}
use Rattle.std.proofs.lemmas.Bool.{cases_lt, cases_eq}
use Rattle.dcop_base.specs.Limits.{amount_limit}
use Rattle.dcop_base.specs.Table.{CostTable, has}
use Rattle.dcop_base.specs.Values.{cell_with, cost_with}
use Rattle.shared_costs.specs.Values.{AreValues}
use Rattle.shared_costs.specs.Tables.{IsTableOver, AreTablesOver}
use Rattle.shared_costs.specs.Sharing.{IsShare, no_amounts, amounts_at}
use Rattle.shared_costs.specs.Runs.{moved}
use Rattle.shared_costs.specs.Moves.{AreLows, IsMoved}
use Rattle.shared_costs.specs.Rows.{table_at, AreNaming, row_of, rows_sum, AreLowRows, ArePotOf, IsParting}
use Rattle.shared_costs.proofs.MoveLaws.{low-with, moved-with}
use Rattle.shared_costs.proofs.LeastLaws.{HasMoved, moved-none, moved-same, moving-share}

-- fewer tables cost no more
drop-less : (f : CostTable → ℕ) (ts : List CostTable) (a b : ℕ) → a ≤ b → sum_by f (drop b ts) ≤ sum_by f (drop a ts)
drop-less f ts a b le =
    let here : a + (b - a) ≡ b = omega arith in
    let same = drop-drop (b - a) a ts ∙ ap (λ (n : ℕ). drop n ts) here in
    omega (arith, sum_by-take-drop f (drop a ts) (b - a), ap (λ (xs : List CostTable). sum_by f xs) same)

-- lows of tables at ascending places, from one of them on, are within what the tables from that place on cost
pub record AreWithinTables (f : CostTable → ℕ) (ts : List CostTable) (places rows : List ℕ) (size a j : ℕ) : Type 0 where
  pub inside : (i : ℕ) → i < length places → get_or places i 0 < length ts
  pub ascend : (i : ℕ) → suc i < length places → get_or places i 0 < get_or places (suc i) 0
  pub low : (i : ℕ) → j ≤ i → i < length places → get_or rows (i * size + a) 0 ≤ f (table_at ts (get_or places i 0))

lows-rest : (f : CostTable → ℕ) (ts : List CostTable) (places rows : List ℕ) (size a first : ℕ) → AreWithinTables f ts places rows size a first → (r j : ℕ) → first ≤ j → j + suc r ≡ length places → rows_sum rows size a (length places) ≤ rows_sum rows size a j + sum_by f (drop (get_or places j 0) ts)
lows-rest f ts places rows size a first h zero j le e =
    let p = get_or places j 0 in
    let end : length places ≡ suc j = omega (arith, e) in
    omega (arith, ap (λ (n : ℕ). rows_sum rows size a n) end, h.low j le (omega arith), sum_by-drop_more f ts p (record { scope = []; sizes = []; cells = [] }) (h.inside j (omega arith)))
lows-rest f ts places rows size a first h (suc r) j le e =
    let p = get_or places j 0 in
    let rest = lows-rest f ts places rows size a first h r (suc j) (omega arith) (omega (arith, e)) in
    let fewer = drop-less f ts (p + 1) (get_or places (suc j) 0) (let up = h.ascend j (omega (arith, e)) in omega arith) in
    omega (arith, rest, fewer, h.low j le (omega (arith, e)), sum_by-drop_more f ts p (record { scope = []; sizes = []; cells = [] }) (h.inside j (omega (arith, e))))

pub lows-behind : (f : CostTable → ℕ) (ts : List CostTable) (places rows : List ℕ) (size a j : ℕ) → AreWithinTables f ts places rows size a j → j < length places → rows_sum rows size a (length places) ≤ rows_sum rows size a (suc j) + sum_by f (drop (get_or places j 0 + 1) ts)
lows-behind f ts places rows size a j h lt = elim (cases_lt (suc j) (length places)) [
  | inl more ↦ (
      let rest = lows-rest f ts places rows size a j h (length places - suc (suc j)) (suc j) (omega arith) (omega arith) in
      let fewer = drop-less f ts (get_or places j 0 + 1) (get_or places (suc j) 0) (let up = h.ascend j more in omega arith) in
      omega (arith, rest, fewer))
  | inr last ↦ (let end : length places ≡ suc j = omega arith in omega (arith, ap (λ (n : ℕ). rows_sum rows size a n) end))
]

pub lows-all : (f : CostTable → ℕ) (ts : List CostTable) (places rows : List ℕ) (size a : ℕ) → AreWithinTables f ts places rows size a 0 → rows_sum rows size a (length places) ≤ sum_by f ts
lows-all f ts places rows size a h = elim (cases_lt 0 (length places)) [
  | inl some ↦ (
      let rest = lows-rest f ts places rows size a 0 h (length places - 1) 0 (omega arith) (omega arith) in
      let fewer = drop-less f ts 0 (get_or places 0 0) (omega arith) in
      omega (arith, rest, fewer))
  | inr none ↦ (let end : length places ≡ 0 = omega arith in omega (arith, ap (λ (n : ℕ). rows_sum rows size a n) end))
]

-- places that ascend differ
ascend-lt : (places : List ℕ) → ((i : ℕ) → suc i < length places → get_or places i 0 < get_or places (suc i) 0) → (d j : ℕ) → j + suc d < length places → get_or places j 0 < get_or places (j + suc d) 0
ascend-lt places up zero j lt = let next : suc j ≡ j + 1 = omega arith in omega (arith, up j (omega arith), ap (λ (n : ℕ). get_or places n 0) next)
ascend-lt places up (suc d) j lt =
    let last = up (j + suc d) (omega arith) in
    let next : suc (j + suc d) ≡ j + suc (suc d) = omega arith in
    omega (arith, ascend-lt places up d j (omega arith), last, ap (λ (n : ℕ). get_or places n 0) next)

-- what holds after so many of the tables gave their lows and got their parts
pub record IsGivenTo (sizes : List ℕ) (var : ℕ) (places rows : List ℕ) (old now : List CostTable) (pot : List ℕ) (j : ℕ) : Type 0 where
  pub count : length now ≡ length old
  pub scopes : map (λ (t : CostTable). t.scope) now ≡ map (λ (t : CostTable). t.scope) old
  pub each : All (IsTableOver sizes) now
  pub waiting : (i : ℕ) → j ≤ i → i < length places → table_at now (get_or places i 0) ≡ table_at old (get_or places i 0)
  pub many : length pot ≡ get_or sizes var 0
  pub small : All (λ n. n ≤ amount_limit) pot
  pub sums : (value : ℕ → ℕ) → AreValues sizes value → cost_with now value + get_or pot (value var) 0 + rows_sum rows (get_or sizes var 0) (value var) j ≡ cost_with old value + rows_sum rows (get_or sizes var 0) (value var) (length places)
  pub empty : j ≡ length places → (a : ℕ) → a < get_or sizes var 0 → get_or pot a 0 ≡ 0
  pub taken : List (ℕ → ℕ)
  pub targets : List (ℕ → ℕ)
  pub takes : length taken ≡ length old
  pub gets : length targets ≡ length old
  pub fresh : (i : ℕ) → j ≤ i → i < length places → (a : ℕ) → (amounts_at taken (get_or places i 0) a ≡ 0) × (amounts_at targets (get_or places i 0) a ≡ 0)
  pub given : (a : ℕ) → sum_by (λ (f : ℕ → ℕ). f a) taken ≡ rows_sum rows (get_or sizes var 0) a j
  pub paid : (value : ℕ → ℕ) → AreValues sizes value → sum_by (λ (f : ℕ → ℕ). f (value var)) targets + get_or pot (value var) 0 ≡ rows_sum rows (get_or sizes var 0) (value var) (length places)
  pub moves : (k : ℕ) → k < length old → HasMoved sizes var (amounts_at taken k) (amounts_at targets k) (table_at old k) (table_at now k)

row-at : (rows : List ℕ) (size j a : ℕ) → a < size → get_or (row_of rows size j) a 0 ≡ get_or rows (j * size + a) 0
row-at rows size j a lt = get_or-take size (drop (j * size) rows) a 0 lt ∙ get_or-drop (j * size) rows a 0

-- the lows of waiting tables
pub within-now : (sizes : List ℕ) (var : ℕ) (places rows : List ℕ) (old now : List CostTable) (j : ℕ) (value : ℕ → ℕ) → var < length sizes → AreValues sizes value → All (IsTableOver sizes) old → AreNaming old var places → AreLowRows old var (get_or sizes var 0) places (length places) rows → length now ≡ length old → ((i : ℕ) → j ≤ i → i < length places → table_at now (get_or places i 0) ≡ table_at old (get_or places i 0)) → AreWithinTables (λ t. cell_with t value) now places rows (get_or sizes var 0) (value var) j
within-now sizes var places rows old now j value lt w each naming lows count waiting = record {
  inside = λ i hi. omega (arith, naming.inside i 0 hi, count);
  ascend = naming.ascend;
  low = λ i le hi.
      (let p = get_or places i 0 in
      let size = get_or sizes var 0 in
      let inside = naming.inside i 0 hi in
      let over : IsTableOver sizes (table_at old p) = each p (record { scope = []; sizes = []; cells = [] }) inside in
      let low = low-with sizes (table_at old p) var (row_of rows size i) value over (naming.names i 0 hi) (lows.lows i hi) w in
      omega (arith, low, row-at rows size i (value var) (w var lt), ap (λ (t : CostTable). cell_with t value) (waiting i le hi)));
}

sum-nothing : (n a : ℕ) → sum_by (λ (f : ℕ → ℕ). f a) (replicate n no_amounts) ≡ 0
sum-nothing zero a = refl
sum-nothing (suc n) a = let first = sum_by-cons (λ (f : ℕ → ℕ). f a) no_amounts (replicate n no_amounts) in let rest = sum-nothing n a in omega (arith, first, rest)

pub given-none : (sizes : List ℕ) (var : ℕ) (places rows : List ℕ) (old : List CostTable) (pot : List ℕ) → var < length sizes → AreTablesOver sizes old → AreNaming old var places → AreLowRows old var (get_or sizes var 0) places (length places) rows → ArePotOf rows (get_or sizes var 0) (length places) pot → IsGivenTo sizes var places rows old old pot 0
given-none sizes var places rows old pot lt over naming lows is =
    let nothing : List (ℕ → ℕ) = replicate (length old) no_amounts in
    let at : (k : ℕ) → k < length old → amounts_at nothing k ≡ no_amounts = λ k hk. get_or-replicate (length old) k no_amounts no_amounts hk in
    record {
      count = refl;
      scopes = refl;
      each = over.each;
      waiting = λ i le hi. refl;
      many = is.many;
      small = is.small;
      sums = λ value w.
          (let within = lows-all (λ t. cell_with t value) old places rows (get_or sizes var 0) (value var) (within-now sizes var places rows old old 0 value lt w over.each naming lows refl (λ i le hi. refl)) in
          omega (arith, within, over.capped value w, is.sums (value var) (w var lt)));
      empty = λ e a ha. omega (arith, is.sums a ha, ap (λ (n : ℕ). rows_sum rows (get_or sizes var 0) a n) (sym e));
      taken = nothing;
      targets = nothing;
      takes = length-replicate (length old) no_amounts;
      gets = length-replicate (length old) no_amounts;
      fresh = λ i le hi a. (let none = ap (λ (f : ℕ → ℕ). f a) (at (get_or places i 0) (naming.inside i 0 hi)) in (none, none));
      given = λ a. sum-nothing (length old) a;
      paid = λ value w.
          (let within = lows-all (λ t. cell_with t value) old places rows (get_or sizes var 0) (value var) (within-now sizes var places rows old old 0 value lt w over.each naming lows refl (λ i le hi. refl)) in
          omega (arith, within, over.capped value w, is.sums (value var) (w var lt), sum-nothing (length old) (value var)));
      moves = λ k hk. moved-same sizes var (amounts_at nothing k) no_amounts (amounts_at nothing k) no_amounts (table_at old k) (table_at old k) (table_at old k) (table_at old k) (at k hk) (at k hk) refl refl (moved-none sizes var (table_at old k));
    }

turn : (before cell behind now pot kept part low done more all old sum limit : ℕ) → before + (cell + behind) ≡ now → part + kept ≡ pot → low ≤ cell → more ≡ done + low → all ≤ more + behind → now + pot + done ≡ old + all → old ≤ limit → sum + cell ≡ now + min (cell - low + part) limit → sum + kept + more ≡ old + all
turn before cell behind now pot kept part low done more all old sum limit e1 e2 h3 e4 h5 e6 h7 e8 = omega arith

-- the cell that it has then is not capped
uncapped : (before cell behind now pot kept part low done more all old limit : ℕ) → before + (cell + behind) ≡ now → part + kept ≡ pot → low ≤ cell → more ≡ done + low → all ≤ more + behind → now + pot + done ≡ old + all → old ≤ limit → cell - low + part ≤ limit
uncapped before cell behind now pot kept part low done more all old limit e1 e2 h3 e4 h5 e6 h7 = omega arith

-- one table more
pub given-more : (sizes : List ℕ) (var : ℕ) (places rows : List ℕ) (old now : List CostTable) (pot kept parts : List ℕ) (j left : ℕ) (t new : CostTable) → var < length sizes → AreTablesOver sizes old → AreNaming old var places → AreLowRows old var (get_or sizes var 0) places (length places) rows → j < length places → j + left ≡ length places → t ≡ table_at now (get_or places j 0) → IsParting left pot kept parts → All (λ n. n ≤ amount_limit) kept → IsMoved var (row_of rows (get_or sizes var 0) j) parts t new → IsGivenTo sizes var places rows old now pot j → IsGivenTo sizes var places rows old (set now (get_or places j 0) new) kept (j + 1)
given-more sizes var places rows old now pot kept parts j left t new lt over naming lows hj el et parting small move h =
    let p = get_or places j 0 in
    let size = get_or sizes var 0 in
    let none : CostTable = record { scope = []; sizes = []; cells = [] } in
    let inside : p < length now = omega (arith, naming.inside j 0 hj, h.count) in
    let at : IsTableOver sizes t = subst (λ (t : CostTable). IsTableOver sizes t) (sym et) (h.each p none inside) in
    let same : t ≡ table_at old p = et ∙ h.waiting j (omega arith) hj in
    let names : has t.scope var ≡ true = ap (λ (t : CostTable). has t.scope var) same ∙ naming.names j 0 hj in
    let low : AreLows t var (row_of rows size j) = subst (λ (t : CostTable). AreLows t var (row_of rows size j)) (sym same) (lows.lows j hj) in
    let kind : IsTableOver sizes new = record {
      whole = move.whole;
      within = subst (λ (xs : List ℕ). All (λ v. v < length sizes) xs) (sym move.scope) at.within;
      sized = move.sizes ∙ at.sized ∙ ap (λ (xs : List ℕ). map (λ v. get_or sizes v 0) xs) (sym move.scope);
    } in
    let took : ℕ → ℕ = λ a. get_or rows (j * size + a) 0 in
    let got : ℕ → ℕ = λ a. get_or parts a 0 in
    let in_taken : p < length h.taken = omega (arith, naming.inside j 0 hj, h.takes) in
    let in_targets : p < length h.targets = omega (arith, naming.inside j 0 hj, h.gets) in
    let next : suc j ≡ j + 1 = omega arith in
    let apart : (i : ℕ) → j + 1 ≤ i → i < length places → get_or places i 0 ≢ p = λ i le hi.
    (let up = ascend-lt places naming.ascend (i - suc j) j (let e : j + suc (i - suc j) ≡ i = omega arith in omega arith) in
    let e : j + suc (i - suc j) ≡ i = omega arith in
    omega (arith, up, ap (λ (n : ℕ). get_or places n 0) e)) in
    let here : HasMoved sizes var took got t new = record {
      most = λ value w. (let low-cell = low-with sizes t var (row_of rows size j) value at names low w in omega (arith, low-cell, row-at rows size j (value var) (w var lt)));
      cells = λ value w.
          (let a = value var in
          let ha : a < size = w var lt in
          let f : CostTable → ℕ = λ t. cell_with t value in
          let row = row-at rows size j a ha in
          let low-cell = low-with sizes t var (row_of rows size j) value at names low w in
          let cell = moved-with sizes t new var (row_of rows size j) parts value at names low move w in
          let behind = lows-behind f now places rows size a j (within-now sizes var places rows old now j value lt w over.each naming lows h.count h.waiting) hj in
          let is : f (table_at now p) ≡ f t = ap f (sym et) in
          let fits = uncapped (sum_by f (take p now)) (f t) (sum_by f (drop (p + 1) now)) (cost_with now value) (get_or pot a 0) (get_or kept a 0) (get_or parts a 0) (get_or rows (j * size + a) 0)
          (rows_sum rows size a j) (rows_sum rows size a (j + 1)) (rows_sum rows size a (length places)) (cost_with old value) amount_limit
          (omega (arith, sum_by-take-drop f now p, sum_by-drop_more f now p none inside, is))
          (parting.sums a (omega (arith, h.many, ha)))
          (omega (arith, low-cell, row))
          (ap (λ (n : ℕ). rows_sum rows size a n) (sym next))
          (omega (arith, behind, ap (λ (n : ℕ). rows_sum rows size a n) next))
          (h.sums value w)
          (over.capped value w) in
          omega (arith, cell, ap (λ (n : ℕ). moved (f t) n (get_or parts a 0)) row, fits));
      unnamed = λ no. absurd (let both = sym names ∙ no in cc);
    } in
    let scope : get_or (map (λ (t : CostTable). t.scope) now) p [] ≡ new.scope = get_or-map (λ (t : CostTable). t.scope) now p none [] inside ∙ ap (λ (t : CostTable). t.scope) (sym et) ∙ sym move.scope in
    record {
      count = length-set now p new ∙ h.count;
      scopes = map-set (λ (t : CostTable). t.scope) now p new ∙ ap (λ (x : List ℕ). set (map (λ (t : CostTable). t.scope) now) p x) (sym scope) ∙ set-get_or (map (λ (t : CostTable). t.scope) now) p [] ∙ h.scopes;
      each = All-set (IsTableOver sizes) now p new kind h.each;
      waiting = λ i le hi.
          get_or-set_other now p (get_or places i 0) new none (apart i le hi) ∙ h.waiting i (omega arith) hi;
      many = parting.many ∙ h.many;
      small = small;
      sums = λ value w.
          (let a = value var in
          let ha : a < size = w var lt in
          let f : CostTable → ℕ = λ t. cell_with t value in
          let row = row-at rows size j a ha in
          let low-cell = low-with sizes t var (row_of rows size j) value at names low w in
          let cell = moved-with sizes t new var (row_of rows size j) parts value at names low move w in
          let behind = lows-behind f now places rows size a j (within-now sizes var places rows old now j value lt w over.each naming lows h.count h.waiting) hj in
          let next : suc j ≡ j + 1 = omega arith in
          let here : f (table_at now p) ≡ f t = ap f (sym et) in
          turn (sum_by f (take p now)) (f t) (sum_by f (drop (p + 1) now)) (cost_with now value) (get_or pot a 0) (get_or kept a 0) (get_or parts a 0) (get_or rows (j * size + a) 0)
          (rows_sum rows size a j) (rows_sum rows size a (j + 1)) (rows_sum rows size a (length places)) (cost_with old value) (cost_with (set now p new) value) amount_limit
          (omega (arith, sum_by-take-drop f now p, sum_by-drop_more f now p none inside, here))
          (parting.sums a (omega (arith, h.many, ha)))
          (omega (arith, low-cell, row))
          (ap (λ (n : ℕ). rows_sum rows size a n) (sym next))
          (omega (arith, behind, ap (λ (n : ℕ). rows_sum rows size a n) next))
          (h.sums value w)
          (over.capped value w)
          (omega (arith, sum_by-set f now p new none inside, here, cell, ap (λ (n : ℕ). moved (f t) n (get_or parts a 0)) row)));
      empty = λ e a ha. parting.last (omega (arith, e, el)) a (omega (arith, h.many, ha));
      taken = set h.taken p took;
      targets = set h.targets p got;
      takes = length-set h.taken p took ∙ h.takes;
      gets = length-set h.targets p got ∙ h.gets;
      fresh = λ i le hi a.
          (let before = h.fresh i (omega arith) hi a in
          let ne = apart i le hi in (
            ap (λ (f : ℕ → ℕ). f a) (get_or-set_other h.taken p (get_or places i 0) took no_amounts ne) ∙ before.0,
            ap (λ (f : ℕ → ℕ). f a) (get_or-set_other h.targets p (get_or places i 0) got no_amounts ne) ∙ before.1,
          ));
      given = λ a.
          (let both : sum_by (λ (f : ℕ → ℕ). f a) (set h.taken p took) + get_or h.taken p no_amounts a ≡ sum_by (λ (f : ℕ → ℕ). f a) h.taken + get_or rows (j * size + a) 0 = sum_by-set (λ (f : ℕ → ℕ). f a) h.taken p took no_amounts in_taken in
          let before : get_or h.taken p no_amounts a ≡ 0 = (h.fresh j (omega arith) hj a).0 in
          let row : rows_sum rows size a (j + 1) ≡ rows_sum rows size a j + get_or rows (j * size + a) 0 = ap (λ (n : ℕ). rows_sum rows size a n) (sym next) in
          omega (arith, both, before, h.given a, row));
      paid = λ value w.
          (let a = value var in
          let ha : a < size = w var lt in
          let both : sum_by (λ (f : ℕ → ℕ). f a) (set h.targets p got) + get_or h.targets p no_amounts a ≡ sum_by (λ (f : ℕ → ℕ). f a) h.targets + get_or parts a 0 = sum_by-set (λ (f : ℕ → ℕ). f a) h.targets p got no_amounts in_targets in
          let before : get_or h.targets p no_amounts a ≡ 0 = (h.fresh j (omega arith) hj a).1 in
          omega (arith, both, before, h.paid value w, parting.sums a (omega (arith, h.many, ha))));
      moves = λ k hk. elim (cases_eq k p) [
        | inl own ↦ moved-same sizes var (amounts_at (set h.taken p took) k) took (amounts_at (set h.targets p got) k) got (table_at old k) t (table_at (set now p new) k) new
            (ap (λ (n : ℕ). get_or (set h.taken p took) n no_amounts) own ∙ get_or-set_same h.taken p took no_amounts in_taken)
            (ap (λ (n : ℕ). get_or (set h.targets p got) n no_amounts) own ∙ get_or-set_same h.targets p got no_amounts in_targets)
            (ap (λ (n : ℕ). table_at old n) own ∙ sym same)
            (ap (λ (n : ℕ). table_at (set now p new) n) own ∙ get_or-set_same now p new none inside)
            here
        | inr other ↦ moved-same sizes var (amounts_at (set h.taken p took) k) (amounts_at h.taken k) (amounts_at (set h.targets p got) k) (amounts_at h.targets k) (table_at old k) (table_at old k) (table_at (set now p new) k) (table_at now k)
            (get_or-set_other h.taken p k took no_amounts other) (get_or-set_other h.targets p k got no_amounts other) refl (get_or-set_other now p k new none other) (h.moves k hk)
      ];
    }

-- all tables
pub given-all : (sizes : List ℕ) (var : ℕ) (places rows : List ℕ) (old now : List CostTable) (pot : List ℕ) (j : ℕ) → var < length sizes → AreTablesOver sizes old → j ≡ length places → IsGivenTo sizes var places rows old now pot j → IsShare sizes var old now
given-all sizes var places rows old now pot j lt over e h =
    let same : (value : ℕ → ℕ) → AreValues sizes value → cost_with now value ≡ cost_with old value =
    λ value w. omega (arith, h.sums value w, h.empty e (value var) (w var lt), ap (λ (n : ℕ). rows_sum rows (get_or sizes var 0) (value var) n) e) in
    moving-share sizes var old now lt over.each (record {
      scopes = h.scopes;
      tables = record { each = h.each; capped = λ value w. omega (arith, same value w, over.capped value w) };
      taken = h.taken;
      targets = h.targets;
      takes = h.takes;
      gets = h.gets;
      moves = h.moves;
      even = λ value w. omega (arith, h.paid value w, h.empty e (value var) (w var lt), h.given (value var), ap (λ (n : ℕ). rows_sum rows (get_or sizes var 0) (value var) n) e);
    })

-- the same of lists that are the same
pub record AreReady (old : List CostTable) (var size : ℕ) (places rows pot : List ℕ) : Type 0 where
  pub naming : AreNaming old var places
  pub lows : AreLowRows old var size places (length places) rows
  pub pot_is : ArePotOf rows size (length places) pot

pub ready : (old : List CostTable) (var size : ℕ) (places rows pot ps rs : List ℕ) → ps ≡ places → rs ≡ rows → AreNaming old var places → AreLowRows old var size places (length places) rows → ArePotOf rows size (length places) pot → AreReady old var size ps rs pot
ready old var size places rows pot ps rs ep er naming lows pot_is =
    subst (λ (xs : List ℕ). AreReady old var size ps xs pot) (sym er)
    (subst (λ (xs : List ℕ). AreReady old var size xs rows pot) (sym ep) (record { naming = naming; lows = lows; pot_is = pot_is }))

-- a row as a part of a slice
pub row-same : (rows : List ℕ) (j n size : ℕ) → n ≡ size → take (j * n + n - j * n) (drop (j * n) rows) ≡ row_of rows size j
row-same rows j n size e =
    let many : j * n + n - j * n ≡ n = omega arith in
    ap (λ (m : ℕ). take m (drop (j * n) rows)) many ∙ ap (λ (m : ℕ). take m (drop (j * m) rows)) e

-- the lows of the table that is next
pub next-lows : (sizes : List ℕ) (var : ℕ) (places rows : List ℕ) (old now : List CostTable) (pot : List ℕ) (j n : ℕ) (t : CostTable) → AreReady old var (get_or sizes var 0) places rows pot → j < length places → n ≡ get_or sizes var 0 → (now_pot : List ℕ) → IsGivenTo sizes var places rows old now now_pot j → AreLows (get_or now (get_or places j 0) t) var (take (j * n + n - j * n) (drop (j * n) rows))
next-lows sizes var places rows old now pot j n t is lt e now_pot h =
    let p = get_or places j 0 in
    let inside : p < length now = omega (arith, is.naming.inside j 0 lt, h.count) in
    let same : get_or now p t ≡ table_at old p = get_or_default now p t (record { scope = []; sizes = []; cells = [] }) inside ∙ h.waiting j (omega arith) lt in
    subst (λ (t : CostTable). AreLows t var (take (j * n + n - j * n) (drop (j * n) rows))) (sym same)
    (subst (λ (xs : List ℕ). AreLows (table_at old p) var xs) (sym (row-same rows j n (get_or sizes var 0) e)) (is.lows.lows j lt))
