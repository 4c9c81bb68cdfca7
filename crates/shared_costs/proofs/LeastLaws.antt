-- Laws of the least cells of tables at each value of a variable: a move of smaller amounts is a share of the least cells.
use Rattle.std.proofs.Common.{◌≡◌, ℕ, zero, suc, ◌+◌, ◌-◌, ◌<◌, ◌≤◌, ◌⊎◌, false, eqb, List, [], ◌∷◌, map, length, get_or, replicate, refl, sym, ap, ap₂, ◌∙◌, subst, inl, inr, arith}
use Rattle.std.specs.List.{All, sum_by}
use Rattle.std.proofs.lemmas.Bool.{cases_lt, cases_Bool, cond-true, cond-false, eqb-true, eq-eqb}
use Rattle.std.proofs.lemmas.List.{length-map, length-replicate, get_or-replicate}
use Rattle.std.proofs.lemmas.List.Elements.{All-nil, All-cons, All-head, All-tail, AllZip-get_or}
use Rattle.std.proofs.lemmas.List.Sums.{sum_by-cons}
use Rattle.dcop_base.specs.Table.{CostTable, AreWithin, cell_place, has}
use Rattle.dcop_base.specs.Values.{cell_with, with_own}
use Rattle.shared_costs.specs.Values.{AreValues}
use Rattle.shared_costs.specs.Tables.{IsTableOver, AreTablesOver}
use Rattle.shared_costs.specs.Rows.{table_at}
use Rattle.shared_costs.specs.Sharing.{no_amounts, amounts_at, AreLeastCells, HasShared, IsShare}

-- some number up to n has the least measure
least_upto : (n : ℕ) (measure : ℕ → ℕ) → (k : ℕ) × (k ≤ n) × ((j : ℕ) → j ≤ n → measure k ≤ measure j)
least_upto zero measure = (0, omega arith, λ j h. let same : j ≡ 0 = omega arith in rw same (omega arith))
least_upto (suc n) measure =
    let before = least_upto n measure in
    let at_next : (j : ℕ) → j ≤ suc n → (j ≤ n) ⊎ (j ≡ suc n) = λ j h. elim (cases_lt n j) [ inl over ↦ inr (omega arith) | inr under ↦ inl under ] in
    elim (cases_lt (measure (suc n)) (measure before.0)) [
      | inl lower ↦ (
        suc n,
        omega arith,
        λ j h. elim (at_next j h) [
          | inl under ↦ let le = before.2 j under in omega arith
          | inr same ↦ rw same (omega arith)
        ],
      )
      | inr higher ↦ (
        before.0,
        (let le = before.1 in omega arith),
        λ j h. elim (at_next j h) [
          | inl under ↦ before.2 j under
          | inr same ↦ rw same higher
        ],
      )
    ]

none_least : (measure : List ℕ → ℕ) (ys : List ℕ) → AreWithin [] ys → measure [] ≤ measure ys
none_least measure [] w = omega arith
none_least measure (y ∷ ys) w = absurd w

some_least : (s : ℕ) (ss : List ℕ) (least : ℕ) (measure : List ℕ → ℕ) → ((y : ℕ) (ys : List ℕ) → y < s → AreWithin ss ys → least ≤ measure (y ∷ ys)) → (ys : List ℕ) → AreWithin (s ∷ ss) ys → least ≤ measure ys
some_least s ss least measure h [] w = absurd w
some_least s ss least measure h (y ∷ ys) w = h y ys w.0 w.1

-- some values within sizes have the least measure
least_within : (ss : List ℕ) → All (λ s. 1 ≤ s) ss → (measure : List ℕ → ℕ) → (xs : List ℕ) × AreWithin ss xs × ((ys : List ℕ) → AreWithin ss ys → measure xs ≤ measure ys)
least_within [] sizes measure = ([], tt, none_least measure)
least_within (s ∷ ss) sizes measure =
    let rest = λ (x : ℕ). least_within ss (All-tail (λ s. 1 ≤ s) s ss sizes) (λ xs. measure (x ∷ xs)) in
    let some : 1 ≤ s = All-head (λ s. 1 ≤ s) s ss sizes in
    let head = least_upto (s - 1) (λ x. measure (x ∷ (rest x).0)) in (
      head.0 ∷ (rest head.0).0,
      ((let le = head.1 in omega arith), (rest head.0).1),
      some_least s ss (measure (head.0 ∷ (rest head.0).0)) measure (λ y ys below within.
          let by_head = head.2 y (omega arith) in
          let by_rest = (rest y).2 ys within in
          omega arith),
    )

-- each variable has a value, or there are no values of all of them
positive_or : (sizes : List ℕ) → All (λ s. 1 ≤ s) sizes ⊎ ((value : ℕ → ℕ) → AreValues sizes value → ⊥)
positive_or [] = inl (All-nil (λ s. 1 ≤ s))
positive_or (s ∷ ss) = elim (cases_lt 0 s) [
  | inl some ↦ elim (positive_or ss) [
    | inl all ↦ inl (All-cons (λ s. 1 ≤ s) s ss (omega (arith, some)) all)
    | inr none ↦ inr (λ value w. none (λ v. value (suc v)) (λ v lt. w (suc v) (omega (arith, lt))))
  ]
  | inr none ↦ inr (λ value w. (let below = w 0 (omega arith) in omega (arith, below, none)))
]

-- values as a list
abbrev list_of : List ℕ → (ℕ → ℕ) → List ℕ
list_of [] value = []
list_of (s ∷ ss) value = value 0 ∷ list_of ss (λ v. value (suc v))

list_within : (sizes : List ℕ) (value : ℕ → ℕ) → AreValues sizes value → AreWithin sizes (list_of sizes value)
list_within [] value w = tt
list_within (s ∷ ss) value w = (w 0 (omega arith), list_within ss (λ v. value (suc v)) (λ v lt. w (suc v) (omega (arith, lt))))

list_at : (sizes : List ℕ) (value : ℕ → ℕ) (v : ℕ) → v < length sizes → get_or (list_of sizes value) v 0 ≡ value v
list_at [] value v lt = absurd (omega (arith, lt))
list_at (s ∷ ss) value zero lt = refl
list_at (s ∷ ss) value (suc v) lt = list_at ss (λ v. value (suc v)) v (omega (arith, lt))

-- values with one value set
own_of : (var a : ℕ) (f g : ℕ → ℕ) (v : ℕ) → f v ≡ g v → g var ≡ a → with_own var a f v ≡ g v
own_of var a f g v same own = elim (cases_Bool (eqb v var)) [
  | inl here ↦ cond-true (eqb v var) a (f v) here ∙ sym own ∙ ap g (sym (eqb-true v var here))
  | inr apart ↦ cond-false (eqb v var) a (f v) apart ∙ same
]

own_is : (var a : ℕ) (f : ℕ → ℕ) → with_own var a f var ≡ a
own_is var a f = cond-true (eqb var var) a (f var) (eq-eqb var var refl)

own_within : (sizes : List ℕ) (var a : ℕ) (f : ℕ → ℕ) → AreValues sizes f → a < get_or sizes var 0 → AreValues sizes (with_own var a f)
own_within sizes var a f all lt v h = elim (cases_Bool (eqb v var)) [
  | inl own ↦ (let same = eqb-true v var own in let is = cond-true (eqb v var) a (f v) own in let at = ap (λ (n : ℕ). get_or sizes n 0) same in omega (arith, same, is, at, lt))
  | inr other ↦ (let is = cond-false (eqb v var) a (f v) other in let below = all v h in omega (arith, is, below))
]

-- a cell depends on the values of the table's variables alone
values_same : (n : ℕ) (f g : ℕ → ℕ) (scope : List ℕ) → All (λ v. v < n) scope → ((v : ℕ) → v < n → f v ≡ g v) → map f scope ≡ map g scope
values_same n f g [] h same = refl
values_same n f g (v ∷ vs) h same = ap₂ (λ (x : ℕ) (xs : List ℕ). x ∷ xs) (same v (All-head (λ v. v < n) v vs h)) (values_same n f g vs (All-tail (λ v. v < n) v vs h) same)

cell_same : (n : ℕ) (f g : ℕ → ℕ) (t : CostTable) → All (λ v. v < n) t.scope → ((v : ℕ) → v < n → f v ≡ g v) → cell_with t f ≡ cell_with t g
cell_same n f g t h same = ap (λ (xs : List ℕ). get_or t.cells (cell_place t.sizes xs) 0) (values_same n f g t.scope h same)

-- amounts were moved: from each cell an amount for its value of the variable was taken, which is at most the cell, and a target was added
pub record HasMoved (sizes : List ℕ) (var : ℕ) (taken targets : ℕ → ℕ) (old new : CostTable) : Type 0 where
  pub most : (value : ℕ → ℕ) → AreValues sizes value → taken (value var) ≤ cell_with old value
  pub cells : (value : ℕ → ℕ) → AreValues sizes value → cell_with new value ≡ cell_with old value - taken (value var) + targets (value var)
  pub unnamed : has old.scope var ≡ false → new ≡ old

pub record IsMoving (sizes : List ℕ) (var : ℕ) (old new : List CostTable) : Type 0 where
  pub scopes : map (λ (t : CostTable). t.scope) new ≡ map (λ (t : CostTable). t.scope) old
  pub tables : AreTablesOver sizes new
  pub taken : List (ℕ → ℕ)
  pub targets : List (ℕ → ℕ)
  pub takes : length taken ≡ length old
  pub gets : length targets ≡ length old
  pub moves : (k : ℕ) → k < length old → HasMoved sizes var (amounts_at taken k) (amounts_at targets k) (table_at old k) (table_at new k)
  pub even : (value : ℕ → ℕ) → AreValues sizes value → sum_by (λ (f : ℕ → ℕ). f (value var)) targets ≡ sum_by (λ (f : ℕ → ℕ). f (value var)) taken

-- nothing is moved
pub moved-none : (sizes : List ℕ) (var : ℕ) (t : CostTable) → HasMoved sizes var no_amounts no_amounts t t
moved-none sizes var t = record { most = λ value w. omega arith; cells = λ value w. omega arith; unnamed = λ h. refl }

-- the same of what is the same
pub moved-same : (sizes : List ℕ) (var : ℕ) (f f_too g g_too : ℕ → ℕ) (old old_too new new_too : CostTable) → f ≡ f_too → g ≡ g_too → old ≡ old_too → new ≡ new_too → HasMoved sizes var f_too g_too old_too new_too → HasMoved sizes var f g old new
moved-same sizes var f f_too g g_too old old_too new new_too ef eg eo en h =
    subst (λ (x : ℕ → ℕ). HasMoved sizes var x g old new) (sym ef)
    (subst (λ (x : ℕ → ℕ). HasMoved sizes var f_too x old new) (sym eg)
    (subst (λ (x : CostTable). HasMoved sizes var f_too g_too x new) (sym eo)
    (subst (λ (x : CostTable). HasMoved sizes var f_too g_too old_too x) (sym en) h)))

pub moving-none : (sizes : List ℕ) (var : ℕ) (ts : List CostTable) → AreTablesOver sizes ts → IsMoving sizes var ts ts
moving-none sizes var ts over =
    let nothing : List (ℕ → ℕ) = replicate (length ts) no_amounts in
    record {
      scopes = refl;
      tables = over;
      taken = nothing;
      targets = nothing;
      takes = length-replicate (length ts) no_amounts;
      gets = length-replicate (length ts) no_amounts;
      moves = λ k lt.
          (let at : amounts_at nothing k ≡ no_amounts = get_or-replicate (length ts) k no_amounts no_amounts lt in
          moved-same sizes var (amounts_at nothing k) no_amounts (amounts_at nothing k) no_amounts (table_at ts k) (table_at ts k) (table_at ts k) (table_at ts k) at at refl refl (moved-none sizes var (table_at ts k)));
      even = λ value w. refl;
    }

-- the cell of a table where the variable has this value and the others these
abbrev at_list : CostTable → ℕ → ℕ → List ℕ → ℕ
at_list t var a xs = cell_with t (with_own var a (λ v. get_or xs v 0))

-- shares of the first table and of the others
shares_cons : (sizes : List ℕ) (var : ℕ) (f g : ℕ → ℕ) (fs gs : List (ℕ → ℕ)) (t u : CostTable) (ts us : List CostTable) → HasShared sizes var f g t u → ((k : ℕ) → k < length ts → HasShared sizes var (amounts_at fs k) (amounts_at gs k) (table_at ts k) (table_at us k))
    → (k : ℕ) → k < length (t ∷ ts) → HasShared sizes var (amounts_at (f ∷ fs) k) (amounts_at (g ∷ gs) k) (table_at (t ∷ ts) k) (table_at (u ∷ us) k)
shares_cons sizes var f g fs gs t u ts us here rest zero lt = here
shares_cons sizes var f g fs gs t u ts us here rest (suc k) lt = rest k (omega (arith, lt))

-- the least cells of tables, and the targets that go with them
pub record HasLeasts (sizes : List ℕ) (var : ℕ) (old new : List CostTable) (taken targets : List (ℕ → ℕ)) : Type 0 where
  pub leasts : List (ℕ → ℕ)
  pub more : List (ℕ → ℕ)
  pub takes : length leasts ≡ length old
  pub gets : length more ≡ length old
  pub shares : (k : ℕ) → k < length old → HasShared sizes var (amounts_at leasts k) (amounts_at more k) (table_at old k) (table_at new k)
  pub sums : (value : ℕ → ℕ) → AreValues sizes value → sum_by (λ (f : ℕ → ℕ). f (value var)) more + sum_by (λ (f : ℕ → ℕ). f (value var)) taken ≡ sum_by (λ (f : ℕ → ℕ). f (value var)) targets + sum_by (λ (f : ℕ → ℕ). f (value var)) leasts

-- what is taken is at most the least cell
taken_low : (sizes : List ℕ) (var : ℕ) (f g m : ℕ → ℕ) (t u : CostTable) → HasMoved sizes var f g t u → AreLeastCells sizes var t m → (value : ℕ → ℕ) → AreValues sizes value → f (value var) ≤ m (value var)
taken_low sizes var f g m t u move least value w =
    let best = least.attained value w in
    let low : f (best.0 var) ≤ cell_with t best.0 = move.most best.0 best.1 in
    let same : f (best.0 var) ≡ f (value var) = ap f best.2 in
    let is : cell_with t best.0 ≡ m (value var) = best.3 in
    omega (arith, low, same, is)

module _ (sizes : List ℕ) (positive : All (λ s. 1 ≤ s) sizes) (var : ℕ) (lt : var < length sizes) where
  abbrev least_at : CostTable → ℕ → ℕ
  least_at t a = at_list t var a (least_within sizes positive (at_list t var a)).0

  leasts_are : (t : CostTable) → IsTableOver sizes t → AreLeastCells sizes var t (least_at t)
  leasts_are t over = record {
    most = λ value w.
        (let a = value var in
        let xs = list_of sizes value in
        let f : ℕ → ℕ = λ v. get_or xs v 0 in
        let least : least_at t a ≤ at_list t var a xs = (least_within sizes positive (at_list t var a)).2 xs (list_within sizes value w) in
        let same : at_list t var a xs ≡ cell_with t value = cell_same (length sizes) (with_own var a f) value t over.within (λ v inside. own_of var a f value v (list_at sizes value v inside) refl) in
        omega (arith, least, same));
    attained = λ value w.
        (let a = value var in
        let best = least_within sizes positive (at_list t var a) in
        let f : ℕ → ℕ = λ v. get_or best.0 v 0 in
        let all : AreValues sizes f = λ v inside. AllZip-get_or (λ s v. v < s) sizes best.0 v 0 0 best.1 inside in
        (with_own var a f, own_within sizes var a f all (w var lt), own_is var a f, refl));
  }

  share_least : (f g : ℕ → ℕ) (t u : CostTable) → IsTableOver sizes t → HasMoved sizes var f g t u → HasShared sizes var (least_at t) (λ a. g a + (least_at t a - f a)) t u
  share_least f g t u over move =
      let least = leasts_are t over in
      record {
        least = least;
        cells = λ value w.
            (let low = taken_low sizes var f g (least_at t) t u move least value w in
            let most : least_at t (value var) ≤ cell_with t value = least.most value w in
            let cell : cell_with u value ≡ cell_with t value - f (value var) + g (value var) = move.cells value w in
            omega (arith, low, most, cell));
        unnamed = move.unnamed;
      }

  has_leasts : (old new : List CostTable) (taken targets : List (ℕ → ℕ)) → All (IsTableOver sizes) old → length new ≡ length old → length taken ≡ length old → length targets ≡ length old
      → ((k : ℕ) → k < length old → HasMoved sizes var (amounts_at taken k) (amounts_at targets k) (table_at old k) (table_at new k)) → HasLeasts sizes var old new taken targets
  has_leasts [] [] [] [] over en et eg each = record { leasts = []; more = []; takes = refl; gets = refl; shares = λ k h. absurd (omega (arith, h)); sums = λ value w. refl }
  has_leasts [] [] [] (g ∷ gs) over en et eg each = absurd (omega (arith, eg))
  has_leasts [] [] (f ∷ fs) targets over en et eg each = absurd (omega (arith, et))
  has_leasts [] (u ∷ us) taken targets over en et eg each = absurd (omega (arith, en))
  has_leasts (t ∷ ts) [] taken targets over en et eg each = absurd (omega (arith, en))
  has_leasts (t ∷ ts) (u ∷ us) [] targets over en et eg each = absurd (omega (arith, et))
  has_leasts (t ∷ ts) (u ∷ us) (f ∷ fs) [] over en et eg each = absurd (omega (arith, eg))
  has_leasts (t ∷ ts) (u ∷ us) (f ∷ fs) (g ∷ gs) over en et eg each =
      let rest = has_leasts ts us fs gs (All-tail (IsTableOver sizes) t ts over) (omega (arith, en)) (omega (arith, et)) (omega (arith, eg)) (λ k h. each (suc k) (omega (arith, h))) in
      let move : HasMoved sizes var f g t u = each 0 (omega arith) in
      let own : IsTableOver sizes t = All-head (IsTableOver sizes) t ts over in
      let m : ℕ → ℕ = least_at t in
      let x : ℕ → ℕ = λ a. g a + (m a - f a) in
      record {
        leasts = m ∷ rest.leasts;
        more = x ∷ rest.more;
        takes = (let same = rest.takes in omega (arith, same));
        gets = (let same = rest.gets in omega (arith, same));
        shares = shares_cons sizes var m x rest.leasts rest.more t u ts us (share_least f g t u own move) rest.shares;
        sums = λ value w.
            (let a = value var in
            let F : (ℕ → ℕ) → ℕ = λ h. h a in
            let low : f a ≤ m a = taken_low sizes var f g m t u move (leasts_are t own) value w in
            let later = rest.sums value w in
            let xs : sum_by F (x ∷ rest.more) ≡ g a + (m a - f a) + sum_by F rest.more = sum_by-cons F x rest.more in
            let fs_sum : sum_by F (f ∷ fs) ≡ f a + sum_by F fs = sum_by-cons F f fs in
            let gs_sum : sum_by F (g ∷ gs) ≡ g a + sum_by F gs = sum_by-cons F g gs in
            let ms : sum_by F (m ∷ rest.leasts) ≡ m a + sum_by F rest.leasts = sum_by-cons F m rest.leasts in
            omega (arith, low, later, xs, fs_sum, gs_sum, ms));
      }

-- a move is a share: what is taken less than the least cell is a greater target less
pub moving-share : (sizes : List ℕ) (var : ℕ) (old new : List CostTable) → var < length sizes → All (IsTableOver sizes) old → IsMoving sizes var old new → IsShare sizes var old new
moving-share sizes var old new lt over moving = elim (positive_or sizes) [
  | inl positive ↦
      let long : length new ≡ length old = sym (length-map new (λ (t : CostTable). t.scope)) ∙ ap (λ (vss : List (List ℕ)). length vss) moving.scopes ∙ length-map old (λ (t : CostTable). t.scope) in
      let is = has_leasts sizes positive var lt old new moving.taken moving.targets over long moving.takes moving.gets moving.moves in
      record {
        scopes = moving.scopes;
        tables = moving.tables;
        leasts = is.leasts;
        targets = is.more;
        gives = is.takes;
        gets = is.gets;
        shares = is.shares;
        even = λ value w. (let sums = is.sums value w in let even = moving.even value w in omega (arith, sums, even));
      }
  | inr none ↦ record {
    scopes = moving.scopes;
    tables = moving.tables;
    leasts = moving.taken;
    targets = moving.targets;
    gives = moving.takes;
    gets = moving.gets;
    shares = λ k h.
        (let move = moving.moves k h in
        record {
          least = record { most = move.most; attained = λ value w. absurd (none value w) };
          cells = move.cells;
          unnamed = move.unnamed;
        });
    even = moving.even;
  }
]
