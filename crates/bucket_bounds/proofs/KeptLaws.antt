-- Laws of what is kept of projections.
use Rattle.std.proofs.Common.{false, eqb, ◌≡◌, ℕ, ◌+◌, ◌-◌, ◌<◌, ◌≤◌, min, List, [], ◌∷◌, ◌++◌, map, length, take, get_or, append_assoc, refl, sym, ap, subst, ◌∙◌, inl, inr, mul-le-mul_left, arith}
use Rattle.std.specs.List.{All, fold}
use Rattle.std.proofs.lemmas.Bool.{cases_eq, eq-eqb, true≢false}
use Rattle.std.specs.List.Sorted.{IsPermutation}
use Rattle.std.proofs.lemmas.List.{take_more, length-append, length-take-le}
use Rattle.std.proofs.lemmas.List.Elements.{All-append, All-cons, All-nil, All-head, All-tail}
use Rattle.std.proofs.lemmas.List.Sorted.{All-permutation, length_permutation, IsPermutation-refl, IsPermutation-sym, IsPermutation-trans, IsPermutation-to_front, IsPermutation-middle, IsPermutation-append_left, IsPermutation-push_more}
use Rattle.std.proofs.lemmas.List.Sums.{sum_by-append, sum_by-cons}
use Rattle.dcop_base.specs.Limits.{count_limit}
use Rattle.dcop_base.specs.Table.{CostTable, IsTable, product, cell_place}
use Rattle.dcop_base.specs.Faults.{cell_count}
use Rattle.dcop_base.specs.Values.{cell_with, cost_with}
use Rattle.dcop_base.proofs.TableLaws.{parts-of, cell_place-lt}
use Rattle.bucket_bounds.specs.Kept.{least, least_cost, AreProjectionsKept}
use Rattle.bucket_bounds.specs.Keeping.{IsTableKept, IsKeptOf, IsKeptWhole, IsKeptLeast}
use Rattle.bucket_bounds.specs.declared.keeping.Kept.{Kept}
use Rattle.bucket_bounds.proofs.CellLaws.{IsWithin}

-- one table more
pub cost_more : (ts : List CostTable) (t : CostTable) (value : ℕ → ℕ) → cost_with (ts ++ t ∷ []) value ≡ cost_with ts value + cell_with t value
cost_more ts t value =
    let both = sum_by-append (λ (u : CostTable). cell_with u value) ts (t ∷ []) in
    let one : cost_with (t ∷ []) value ≡ cell_with t value + 0 = sum_by-cons (λ (u : CostTable). cell_with u value) t [] in
    omega (arith, both, one)

count_more : (ts : List CostTable) (t : CostTable) → cell_count (ts ++ t ∷ []) ≡ cell_count ts + length t.cells
count_more ts t =
    let both = sum_by-append (λ (u : CostTable). length u.cells) ts (t ∷ []) in
    let one : cell_count (t ∷ []) ≡ length t.cells + 0 = sum_by-cons (λ (u : CostTable). length u.cells) t [] in
    omega (arith, both, one)

pub none_in : {X : Type 0} (xs : List X) → length xs ≡ 0 → xs ≡ []
none_in [] e = refl
none_in (x ∷ xs) e = absurd (omega (arith, e))

-- what holds of all holds of the last one
pub all_end : (P : CostTable → Type 0) (ts : List CostTable) (t : CostTable) → All P (ts ++ t ∷ []) → All P ts × P t
all_end P [] t all = (All-nil P, All-head P t [] all)
all_end P (u ∷ us) t all =
    let rest = all_end P us t (All-tail P u (us ++ t ∷ []) all) in
    (All-cons P u us (All-head P u (us ++ t ∷ []) all) rest.0, rest.1)

-- what holds of two lists holds of each
pub all_both : {X : Type 0} (P : X → Type 0) (xs ys : List X) → All P (xs ++ ys) → All P xs × All P ys
all_both P [] ys all = (All-nil P, all)
all_both P (x ∷ xs) ys all =
    let rest = all_both P xs ys (All-tail P x (xs ++ ys) all) in
    (All-cons P x xs (All-head P x (xs ++ ys) all) rest.0, rest.1)

-- the least number of a list is at most each
fold-min-start : (a : ℕ) (xs : List ℕ) → fold min a xs ≤ a
fold-min-start a [] = omega arith
fold-min-start a (x ∷ xs) = let rest = fold-min-start (min a x) xs in omega (arith, rest)

fold-min-at : (a : ℕ) (xs : List ℕ) → All (λ x. fold min a xs ≤ x) xs
fold-min-at a [] = λ k d lt. absurd (omega (arith, lt))
fold-min-at a (x ∷ xs) =
    let rest = fold-min-start (min a x) xs in
    All-cons (λ (y : ℕ). fold min (min a x) xs ≤ y) x xs (omega (arith, rest)) (fold-min-at (min a x) xs)

least_at : (xs : List ℕ) → All (λ x. least xs ≤ x) xs
least_at [] = λ k d lt. absurd (omega (arith, lt))
least_at (x ∷ xs) = All-cons (λ (y : ℕ). fold min x xs ≤ y) x xs (fold-min-start x xs) (fold-min-at x xs)

least_is : (xs : List ℕ) (top n : ℕ) → n ≡ fold min top xs → All (λ x. x ≤ top) xs → 1 ≤ length xs → n ≡ least xs
least_is [] top n e small some = absurd (omega (arith, some))
least_is (x ∷ xs) top n e small some =
    let most : x ≤ top = All-head (λ (y : ℕ). y ≤ top) x xs small in
    e ∙ ap (λ (a : ℕ). fold min a xs) (omega (arith, most))

only_least : (xs : List ℕ) → length xs ≡ 1 → least xs ≡ get_or xs 0 0
only_least [] e = absurd (omega (arith, e))
only_least (x ∷ []) e = refl
only_least (x ∷ y ∷ ys) e = absurd (omega (arith, e))

-- a table has a cell
product_some : (ss : List ℕ) → All (λ s. 1 ≤ s) ss → 1 ≤ product ss
product_some [] all = omega arith
product_some (s ∷ ss) all =
    let one = All-head (λ s. 1 ≤ s) s ss all in
    let rest = mul-le-mul_left s (product_some ss (All-tail (λ s. 1 ≤ s) s ss all)) in
    omega (arith, one, rest)

some_cell : (t : CostTable) → IsTable t → 1 ≤ length t.cells
some_cell t whole =
    let parts = parts-of t.scope t.sizes t.cells whole in
    let some = product_some t.sizes parts.positive in
    let full = parts.full in
    omega (arith, some, full)

pub table_least : (t : CostTable) (n : ℕ) → IsTable t → n ≡ fold min count_limit t.cells → n ≡ least t.cells
table_least t n whole e =
    least_is t.cells count_limit n e (λ k d lt. (let small = (parts-of t.scope t.sizes t.cells whole).small k d lt in omega (arith, small))) (some_cell t whole)

-- the least cell of a table is at most each, and the only cell of one without variables
least_low : (t : CostTable) (value : ℕ → ℕ) → IsTable t → IsWithin value t → least t.cells ≤ cell_with t value
least_low t value whole within =
    least_at t.cells (cell_place t.sizes (map value t.scope)) 0 (subst (λ (n : ℕ). cell_place t.sizes (map value t.scope) < n) (sym (parts-of t.scope t.sizes t.cells whole).full) (cell_place-lt t.sizes (map value t.scope) within))

only_cell : (t : CostTable) (value : ℕ → ℕ) → IsTable t → t.scope ≡ [] → cell_with t value ≡ least t.cells
only_cell t value whole none =
    let parts = parts-of t.scope t.sizes t.cells whole in
    let sizes : t.sizes ≡ [] = none_in t.sizes (parts.sized ∙ ap (λ (vs : List ℕ). length vs) none) in
    let one : length t.cells ≡ 1 = parts.full ∙ ap product sizes in
    ap (λ (ss : List ℕ). get_or t.cells (cell_place ss (map value t.scope)) 0) sizes ∙ sym (only_least t.cells one)

pub leasts_low : (ts : List CostTable) (value : ℕ → ℕ) → All IsTable ts → All (IsWithin value) ts → least_cost ts ≤ cost_with ts value
leasts_low [] value whole within = omega arith
leasts_low (t ∷ ts) value whole within =
    let one = least_low t value (All-head IsTable t ts whole) (All-head (IsWithin value) t ts within) in
    let rest = leasts_low ts value (All-tail IsTable t ts whole) (All-tail (IsWithin value) t ts within) in
    omega (arith, one, rest, sum_by-cons (λ (t : CostTable). least t.cells) t ts, sum_by-cons (λ (t : CostTable). cell_with t value) t ts)

pub closed_cost : (ts : List CostTable) (value : ℕ → ℕ) → All IsTable ts → All (λ t. t.scope ≡ []) ts → cost_with ts value ≡ least_cost ts
closed_cost [] value whole plain = refl
closed_cost (t ∷ ts) value whole plain =
    let one = only_cell t value (All-head IsTable t ts whole) (All-head (λ (t : CostTable). t.scope ≡ []) t ts plain) in
    let rest = closed_cost ts value (All-tail IsTable t ts whole) (All-tail (λ (t : CostTable). t.scope ≡ []) t ts plain) in
    omega (arith, one, rest, sum_by-cons (λ (t : CostTable). least t.cells) t ts, sum_by-cons (λ (t : CostTable). cell_with t value) t ts)

-- what was kept of none
pub kept_none : (room : ℕ) (kept : Kept) → kept.sent.items ≡ [] → kept.fixed ≡ 0 → kept.replaced ≡ 0 → kept.room ≡ room → IsKeptOf room [] kept
kept_none room kept none fixed replaced same = record {
  are = record {
    closed = [];
    large = [];
    each = subst (λ (ts : List CostTable). IsPermutation [] ts) (sym none) (IsPermutation-refl []);
    plain = All-nil (λ t. t.scope ≡ []);
    named = subst (λ (ts : List CostTable). All (λ t. 1 ≤ length t.scope) ts) (sym none) (All-nil (λ t. 1 ≤ length t.scope));
    sum = fixed;
    many = replaced;
    largest = All-nil (λ (t : CostTable). All (λ s. length s.cells ≤ length t.cells) kept.sent.items);
    full = All-nil (λ (t : CostTable). room < cell_count kept.sent.items + length t.cells);
  };
  left = let e = ap cell_count none in omega (arith, e, same);
}

-- what was kept of tables of rising numbers of cells, of which one more was kept
module _ (ts : List CostTable) (room : ℕ) (t : CostTable) (old new : Kept) (before : IsKeptOf room ts old) where
  abbrev closed : List CostTable
  closed = before.are.closed

  abbrev large : List CostTable
  large = before.are.large

  abbrev sent : List CostTable
  sent = old.sent.items

  kept_whole : All (λ s. length s.cells ≤ length t.cells) ts → IsKeptWhole old t new → IsKeptOf room (ts ++ t ∷ []) new
  kept_whole rising now =
      let sum = before.are.sum in
      let many = before.are.many in
      let left = before.left in
      let fits = now.fits in
      let count : cell_count new.sent.items ≡ cell_count sent + length t.cells = ap cell_count now.sent ∙ count_more sent t in
      let order : IsPermutation (ts ++ t ∷ []) (closed ++ large ++ (sent ++ t ∷ [])) =
      subst (λ (us : List CostTable). IsPermutation (ts ++ t ∷ []) us) (append_assoc (closed ++ large) sent (t ∷ []))
      (IsPermutation-push_more ts (closed ++ large ++ sent) ((closed ++ large ++ sent) ++ t ∷ []) t before.are.each (IsPermutation-sym ((closed ++ large ++ sent) ++ t ∷ []) (t ∷ (closed ++ large ++ sent)) (IsPermutation-to_front (closed ++ large ++ sent) t))) in
      let small = (all_both (λ (s : CostTable). length s.cells ≤ length t.cells) closed large (all_both (λ (s : CostTable). length s.cells ≤ length t.cells) (closed ++ large) sent (All-permutation (λ (s : CostTable). length s.cells ≤ length t.cells) ts (closed ++ large ++ sent) before.are.each rising)).0).1 in
      record {
        are = record {
          closed = closed;
          large = large;
          each = subst (λ (us : List CostTable). IsPermutation (ts ++ t ∷ []) (closed ++ large ++ us)) (sym now.sent) order;
          plain = before.are.plain;
          named =
              let both = all_both (λ (t : CostTable). 1 ≤ length t.scope) large sent before.are.named in
              subst (λ (us : List CostTable). All (λ t. 1 ≤ length t.scope) (large ++ us)) (sym now.sent)
              (All-append (λ (t : CostTable). 1 ≤ length t.scope) large (sent ++ t ∷ []) both.0
              (All-append (λ (t : CostTable). 1 ≤ length t.scope) sent (t ∷ []) both.1 (All-cons (λ (t : CostTable). 1 ≤ length t.scope) t [] now.named (All-nil (λ (t : CostTable). 1 ≤ length t.scope)))));
          sum = now.fixed ∙ sum;
          many = now.replaced ∙ many;
          largest = λ k d lt.
              let full = before.are.full k d lt in
              let low = small k d lt in
              absurd (omega (arith, full, low, left, fits));
          full = λ k d lt. (let full = before.are.full k d lt in omega (arith, full, count));
        };
        left = omega (arith, count, left, fits, now.room);
      }

  kept_least : All (λ s. length s.cells ≤ length t.cells) ts → length ts < count_limit → IsKeptLeast old t new → IsKeptOf room (ts ++ t ∷ []) new
  kept_least rising short now =
      let sum = before.are.sum in
      let many = before.are.many in
      let left = before.left in
      let fixed = now.fixed in
      let left_now : cell_count new.sent.items + new.room ≡ room = (let count = ap cell_count now.sent in omega (arith, count, left, now.room)) in
      elim now.why [
        | inl plain ↦ record {
          are = subst (λ (us : List CostTable). AreProjectionsKept room (ts ++ t ∷ []) us new.fixed new.replaced) (sym now.sent) (record {
            closed = t ∷ closed;
            large = large;
            each = IsPermutation-push_more ts (closed ++ large ++ sent) (t ∷ (closed ++ large ++ sent)) t before.are.each (IsPermutation-refl (t ∷ (closed ++ large ++ sent)));
            plain = All-cons (λ (t : CostTable). t.scope ≡ []) t closed plain.0 before.are.plain;
            named = before.are.named;
            sum = (let one = sum_by-cons (λ (t : CostTable). least t.cells) t closed in omega (arith, one, sum, fixed));
            many = plain.1 ∙ many;
            largest = before.are.largest;
            full = before.are.full;
          });
          left = left_now;
        }
        | inr wide ↦
            let high = wide.1 in
            let next = wide.2 in
            let size : length large ≤ length ts =
            (let all = length_permutation ts (closed ++ large ++ sent) before.are.each in
            let outer = length-append (closed ++ large) sent in
            let inner = length-append closed large in
            omega (arith, all, outer, inner)) in
            let small = (all_both (λ (s : CostTable). length s.cells ≤ length t.cells) (closed ++ large) sent (All-permutation (λ (s : CostTable). length s.cells ≤ length t.cells) ts (closed ++ large ++ sent) before.are.each rising)).1 in
            let order : IsPermutation (t ∷ (closed ++ large ++ sent)) ((closed ++ (t ∷ large)) ++ sent) =
            IsPermutation-append_left sent (t ∷ (closed ++ large)) (closed ++ (t ∷ large)) (IsPermutation-sym (closed ++ (t ∷ large)) (t ∷ (closed ++ large)) (IsPermutation-middle closed t large)) in
            record {
              are = subst (λ (us : List CostTable). AreProjectionsKept room (ts ++ t ∷ []) us new.fixed new.replaced) (sym now.sent) (record {
                closed = closed;
                large = t ∷ large;
                each = IsPermutation-push_more ts (closed ++ large ++ sent) ((closed ++ (t ∷ large)) ++ sent) t before.are.each order;
                plain = before.are.plain;
                named = All-cons (λ (t : CostTable). 1 ≤ length t.scope) t (large ++ sent) wide.0 before.are.named;
                sum = (let one = sum_by-cons (λ (t : CostTable). least t.cells) t large in omega (arith, one, sum, fixed));
                many = omega (arith, next, many, size, short);
                largest = All-cons (λ (t : CostTable). All (λ s. length s.cells ≤ length t.cells) sent) t large small before.are.largest;
                full = All-cons (λ (t : CostTable). room < cell_count sent + length t.cells) t large (omega (arith, high, left)) before.are.full;
              });
              left = left_now;
            }
      ]

  kept_one : All (λ s. length s.cells ≤ length t.cells) ts → length ts < count_limit → IsTableKept old t new → IsKeptOf room (ts ++ t ∷ []) new
  kept_one rising short now = elim now [ inl whole ↦ kept_whole rising whole | inr least ↦ kept_least rising short least ]

pub kept_more : (ts : List CostTable) (k room : ℕ) (t : CostTable) (old new : Kept) → k < length ts → length ts ≤ count_limit → t ≡ get_or ts k t → All (λ s. length s.cells ≤ length t.cells) (take k ts) → IsKeptOf room (take k ts) old → IsTableKept old t new → IsKeptOf room (take (k + 1) ts) new
kept_more ts k room t old new lt short is rising before now =
    let more : take (k + 1) ts ≡ take k ts ++ t ∷ [] = take_more ts k t lt ∙ ap (λ (u : CostTable). take k ts ++ u ∷ []) (sym is) in
    let count = length-take-le k ts (omega (arith, lt)) in
    subst (λ (us : List CostTable). IsKeptOf room us new) (sym more) (kept_one (take k ts) room t old new before rising (omega (arith, count, lt, short)) now)

-- the three ways to keep a table
pub some_of : (n : ℕ) → eqb n 0 ≡ false → 1 ≤ n
some_of n other = elim (cases_eq n 0) [ inl e ↦ absurd (true≢false (sym (eq-eqb n 0 e) ∙ other)) | inr some ↦ omega (arith, some) ]

pub keeps_closed : (old : Kept) (t : CostTable) (n fixed : ℕ) → fixed ≡ min (old.fixed + n) count_limit → n ≡ least t.cells → t.scope ≡ [] → IsTableKept old t (record { sent = old.sent; fixed = fixed; replaced = old.replaced; room = old.room })
keeps_closed old t n fixed adds is plain = inr (record { sent = refl; fixed = adds ∙ ap (λ (m : ℕ). min (old.fixed + m) count_limit) is; room = refl; why = inl (plain, refl) })

pub keeps_least : (old : Kept) (t : CostTable) (n fixed replaced : ℕ) → fixed ≡ min (old.fixed + n) count_limit → n ≡ least t.cells → 1 ≤ length t.scope → old.room < length t.cells → replaced ≡ min (old.replaced + 1) count_limit → IsTableKept old t (record { sent = old.sent; fixed = fixed; replaced = replaced; room = old.room })
keeps_least old t n fixed replaced adds is named full more = inr (record { sent = refl; fixed = adds ∙ ap (λ (m : ℕ). min (old.fixed + m) count_limit) is; room = refl; why = inr (named, full, more) })

pub keeps_table : (old new : Kept) (t copy : CostTable) → copy ≡ t → 1 ≤ length t.scope → new.sent.items ≡ old.sent.items ++ copy ∷ [] → length t.cells ≤ old.room → new.room ≡ old.room - length t.cells → new.fixed ≡ old.fixed → new.replaced ≡ old.replaced → IsTableKept old t new
keeps_table old new t copy same named sent fits room fixed replaced = inl (record {
  named = named;
  sent = sent ∙ ap (λ (u : CostTable). old.sent.items ++ u ∷ []) same;
  fixed = fixed;
  replaced = replaced;
  fits = fits;
  room = room;
})

-- what was kept of tables in another order
pub kept_order : (room : ℕ) (projections ordered sent : List CostTable) (fixed replaced : ℕ) → IsPermutation projections ordered → AreProjectionsKept room ordered sent fixed replaced → AreProjectionsKept room projections sent fixed replaced
kept_order room projections ordered sent fixed replaced order are = record {
  closed = are.closed;
  large = are.large;
  each = IsPermutation-trans projections ordered (are.closed ++ are.large ++ sent) order are.each;
  plain = are.plain;
  named = are.named;
  sum = are.sum;
  many = are.many;
  largest = are.largest;
  full = are.full;
}
