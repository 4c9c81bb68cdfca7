-- Laws of slices: their parts are a table's.
use Rattle.std.proofs.Common.{◌≡◌, ℕ, zero, suc, ◌<◌, ◌≤◌, false, not, ◌||◌, eqb, ltb, List, [], ◌∷◌, None, length, get_or, take, drop, refl, arith}
use Rattle.std.specs.List.{All, list_any, remove}
use Rattle.std.proofs.lemmas.List.Edits.{length-remove}
use Rattle.std.proofs.lemmas.List.Folds.{list_any_none}
use Rattle.std.proofs.lemmas.List.Elements.{All-append, All-take, All-drop}
use Rattle.std.proofs.lemmas.Bool.{or_parts, or_from, ne_eqb, eq-eqb, le-ltb, not_from_true}
use Rattle.dcop_base.specs.Table.{product, has, has_repeat, table_fault}
use Rattle.dcop_base.specs.Limits.{amount_limit}
use Rattle.dcop_base.proofs.TableLaws.{AreParts, parts-of}

-- nothing is wrong with a table of which the parts are right
pub faultless : (scope sizes cells : List ℕ) → AreParts scope sizes cells → table_fault scope sizes cells ≡ None
faultless scope sizes cells parts =
    let sized : not (eqb (length sizes) (length scope)) || list_any (λ s. eqb s 0) sizes ≡ false =
    or_from _ _ (not_from_true _ (eq-eqb _ _ parts.sized)) (list_any_none (λ s. eqb s 0) sizes (λ k d h. ne_eqb (get_or sizes k d) 0 (λ e. absurd (omega (arith, e, parts.positive k d h))))) in
    let full : not (eqb (length cells) (product sizes)) ≡ false = not_from_true _ (eq-eqb _ _ parts.full) in
    let small : list_any (λ c. ltb amount_limit c) cells ≡ false = list_any_none (λ c. ltb amount_limit c) cells (λ k d h. le-ltb amount_limit (get_or cells k d) (parts.small k d h)) in
    rw (parts.apart, sized, full, small) refl

-- without one of its items
pub All-remove : {X : Type 0} (P : X → Type 0) (xs : List X) (k : ℕ) → All P xs → All P (remove xs k)
All-remove P xs k all = All-append P (take k xs) (drop (suc k) xs) (All-take P k xs all) (All-drop P (suc k) xs all)

pub has-remove : (xs : List ℕ) (k x : ℕ) → has xs x ≡ false → has (remove xs k) x ≡ false
has-remove [] zero x e = refl
has-remove [] (suc k) x e = refl
has-remove (y ∷ ys) zero x e = (or_parts (eqb y x) (has ys x) e).1
has-remove (y ∷ ys) (suc k) x e =
    let both = or_parts (eqb y x) (has ys x) e in
    or_from (eqb y x) (has (remove ys k) x) both.0 (has-remove ys k x both.1)

pub apart-remove : (xs : List ℕ) (k : ℕ) → has_repeat xs ≡ false → has_repeat (remove xs k) ≡ false
apart-remove [] zero e = refl
apart-remove [] (suc k) e = refl
apart-remove (x ∷ xs) zero e = (or_parts (has xs x) (has_repeat xs) e).1
apart-remove (x ∷ xs) (suc k) e =
    let both = or_parts (has xs x) (has_repeat xs) e in
    or_from (has (remove xs k) x) (has_repeat (remove xs k)) (has-remove xs k x both.0) (apart-remove xs k both.1)

-- the parts of a table without one of its variables, with as many cells as that has and none above a bound of the old ones
pub slice-parts : (scope sizes cells : List ℕ) (k : ℕ) (kept : List ℕ) → k < length sizes → table_fault scope sizes cells ≡ None → length kept ≡ product (remove sizes k) → ((bound : ℕ) → All (λ c. c ≤ bound) cells → All (λ c. c ≤ bound) kept) → table_fault (remove scope k) (remove sizes k) kept ≡ None
slice-parts scope sizes cells k kept lt e count within =
    let parts = parts-of scope sizes cells e in
    let scope-lt : k < length scope = omega (arith, lt, parts.sized) in
    faultless (remove scope k) (remove sizes k) kept (record {
      apart = apart-remove scope k parts.apart;
      sized = omega (arith, parts.sized, length-remove sizes k lt, length-remove scope k scope-lt);
      positive = All-remove (λ s. 1 ≤ s) sizes k parts.positive;
      full = count;
      small = within amount_limit parts.small;
    })
