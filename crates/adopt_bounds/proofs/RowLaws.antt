-- Rows that a list of entries is cut into.
use Rattle.std.proofs.Common.{◌≡◌, ℕ, zero, suc, ◌+◌, ◌*◌, ◌-◌, ◌<◌, ◌≤◌, List, [], ◌∷◌, true, false, Option, Some, None, ◌==◌, length, get_or, set, take, drop, replicate, refl, sym, ap, ◌∙◌, arith}
use Rattle.std.specs.List.{All, position}
use Rattle.std.proofs.lemmas.Bool.{false≢true}
use Rattle.std.proofs.lemmas.List.{drop-drop, take-take, drop-take, get_or-take, get_or-drop, take-set-le, drop-set-lt, drop-set-add, take-replicate, drop-replicate}
use Rattle.std.proofs.lemmas.List.Elements.{All-head, All-tail}
use Rattle.std.proofs.lemmas.List.Quantifiers.{position-Some}
use Rattle.dcop_base.specs.Table.{has}
use Rattle.dcop_base.proofs.FaultLaws.{position-none}
use Rattle.adopt_context.specs.Context.{or_zero}
use Rattle.adopt_context.specs.Bounds.{Entry, blank, row_at, entry_at}
use Rattle.adopt_context.specs.Merge.{put_entry}
use Rattle.adopt_bounds.specs.Rows.{place_of, rows_of}

pub rows_length : (n w : ℕ) (es : List Entry) → length (rows_of n w es) ≡ n
rows_length zero w es = refl
rows_length (suc n) w es = ap suc (rows_length n w (drop w es))

-- the places of row suc d
next_row : (d w : ℕ) → suc d * w ≡ w + d * w
next_row d w = omega arith

-- the row of a value
pub row_is : (n w d : ℕ) (es : List Entry) → d < n → row_at (rows_of n w es) d ≡ take w (drop (d * w) es)
row_is zero w d es h = absurd (omega (arith, h))
row_is (suc n) w zero es h = let none : zero * w ≡ 0 = omega arith in ap (λ i. take w (drop i es)) (sym none)
row_is (suc n) w (suc d) es h =
    row_is n w d (drop w es) (omega (arith, h))
    ∙ ap (λ (xs : List Entry). take w xs) (drop-drop (d * w) w es ∙ ap (λ i. drop i es) (sym (next_row d w)))

-- the entry of a value and a place
pub entry_at_is : (n w d k : ℕ) (es : List Entry) → d < n → k < w → entry_at (rows_of n w es) d k ≡ get_or es (d * w + k) blank
entry_at_is n w d k es h inside =
    ap (λ (row : List Entry). get_or row k blank) (row_is n w d es h)
    ∙ get_or-take w (drop (d * w) es) k blank inside
    ∙ get_or-drop (d * w) es k blank

-- rows that are the same but for one
pub rows_with : (n w d : ℕ) (old new row : List Entry) → d < n → take (d * w) new ≡ take (d * w) old → take w (drop (d * w) new) ≡ row → drop (d * w + w) new ≡ drop (d * w + w) old
    → rows_of n w new ≡ set (rows_of n w old) d row
rows_with zero w d old new row h before here behind = absurd (omega (arith, h))
rows_with (suc n) w zero old new row h before here behind =
    let none : zero * w ≡ 0 = omega arith in
    let all : zero * w + w ≡ w = omega arith in
    let front : take w new ≡ row = ap (λ i. take w (drop i new)) (sym none) ∙ here in
    let rest : drop w new ≡ drop w old = ap (λ i. drop i new) (sym all) ∙ behind ∙ ap (λ i. drop i old) all in
    ap (λ (r : List Entry). r ∷ rows_of n w (drop w new)) front ∙ ap (λ (r : List Entry). row ∷ rows_of n w r) rest
rows_with (suc n) w (suc d) old new row h before here behind =
    let to : suc d * w ≡ w + d * w = next_row d w in
    let over : suc d * w + w ≡ w + (d * w + w) = omega arith in
    let upto : take (w + d * w) new ≡ take (w + d * w) old = ap (λ i. take i new) (sym to) ∙ before ∙ ap (λ i. take i old) to in
    let front : take w new ≡ take w old =
    sym (take-take w (w + d * w) new (omega arith)) ∙ ap (λ (xs : List Entry). take w xs) upto ∙ take-take w (w + d * w) old (omega arith) in
    let mid : take (d * w) (drop w new) ≡ take (d * w) (drop w old) =
    sym (drop-take w (d * w) new) ∙ ap (λ (xs : List Entry). drop w xs) upto ∙ drop-take w (d * w) old in
    let at : take w (drop (d * w) (drop w new)) ≡ row =
    ap (λ (xs : List Entry). take w xs) (drop-drop (d * w) w new) ∙ ap (λ i. take w (drop i new)) (sym to) ∙ here in
    let rest : drop (d * w + w) (drop w new) ≡ drop (d * w + w) (drop w old) =
    drop-drop (d * w + w) w new ∙ ap (λ i. drop i new) (sym over) ∙ behind ∙ ap (λ i. drop i old) over ∙ sym (drop-drop (d * w + w) w old) in
    ap (λ (r : List Entry). r ∷ rows_of n w (drop w new)) front
    ∙ ap (λ (rs : List (List Entry)). take w old ∷ rs) (rows_with n w d (drop w old) (drop w new) row (omega (arith, h)) mid at rest)

-- a write within the first elements
take_set : {X : Type 0} (n : ℕ) (xs : List X) (k : ℕ) (x : X) → k < n → take n (set xs k x) ≡ set (take n xs) k x
take_set zero xs k x h = absurd (omega (arith, h))
take_set (suc n) [] k x h = refl
take_set (suc n) (y ∷ ys) zero x h = refl
take_set (suc n) (y ∷ ys) (suc k) x h = ap (λ zs. y ∷ zs) (take_set n ys k x (omega (arith, h)))

-- an entry that is written
pub rows_put : (n w d k : ℕ) (es : List Entry) (e : Entry) → d < n → k < w → rows_of n w (set es (d * w + k) e) ≡ put_entry (rows_of n w es) d k e
rows_put n w d k es e h inside =
    rows_with n w d es (set es (d * w + k) e) (set (row_at (rows_of n w es) d) k e) h
    (take-set-le (d * w) es (d * w + k) e (omega arith))
    (ap (λ (xs : List Entry). take w xs) (drop-set-add (d * w) es k e)
    ∙ take_set w (drop (d * w) es) k e inside
    ∙ ap (λ (row : List Entry). set row k e) (sym (row_is n w d es h)))
    (drop-set-lt (d * w + w) es (d * w + k) e (omega (arith, inside)))

-- rows of one entry
pub rows_same : (n w count : ℕ) (e : Entry) → count ≡ n * w → rows_of n w (replicate count e) ≡ replicate n (replicate w e)
rows_same zero w count e h = refl
rows_same (suc n) w count e h =
    let enough : w ≤ count = omega (arith, h, next_row n w) in
    let left : count - w ≡ n * w = omega (arith, h, next_row n w) in
    ap (λ (row : List Entry). row ∷ rows_of n w (drop w (replicate count e))) (take-replicate w count e enough)
    ∙ ap (λ (xs : List Entry). replicate w e ∷ rows_of n w xs) (drop-replicate w count e)
    ∙ ap (λ (rs : List (List Entry)). replicate w e ∷ rs) (rows_same n w (count - w) e left)

-- no child is this one
any_of_none : (j : ℕ) (xs : List ℕ) → All (λ x. (x == j) ≡ false) xs → has xs j ≡ false
any_of_none j [] all = refl
any_of_none j (x ∷ xs) all =
    rw (All-head (λ y. (y == j) ≡ false) x xs all, any_of_none j xs (All-tail (λ y. (y == j) ≡ false) x xs all)) refl

-- a child's place is one of a row's
pub place_within : (children : List ℕ) (j : ℕ) → has children j ≡ true → place_of children j < length children
place_within children j h = go (position (λ child. child == j) children) refl
  where
    go : (o : Option ℕ) → position (λ child. child == j) children ≡ o → or_zero o < length children
    go None e = absurd (false≢true (sym (any_of_none j children (position-none (λ child. child == j) children e)) ∙ h))
    go (Some k) e = (position-Some (λ child. child == j) children k 0 e).0
