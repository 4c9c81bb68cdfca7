-- The row of an own value in flat lists of bounds, and the entry of a value and a child.
use Rattle.std.proofs.Common.{◌≡◌, ℕ, zero, suc, ◌+◌, ◌-◌, ◌*◌, ◌<◌, ◌≤◌, List, [], ◌∷◌, Option, Some, None, length, get_or, set, take, drop, map, max, replicate, refl, sym, ap, subst, ◌∙◌, arith}
use Rattle.std.specs.Prelude.{IfSome}
use Rattle.std.specs.List.{All, sum_by}
use Rattle.std.proofs.lemmas.List.{length-set, get_or-map, map-set, length-take, length-drop, length-replicate}
use Rattle.std.proofs.lemmas.List.Elements.{All-replicate, All-get_or}
use Rattle.std.proofs.lemmas.List.Sums.{sum_by-cons}
use Rattle.std.proofs.lemmas.Nat.{mul-le}
use Rattle.dcop_base.specs.Limits.{amount_limit}
use Rattle.adopt_context.specs.Allot.{allot}
use Rattle.adopt_context.specs.Bounds.{Entry, blank, row_at, entry_at}
use Rattle.adopt_context.specs.Context.{Context, or_zero}
use Rattle.adopt_context.specs.Merge.{lesser, merged, put_entry}
use Rattle.adopt_bounds.specs.Rows.{BoundsView, entries_of, rows_of}
use Rattle.adopt_bounds.specs.Totals.{AreBounds, AreEntryParts, missing_of, totals_of}
use Rattle.adopt_bounds.specs.declared.totals.Totals.{Totals}
use Rattle.adopt_bounds.proofs.BoundsLaws.{parts_take, parts_drop}
use Rattle.adopt_bounds.proofs.EntryLaws.{entries_take, entries_drop, entries_set, entries_blank}
use Rattle.adopt_bounds.proofs.ForgetLaws.{parts_length, part_is, parts_set, room_of}
use Rattle.adopt_bounds.proofs.RowLaws.{rows_length, row_is, entry_at_is, rows_put, rows_with, rows_same}
use Rattle.adopt_bounds.proofs.ShareLaws.{raised_below}
use Rattle.adopt_bounds.proofs.TotalLaws.{HasRoom, HoldsEntry, same_totals, totals_after, totals_hold}

-- the row of a value lies within the lists
pub row_fits : (n w d : ℕ) → d < n → d * w + w ≤ n * w
row_fits n w d h = let most : suc d * w ≤ n * w = mul-le (suc d) w n w (omega (arith, h)) (omega arith) in omega (arith, most)

pub place_fits : (n w d k : ℕ) → d < n → k < w → d * w + k < n * w
place_fits n w d k h inside = let most = row_fits n w d h in omega (arith, most, inside)

-- the parts of a row
pub row_parts : (n w d : ℕ) (ls : List ℕ) (us : List (Option ℕ)) (ss : List ℕ) (cs : List Context) → AreEntryParts (n * w) ls us ss cs → d < n
    → AreEntryParts w (take w (drop (d * w) ls)) (take w (drop (d * w) us)) (take w (drop (d * w) ss)) (take w (drop (d * w) cs))
row_parts n w d ls us ss cs p h =
    let most = row_fits n w d h in
    parts_take (n * w - d * w) w (drop (d * w) ls) (drop (d * w) us) (drop (d * w) ss) (drop (d * w) cs)
    (parts_drop (n * w) (d * w) (n * w - d * w) ls us ss cs p (omega (arith, most))) (omega (arith, most))

-- the entries of a row
pub row_entries : (n w d : ℕ) (ls : List ℕ) (us : List (Option ℕ)) (ss : List ℕ) (cs : List Context) → d < n
    → row_at (rows_of n w (entries_of ls us ss cs)) d ≡ entries_of (take w (drop (d * w) ls)) (take w (drop (d * w) us)) (take w (drop (d * w) ss)) (take w (drop (d * w) cs))
row_entries n w d ls us ss cs h =
    row_is n w d (entries_of ls us ss cs) h
    ∙ ap (λ (es : List Entry). take w es) (entries_drop (d * w) ls us ss cs)
    ∙ entries_take w (drop (d * w) ls) (drop (d * w) us) (drop (d * w) ss) (drop (d * w) cs)

-- the totals of a row
pub row_totals : (w d : ℕ) (ls : List ℕ) (us : List (Option ℕ)) (ss : List ℕ) (cs : List Context) (ts : List Totals) (t : Totals) → AreBounds w ls us ss cs ts → d < length ts
    → get_or ts d t ≡ totals_of (row_at (rows_of (length ts) w (entries_of ls us ss cs)) d)
row_totals w d ls us ss cs ts t b h =
    let rows = rows_of (length ts) w (entries_of ls us ss cs) in
    let inside : d < length rows = rw (rows_length (length ts) w (entries_of ls us ss cs)) h in
    ap (λ (xs : List Totals). get_or xs d t) b.right ∙ get_or-map totals_of rows d [] t inside

-- the totals of a row are within so many caps
pub row_room : (w d : ℕ) (ls : List ℕ) (us : List (Option ℕ)) (ss : List ℕ) (cs : List Context) (ts : List Totals) (t : Totals) → AreBounds w ls us ss cs ts → d < length ts → HasRoom (get_or ts d t) w
row_room w d ls us ss cs ts t b h =
    room_of w (take w (drop (d * w) ls)) (take w (drop (d * w) us)) (take w (drop (d * w) ss)) (take w (drop (d * w) cs)) (get_or ts d t)
    (row_parts (length ts) w d ls us ss cs b.parts h)
    (row_totals w d ls us ss cs ts t b h ∙ ap (λ (es : List Entry). totals_of es) (row_entries (length ts) w d ls us ss cs h))

-- there are as many entries in a row as there are children
pub row_width : (w d : ℕ) (ls : List ℕ) (us : List (Option ℕ)) (ss : List ℕ) (cs : List Context) (ts : List Totals) → AreBounds w ls us ss cs ts → d < length ts
    → length (row_at (rows_of (length ts) w (entries_of ls us ss cs)) d) ≡ w
row_width w d ls us ss cs ts b h =
    ap (λ (es : List Entry). length es) (row_entries (length ts) w d ls us ss cs h)
    ∙ parts_length w (take w (drop (d * w) ls)) (take w (drop (d * w) us)) (take w (drop (d * w) ss)) (take w (drop (d * w) cs)) (row_parts (length ts) w d ls us ss cs b.parts h)

-- the entry of a value and a place
pub entry_parts : (n w d k i : ℕ) (ls : List ℕ) (us : List (Option ℕ)) (ss : List ℕ) (cs : List Context) (l : ℕ) (u : Option ℕ) (s : ℕ) (c : Context) → AreEntryParts (n * w) ls us ss cs → d < n → k < w → i ≡ d * w + k
    → entry_at (rows_of n w (entries_of ls us ss cs)) d k ≡ record { lower = get_or ls i l; upper = get_or us i u; share = get_or ss i s; context = get_or cs i c }
entry_parts n w d k i ls us ss cs l u s c p h inside is =
    let within : i < n * w = rw is (place_fits n w d k h inside) in
    entry_at_is n w d k (entries_of ls us ss cs) h inside
    ∙ ap (λ j. get_or (entries_of ls us ss cs) j blank) (sym is)
    ∙ part_is (n * w) ls us ss cs i l u s c p within

-- the rows, with an entry written
pub put_rows : (n w d k i : ℕ) (ls : List ℕ) (us : List (Option ℕ)) (ss : List ℕ) (cs : List Context) (e : Entry) → d < n → k < w → i ≡ d * w + k
    → rows_of n w (entries_of (set ls i e.lower) (set us i e.upper) (set ss i e.share) (set cs i e.context)) ≡ put_entry (rows_of n w (entries_of ls us ss cs)) d k e
put_rows n w d k i ls us ss cs e h inside is =
    ap (λ (es : List Entry). rows_of n w es) (entries_set ls us ss cs i e.lower e.upper e.share e.context)
    ∙ ap (λ j. rows_of n w (set (entries_of ls us ss cs) j e)) is
    ∙ rows_put n w d k (entries_of ls us ss cs) e h inside

-- the bounds, with an entry written and the totals of its row
pub put_bounds : (w d k i : ℕ) (ls : List ℕ) (us : List (Option ℕ)) (ss : List ℕ) (cs : List Context) (ts : List Totals) (e : Entry) (t : Totals) → AreBounds w ls us ss cs ts → d < length ts → k < w → i ≡ d * w + k
    → e.lower ≤ amount_limit → IfSome e.upper (λ x. x ≤ amount_limit) → e.share ≤ amount_limit
    → t ≡ totals_of (set (row_at (rows_of (length ts) w (entries_of ls us ss cs)) d) k e)
    → AreBounds w (set ls i e.lower) (set us i e.upper) (set ss i e.share) (set cs i e.context) (set ts d t)
put_bounds w d k i ls us ss cs ts e t b h inside is low high share right =
    let n = length ts in
    let rows = rows_of n w (entries_of ls us ss cs) in
    let long : length (set ts d t) ≡ n = length-set ts d t in
    record {
      parts = subst (λ m. AreEntryParts (m * w) (set ls i e.lower) (set us i e.upper) (set ss i e.share) (set cs i e.context)) (sym long) (parts_set (n * w) ls us ss cs i e.lower e.upper e.share e.context b.parts low high share);
      right =
          ap (λ (xs : List Totals). set xs d t) b.right
          ∙ ap (λ (x : Totals). set (map totals_of rows) d x) right
          ∙ sym (map-set totals_of rows d (set (row_at rows d) k e))
          ∙ ap (λ (rs : List (List Entry)). map totals_of rs) (sym (put_rows n w d k i ls us ss cs e h inside is))
          ∙ ap (λ m. map totals_of (rows_of m w (entries_of (set ls i e.lower) (set us i e.upper) (set ss i e.share) (set cs i e.context)))) (sym long);
    }

-- what does not rest on the shares of entries sums to the same
sum_same : (f : Entry → ℕ) → ((l : ℕ) (u : Option ℕ) (s s' : ℕ) (c : Context) → f (record { lower = l; upper = u; share = s; context = c }) ≡ f (record { lower = l; upper = u; share = s'; context = c }))
    → (ls : List ℕ) (us : List (Option ℕ)) (ss ss' : List ℕ) (cs : List Context) → length ss ≡ length ss' → sum_by f (entries_of ls us ss cs) ≡ sum_by f (entries_of ls us ss' cs)
sum_same f same [] us ss ss' cs h = refl
sum_same f same (l ∷ ls) [] ss ss' cs h = refl
sum_same f same (l ∷ ls) (u ∷ us) [] [] cs h = refl
sum_same f same (l ∷ ls) (u ∷ us) [] (s' ∷ ss') cs h = absurd (omega (arith, h))
sum_same f same (l ∷ ls) (u ∷ us) (s ∷ ss) [] cs h = absurd (omega (arith, h))
sum_same f same (l ∷ ls) (u ∷ us) (s ∷ ss) (s' ∷ ss') [] h = refl
sum_same f same (l ∷ ls) (u ∷ us) (s ∷ ss) (s' ∷ ss') (c ∷ cs) h =
    let old : Entry = record { lower = l; upper = u; share = s; context = c } in
    let new : Entry = record { lower = l; upper = u; share = s'; context = c } in
    sum_by-cons f old (entries_of ls us ss cs)
    ∙ ap (λ n. n + sum_by f (entries_of ls us ss cs)) (same l u s s' c)
    ∙ ap (λ n. f new + n) (sum_same f same ls us ss ss' cs (omega (arith, h)))
    ∙ sym (sum_by-cons f new (entries_of ls us ss' cs))

-- the totals of entries do not rest on their shares
totals_same : (ls : List ℕ) (us : List (Option ℕ)) (ss ss' : List ℕ) (cs : List Context) → length ss ≡ length ss' → totals_of (entries_of ls us ss cs) ≡ totals_of (entries_of ls us ss' cs)
totals_same ls us ss ss' cs h =
    same_totals (totals_of (entries_of ls us ss cs)) (totals_of (entries_of ls us ss' cs))
    (sum_same (λ e. e.lower) (λ l u s s' c. refl) ls us ss ss' cs h)
    (sum_same (λ e. or_zero e.upper) (λ l u s s' c. refl) ls us ss ss' cs h)
    (sum_same (λ e. missing_of e.upper) (λ l u s s' c. refl) ls us ss ss' cs h)

-- and no more do those of rows
rows_totals_same : (n w : ℕ) (ls : List ℕ) (us : List (Option ℕ)) (ss ss' : List ℕ) (cs : List Context) → length ss ≡ length ss'
    → map totals_of (rows_of n w (entries_of ls us ss cs)) ≡ map totals_of (rows_of n w (entries_of ls us ss' cs))
rows_totals_same zero w ls us ss ss' cs h = refl
rows_totals_same (suc n) w ls us ss ss' cs h =
    let front : length (take w ss) ≡ length (take w ss') = omega (arith, length-take w ss, length-take w ss', h) in
    let rest : length (drop w ss) ≡ length (drop w ss') = omega (arith, length-drop w ss, length-drop w ss', h) in
    let first : totals_of (take w (entries_of ls us ss cs)) ≡ totals_of (take w (entries_of ls us ss' cs)) =
    ap (λ (es : List Entry). totals_of es) (entries_take w ls us ss cs)
    ∙ totals_same (take w ls) (take w us) (take w ss) (take w ss') (take w cs) front
    ∙ ap (λ (es : List Entry). totals_of es) (sym (entries_take w ls us ss' cs)) in
    let others : map totals_of (rows_of n w (drop w (entries_of ls us ss cs))) ≡ map totals_of (rows_of n w (drop w (entries_of ls us ss' cs))) =
    ap (λ (es : List Entry). map totals_of (rows_of n w es)) (entries_drop w ls us ss cs)
    ∙ rows_totals_same n w (drop w ls) (drop w us) (drop w ss) (drop w ss') (drop w cs) rest
    ∙ ap (λ (es : List Entry). map totals_of (rows_of n w es)) (sym (entries_drop w ls us ss' cs)) in
    ap (λ (x : Totals). x ∷ map totals_of (rows_of n w (drop w (entries_of ls us ss cs)))) first
    ∙ ap (λ (xs : List Totals). totals_of (take w (entries_of ls us ss' cs)) ∷ xs) others

-- bounds with other shares are bounds
pub share_bounds : (w : ℕ) (ls : List ℕ) (us : List (Option ℕ)) (ss ss' : List ℕ) (cs : List Context) (ts : List Totals) → AreBounds w ls us ss cs ts → length ss' ≡ length ss → All (λ s. s ≤ amount_limit) ss'
    → AreBounds w ls us ss' cs ts
share_bounds w ls us ss ss' cs ts b long within = record {
  parts = record {
    lower_count = b.parts.lower_count;
    upper_count = b.parts.upper_count;
    share_count = long ∙ b.parts.share_count;
    context_count = b.parts.context_count;
    lower_within = b.parts.lower_within;
    upper_within = b.parts.upper_within;
    share_within = within;
  };
  right = b.right ∙ rows_totals_same (length ts) w ls us ss ss' cs (sym long);
}

-- the rows, with the shares of one allotted
pub allot_rows : (n w d goal : ℕ) (ls : List ℕ) (us : List (Option ℕ)) (ss ss' : List ℕ) (cs : List Context) → d < n → take (d * w) ss' ≡ take (d * w) ss → drop (d * w + w) ss' ≡ drop (d * w + w) ss
    → entries_of (take w (drop (d * w) ls)) (take w (drop (d * w) us)) (take w (drop (d * w) ss')) (take w (drop (d * w) cs))
    ≡ allot goal (entries_of (take w (drop (d * w) ls)) (take w (drop (d * w) us)) (take w (drop (d * w) ss)) (take w (drop (d * w) cs)))
    → rows_of n w (entries_of ls us ss' cs) ≡ set (rows_of n w (entries_of ls us ss cs)) d (allot goal (row_at (rows_of n w (entries_of ls us ss cs)) d))
allot_rows n w d goal ls us ss ss' cs h before behind row =
    let old = entries_of ls us ss cs in
    let new = entries_of ls us ss' cs in
    let i = d * w in
    let j = d * w + w in
    rows_with n w d old new (allot goal (row_at (rows_of n w old) d)) h
    (entries_take i ls us ss' cs ∙ ap (λ (xs : List ℕ). entries_of (take i ls) (take i us) xs (take i cs)) before ∙ sym (entries_take i ls us ss cs))
    (sym (row_is n w d new h) ∙ row_entries n w d ls us ss' cs h ∙ row ∙ ap (λ (es : List Entry). allot goal es) (sym (row_entries n w d ls us ss cs h)))
    (entries_drop j ls us ss' cs ∙ ap (λ (xs : List ℕ). entries_of (drop j ls) (drop j us) xs (drop j cs)) behind ∙ sym (entries_drop j ls us ss cs))

-- a value of the rows that contracts see has a row in the lists
pub seen_value : (n w d : ℕ) (es : List Entry) (rows : List (List Entry)) → rows_of n w es ≡ rows → d < length rows → d < n
seen_value n w d es rows is h = let same : length rows ≡ n = ap (λ (rs : List (List Entry)). length rs) (sym is) ∙ rows_length n w es in omega (arith, same, h)

-- and there are totals of it
pub seen_totals : (w d i : ℕ) (ls : List ℕ) (us : List (Option ℕ)) (ss : List ℕ) (cs : List Context) (ts : List Totals) (rows : List (List Entry)) (t : Totals) → AreBounds w ls us ss cs ts
    → rows_of (length ts) w (entries_of ls us ss cs) ≡ rows → d < length rows → i ≡ d → t ≡ get_or ts i t → t ≡ totals_of (row_at rows d)
seen_totals w d i ls us ss cs ts rows t b is h same at =
    at ∙ ap (λ j. get_or ts j t) same
    ∙ row_totals w d ls us ss cs ts t b (seen_value (length ts) w d (entries_of ls us ss cs) rows is h)
    ∙ ap (λ (rs : List (List Entry)). totals_of (row_at rs d)) is

-- totals to which one more entry's bounds can be added
pub record IsSmall (t : Totals) : Type 0 where
  pub lower : t.lower < 85070591730234615865843651857942052864
  pub upper : t.upper < 85070591730234615865843651857942052864
  pub missing : t.missing < 9223372036854775808

pub seen_small : (w d i : ℕ) (ls : List ℕ) (us : List (Option ℕ)) (ss : List ℕ) (cs : List Context) (ts : List Totals) (rows : List (List Entry)) (t : Totals) → AreBounds w ls us ss cs ts
    → rows_of (length ts) w (entries_of ls us ss cs) ≡ rows → d < length rows → i ≡ d → t ≡ get_or ts i t → length ls < 9223372036854775808 → IsSmall t
seen_small w d i ls us ss cs ts rows t b is h same at short =
    let inside = seen_value (length ts) w d (entries_of ls us ss cs) rows is h in
    let most : d * w + w ≤ length ts * w = row_fits (length ts) w d inside in
    let room : HasRoom t w = subst (λ (s : Totals). HasRoom s w) (sym (at ∙ ap (λ j. get_or ts j t) same)) (row_room w d ls us ss cs ts t b inside) in
    let few : w < 9223372036854775808 = omega (arith, most, b.parts.lower_count, short) in
    record {
      lower = omega (arith, room.lower, few);
      upper = omega (arith, room.upper, few);
      missing = omega (arith, room.missing, few);
    }

-- the entry of a value and a place, and its index in the lists
pub seen_entry : (n w d k i : ℕ) (ls : List ℕ) (us : List (Option ℕ)) (ss : List ℕ) (cs : List Context) (rows : List (List Entry)) (l : ℕ) (u : Option ℕ) (s : ℕ) (c : Context) → AreEntryParts (n * w) ls us ss cs
    → rows_of n w (entries_of ls us ss cs) ≡ rows → d < length rows → k < w → i ≡ d * w + k
    → entry_at rows d k ≡ record { lower = get_or ls i l; upper = get_or us i u; share = get_or ss i s; context = get_or cs i c }
seen_entry n w d k i ls us ss cs rows l u s c p is h inside at =
    ap (λ (rs : List (List Entry)). entry_at rs d k) (sym is)
    ∙ entry_parts n w d k i ls us ss cs l u s c p (seen_value n w d (entries_of ls us ss cs) rows is h) inside at

pub seen_index : (n w d k i : ℕ) (es : List Entry) (rows : List (List Entry)) → rows_of n w es ≡ rows → d < length rows → k < w → i ≡ d * w + k → i < n * w
seen_index n w d k i es rows is h inside at = rw at (place_fits n w d k (seen_value n w d es rows is h) inside)

-- the index just behind a value's row
pub seen_end : (n w d : ℕ) (es : List Entry) (rows : List (List Entry)) → rows_of n w es ≡ rows → d < length rows → (d + 1) * w ≤ n * w
seen_end n w d es rows is h = let most = row_fits n w d (seen_value n w d es rows is h) in omega (arith, most)

-- the rows that contracts see, with the shares of one allotted
pub seen_allot : (n w d i goal : ℕ) (ls : List ℕ) (us : List (Option ℕ)) (ss ss' : List ℕ) (cs : List Context) (rows : List (List Entry)) → rows_of n w (entries_of ls us ss cs) ≡ rows → d < length rows → i ≡ d * w
    → take i ss' ≡ take i ss → drop (i + w) ss' ≡ drop (i + w) ss
    → entries_of (take w (drop i ls)) (take w (drop i us)) (take w (drop i ss')) (take w (drop i cs)) ≡ allot goal (entries_of (take w (drop i ls)) (take w (drop i us)) (take w (drop i ss)) (take w (drop i cs)))
    → rows_of n w (entries_of ls us ss' cs) ≡ set rows d (allot goal (row_at rows d))
seen_allot n w d i goal ls us ss ss' cs rows is h at =
    subst (λ j. take j ss' ≡ take j ss → drop (j + w) ss' ≡ drop (j + w) ss
    → entries_of (take w (drop j ls)) (take w (drop j us)) (take w (drop j ss')) (take w (drop j cs)) ≡ allot goal (entries_of (take w (drop j ls)) (take w (drop j us)) (take w (drop j ss)) (take w (drop j cs)))
    → rows_of n w (entries_of ls us ss' cs) ≡ set rows d (allot goal (row_at rows d))) (sym at)
    (λ before behind row.
    allot_rows n w d goal ls us ss ss' cs (seen_value n w d (entries_of ls us ss cs) rows is h) before behind row
    ∙ ap (λ (rs : List (List Entry)). set rs d (allot goal (row_at rs d))) is)

-- a map over equal elements
map_replicate : {X Y : Type 0} (f : X → Y) (n : ℕ) (x : X) → map f (replicate n x) ≡ replicate n (f x)
map_replicate f zero x = refl
map_replicate f (suc n) x = ap (λ ys. f x ∷ ys) (map_replicate f n x)

-- rows of blank entries
pub blank_rows : (n w count : ℕ) → count ≡ n * w → rows_of n w (entries_of (replicate count 0) (replicate count None) (replicate count 0) (replicate count [])) ≡ replicate n (replicate w blank)
blank_rows n w count is = ap (λ (es : List Entry). rows_of n w es) (entries_blank count) ∙ rows_same n w count blank is

-- bounds of which nothing is known
pub blank_bounds : (n w count : ℕ) (t : Totals) → count ≡ n * w → t ≡ totals_of (replicate w blank) → AreBounds w (replicate count 0) (replicate count None) (replicate count 0) (replicate count []) (replicate n t)
blank_bounds n w count t is right =
    let long : length (replicate n t) ≡ n = length-replicate n t in
    let all : count ≡ length (replicate n t) * w = rw long is in
    record {
      parts = record {
        lower_count = length-replicate count 0 ∙ all;
        upper_count = length-replicate count None ∙ all;
        share_count = length-replicate count 0 ∙ all;
        context_count = length-replicate count [] ∙ all;
        lower_within = All-replicate (λ x. x ≤ amount_limit) count 0 (omega arith);
        upper_within = All-replicate (λ (o : Option ℕ). IfSome o (λ x. x ≤ amount_limit)) count None tt;
        share_within = All-replicate (λ x. x ≤ amount_limit) count 0 (omega arith);
      };
      right =
          ap (λ (x : Totals). replicate n x) right
          ∙ sym (map_replicate totals_of n (replicate w blank))
          ∙ ap (λ (rs : List (List Entry)). map totals_of rs) (sym (blank_rows n w count is))
          ∙ ap (λ m. map totals_of (rows_of m w (entries_of (replicate count 0) (replicate count None) (replicate count 0) (replicate count [])))) (sym long);
    }

-- the lesser of two bounds within the cap
pub lesser_within : (u v : Option ℕ) → IfSome u (λ x. x ≤ amount_limit) → IfSome v (λ x. x ≤ amount_limit) → IfSome (lesser u v) (λ x. x ≤ amount_limit)
lesser_within None v a b = b
lesser_within (Some x) None a b = a
lesser_within (Some x) (Some y) a b = omega (arith, a)

-- a bound that is there is a number within the cap
pub or_zero_within : (u : Option ℕ) → IfSome u (λ x. x ≤ amount_limit) → or_zero u ≤ amount_limit
or_zero_within None h = omega arith
or_zero_within (Some x) h = h

pub missing_one : (u : Option ℕ) → missing_of u ≤ 1
missing_one None = omega arith
missing_one (Some x) = omega arith

-- the lists, with an entry written, are bounds
pub seen_put : (w d i k : ℕ) (ls : List ℕ) (us : List (Option ℕ)) (ss : List ℕ) (cs : List Context) (ts : List Totals) (rows : List (List Entry)) (e : Entry) (j : ℕ) (old new : Totals) → AreBounds w ls us ss cs ts
    → rows_of (length ts) w (entries_of ls us ss cs) ≡ rows → d < length rows → k < w → i ≡ d * w + k → j ≡ d → old ≡ totals_of (row_at rows d)
    → e.lower ≤ amount_limit → IfSome e.upper (λ x. x ≤ amount_limit) → e.share ≤ amount_limit
    → new.lower + (entry_at rows d k).lower ≡ old.lower + e.lower
    → new.upper + or_zero (entry_at rows d k).upper ≡ old.upper + or_zero e.upper
    → new.missing + missing_of (entry_at rows d k).upper ≡ old.missing + missing_of e.upper
    → AreBounds w (set ls i e.lower) (set us i e.upper) (set ss i e.share) (set cs i e.context) (set ts j new)
seen_put w d i k ls us ss cs ts rows e j old new b is h inside at same right low high share lower upper missing =
    let value = seen_value (length ts) w d (entries_of ls us ss cs) rows is h in
    let width : k < length (row_at rows d) =
    rw (ap (λ (rs : List (List Entry)). length (row_at rs d)) (sym is) ∙ row_width w d ls us ss cs ts b value) inside in
    let after : new ≡ totals_of (set (row_at rows d) k e) = totals_after old new (row_at rows d) k e width right lower upper missing in
    subst (λ m. AreBounds w (set ls i e.lower) (set us i e.upper) (set ss i e.share) (set cs i e.context) (set ts m new)) (sym same)
    (put_bounds w d k i ls us ss cs ts e new b value inside at low high share
    (after ∙ ap (λ (rs : List (List Entry)). totals_of (set (row_at rs d) k e)) (sym is)))

-- and the rows that contracts see have it
pub seen_put_rows : (w d i k : ℕ) (ls : List ℕ) (us : List (Option ℕ)) (ss : List ℕ) (cs : List Context) (ts : List Totals) (rows : List (List Entry)) (e : Entry) (j : ℕ) (new : Totals)
    → rows_of (length ts) w (entries_of ls us ss cs) ≡ rows → d < length rows → k < w → i ≡ d * w + k
    → rows_of (length (set ts j new)) w (entries_of (set ls i e.lower) (set us i e.upper) (set ss i e.share) (set cs i e.context)) ≡ put_entry rows d k e
seen_put_rows w d i k ls us ss cs ts rows e j new is h inside at =
    let value = seen_value (length ts) w d (entries_of ls us ss cs) rows is h in
    ap (λ n. rows_of n w (entries_of (set ls i e.lower) (set us i e.upper) (set ss i e.share) (set cs i e.context))) (length-set ts j new)
    ∙ put_rows (length ts) w d k i ls us ss cs e value inside at
    ∙ ap (λ (rs : List (List Entry)). put_entry rs d k e) is

-- the totals of a value hold what its entries hold
pub seen_holds : (w d k : ℕ) (ls : List ℕ) (us : List (Option ℕ)) (ss : List ℕ) (cs : List Context) (ts : List Totals) (rows : List (List Entry)) (t : Totals) → AreBounds w ls us ss cs ts
    → rows_of (length ts) w (entries_of ls us ss cs) ≡ rows → d < length rows → k < w → t ≡ totals_of (row_at rows d) → HoldsEntry t (entry_at rows d k)
seen_holds w d k ls us ss cs ts rows t b is h inside right =
    let value = seen_value (length ts) w d (entries_of ls us ss cs) rows is h in
    let width : k < length (row_at rows d) =
    rw (ap (λ (rs : List (List Entry)). length (row_at rs d)) (sym is) ∙ row_width w d ls us ss cs ts b value) inside in
    totals_hold t (row_at rows d) k width right

-- a row of lists that are the same
pub row_seen : (i m w goal : ℕ) (xs ls : List ℕ) (ys us : List (Option ℕ)) (zs ss new : List ℕ) (cs : List Context) → m ≡ w → xs ≡ ls → ys ≡ us → zs ≡ ss
    → entries_of (take m (drop i xs)) (take m (drop i ys)) (take m (drop i new)) cs ≡ allot goal (entries_of (take m (drop i xs)) (take m (drop i ys)) (take m (drop i zs)) cs)
    → entries_of (take w (drop i ls)) (take w (drop i us)) (take w (drop i new)) cs ≡ allot goal (entries_of (take w (drop i ls)) (take w (drop i us)) (take w (drop i ss)) cs)
row_seen i m w goal xs ls ys us zs ss new cs p q r s h = rw (← p, ← q, ← r, ← s) h

-- bounds, by their children and rows
abbrev pub view_of : List ℕ → List (List Entry) → BoundsView
view_of children rows = record { children = children; rows = rows }

-- an entry with amounts within the cap
pub record IsWithin (e : Entry) : Type 0 where
  pub lower : e.lower ≤ amount_limit
  pub upper : IfSome e.upper (λ x. x ≤ amount_limit)
  pub share : e.share ≤ amount_limit

pub seen_within : (n w d k i : ℕ) (ls : List ℕ) (us : List (Option ℕ)) (ss : List ℕ) (cs : List Context) (rows : List (List Entry)) → AreEntryParts (n * w) ls us ss cs
    → rows_of n w (entries_of ls us ss cs) ≡ rows → d < length rows → k < w → i ≡ d * w + k → IsWithin (entry_at rows d k)
seen_within n w d k i ls us ss cs rows p is h inside at =
    let here : i < n * w = seen_index n w d k i (entries_of ls us ss cs) rows is h inside at in
    subst (λ (e : Entry). IsWithin e) (sym (seen_entry n w d k i ls us ss cs rows 0 None 0 [] p is h inside at)) (record {
      lower = All-get_or (λ x. x ≤ amount_limit) ls i 0 (rw p.lower_count here) p.lower_within;
      upper = All-get_or (λ (o : Option ℕ). IfSome o (λ x. x ≤ amount_limit)) us i None (rw p.upper_count here) p.upper_within;
      share = All-get_or (λ x. x ≤ amount_limit) ss i 0 (rw p.share_count here) p.share_within;
    })

pub merged_within : (e : Entry) (r : Context) (l : ℕ) (u : Option ℕ) → IsWithin e → l ≤ amount_limit → IfSome u (λ x. x ≤ amount_limit) → IsWithin (merged e r l u)
merged_within e r l u a low high = record {
  lower = omega (arith, a.lower, low);
  upper = lesser_within e.upper u a.upper high;
  share = omega (arith, a.lower, a.share, low, raised_below (max e.share (max e.lower l)) (lesser e.upper u));
}
