-- The rows of flat lists of bounds, one after the other.
use Rattle.std.proofs.Common.{◌≡◌, ℕ, suc, ◌+◌, ◌*◌, ◌≤◌, List, ◌∷◌, ◌++◌, Option, length, get_or, take, drop, map, sym, ap, subst, ◌∙◌, arith}
use Rattle.std.specs.Prelude.{IfSome}
use Rattle.std.proofs.lemmas.List.{length-take-le, length-drop, length-append, take_at, drop_at}
use Rattle.std.proofs.lemmas.List.Elements.{All-take, All-drop, All-append}
use Rattle.dcop_base.specs.Limits.{amount_limit}
use Rattle.adopt_context.specs.Allot.{kept, reset}
use Rattle.adopt_context.specs.Bounds.{Entry}
use Rattle.adopt_context.specs.Context.{Context}
use Rattle.adopt_bounds.specs.Rows.{entries_of, rows_of}
use Rattle.adopt_bounds.specs.Totals.{AreBounds, AreEntryParts, totals_of}
use Rattle.adopt_bounds.specs.declared.totals.Totals.{Totals}
use Rattle.adopt_bounds.proofs.EntryLaws.{entries_append, entries_take, entries_drop}
use Rattle.adopt_bounds.proofs.ForgetLaws.{parts_length}

-- the parts of the first entries
pub parts_take : (n w : ℕ) (ls : List ℕ) (us : List (Option ℕ)) (ss : List ℕ) (cs : List Context) → AreEntryParts n ls us ss cs → w ≤ n → AreEntryParts w (take w ls) (take w us) (take w ss) (take w cs)
parts_take n w ls us ss cs p h = record {
  lower_count = length-take-le w ls (rw p.lower_count h);
  upper_count = length-take-le w us (rw p.upper_count h);
  share_count = length-take-le w ss (rw p.share_count h);
  context_count = length-take-le w cs (rw p.context_count h);
  lower_within = All-take (λ x. x ≤ amount_limit) w ls p.lower_within;
  upper_within = All-take (λ (o : Option ℕ). IfSome o (λ x. x ≤ amount_limit)) w us p.upper_within;
  share_within = All-take (λ x. x ≤ amount_limit) w ss p.share_within;
}

-- the parts of the other entries
pub parts_drop : (n w m : ℕ) (ls : List ℕ) (us : List (Option ℕ)) (ss : List ℕ) (cs : List Context) → AreEntryParts n ls us ss cs → n ≡ w + m → AreEntryParts m (drop w ls) (drop w us) (drop w ss) (drop w cs)
parts_drop n w m ls us ss cs p h = record {
  lower_count = omega (arith, length-drop w ls, p.lower_count, h);
  upper_count = omega (arith, length-drop w us, p.upper_count, h);
  share_count = omega (arith, length-drop w ss, p.share_count, h);
  context_count = omega (arith, length-drop w cs, p.context_count, h);
  lower_within = All-drop (λ x. x ≤ amount_limit) w ls p.lower_within;
  upper_within = All-drop (λ (o : Option ℕ). IfSome o (λ x. x ≤ amount_limit)) w us p.upper_within;
  share_within = All-drop (λ x. x ≤ amount_limit) w ss p.share_within;
}

-- parts behind parts
parts_append : (w m n : ℕ) (ls ls' : List ℕ) (us us' : List (Option ℕ)) (ss ss' : List ℕ) (cs cs' : List Context) → AreEntryParts w ls us ss cs → AreEntryParts m ls' us' ss' cs' → n ≡ w + m
    → AreEntryParts n (ls ++ ls') (us ++ us') (ss ++ ss') (cs ++ cs')
parts_append w m n ls ls' us us' ss ss' cs cs' p q h = record {
  lower_count = omega (arith, length-append ls ls', p.lower_count, q.lower_count, h);
  upper_count = omega (arith, length-append us us', p.upper_count, q.upper_count, h);
  share_count = omega (arith, length-append ss ss', p.share_count, q.share_count, h);
  context_count = omega (arith, length-append cs cs', p.context_count, q.context_count, h);
  lower_within = All-append (λ x. x ≤ amount_limit) ls ls' p.lower_within q.lower_within;
  upper_within = All-append (λ (o : Option ℕ). IfSome o (λ x. x ≤ amount_limit)) us us' p.upper_within q.upper_within;
  share_within = All-append (λ x. x ≤ amount_limit) ss ss' p.share_within q.share_within;
}

-- so many entries in one row more
more_rows : (n w : ℕ) → suc n * w ≡ w + n * w
more_rows n w = omega arith

-- the first row: its parts and its totals
pub first_parts : (w : ℕ) (ls : List ℕ) (us : List (Option ℕ)) (ss : List ℕ) (cs : List Context) (t : Totals) (ts all : List Totals) → all ≡ t ∷ ts → AreBounds w ls us ss cs all
    → AreEntryParts w (take w ls) (take w us) (take w ss) (take w cs)
first_parts w ls us ss cs t ts all e b =
    let long : length all ≡ suc (length ts) = ap (λ (xs : List Totals). length xs) e in
    let count : length all * w ≡ w + length ts * w = rw long (more_rows (length ts) w) in
    parts_take (length all * w) w ls us ss cs b.parts (omega (arith, count))

first_row : (w : ℕ) (ls : List ℕ) (us : List (Option ℕ)) (ss : List ℕ) (cs : List Context) (t : Totals) (ts : List Totals) → AreBounds w ls us ss cs (t ∷ ts) → t ≡ totals_of (take w (entries_of ls us ss cs))
first_row w ls us ss cs t ts b = ap (λ (xs : List Totals). get_or xs 0 t) b.right

other_rows : (w : ℕ) (ls : List ℕ) (us : List (Option ℕ)) (ss : List ℕ) (cs : List Context) (t : Totals) (ts : List Totals) → AreBounds w ls us ss cs (t ∷ ts)
    → ts ≡ map totals_of (rows_of (length ts) w (drop w (entries_of ls us ss cs)))
other_rows w ls us ss cs t ts b = ap (λ (xs : List Totals). drop 1 xs) b.right

pub first_totals : (w : ℕ) (ls : List ℕ) (us : List (Option ℕ)) (ss : List ℕ) (cs : List Context) (t : Totals) (ts all : List Totals) → all ≡ t ∷ ts → AreBounds w ls us ss cs all
    → t ≡ totals_of (entries_of (take w ls) (take w us) (take w ss) (take w cs))
first_totals w ls us ss cs t ts all e b =
    first_row w ls us ss cs t ts (subst (λ (xs : List Totals). AreBounds w ls us ss cs xs) e b) ∙ ap (λ (es : List Entry). totals_of es) (entries_take w ls us ss cs)

-- the other rows are bounds of their own
pub rest_bounds : (w : ℕ) (ls : List ℕ) (us : List (Option ℕ)) (ss : List ℕ) (cs : List Context) (t : Totals) (ts all : List Totals) → all ≡ t ∷ ts → AreBounds w ls us ss cs all
    → AreBounds w (drop w ls) (drop w us) (drop w ss) (drop w cs) ts
rest_bounds w ls us ss cs t ts all e b =
    let long : length all ≡ suc (length ts) = ap (λ (xs : List Totals). length xs) e in
    let count : length all * w ≡ w + length ts * w = rw long (more_rows (length ts) w) in
    record {
      parts = parts_drop (length all * w) w (length ts * w) ls us ss cs b.parts count;
      right = other_rows w ls us ss cs t ts (subst (λ (xs : List Totals). AreBounds w ls us ss cs xs) e b)
          ∙ ap (λ (es : List Entry). map totals_of (rows_of (length ts) w es)) (entries_drop w ls us ss cs);
    }

-- rows of entries behind a first row
rows_append : (n w : ℕ) (row es : List Entry) → length row ≡ w → rows_of (suc n) w (row ++ es) ≡ row ∷ rows_of n w es
rows_append n w row es h =
    ap (λ (r : List Entry). r ∷ rows_of n w (drop w (row ++ es))) (take_at row es w h)
    ∙ ap (λ (xs : List Entry). row ∷ rows_of n w xs) (drop_at row es w h)

-- a row before the others makes bounds again
pub bounds_join : (w : ℕ) (ls ls' : List ℕ) (us us' : List (Option ℕ)) (ss ss' : List ℕ) (cs cs' : List Context) (t : Totals) (ts : List Totals)
    → AreEntryParts w ls us ss cs → t ≡ totals_of (entries_of ls us ss cs) → AreBounds w ls' us' ss' cs' ts → AreBounds w (ls ++ ls') (us ++ us') (ss ++ ss') (cs ++ cs') (t ∷ ts)
bounds_join w ls ls' us us' ss ss' cs cs' t ts p is b = record {
  parts = parts_append w (length ts * w) (length (t ∷ ts) * w) ls ls' us us' ss ss' cs cs' p b.parts (more_rows (length ts) w);
  right =
      ap (λ (x : Totals). x ∷ ts) is
      ∙ ap (λ (xs : List Totals). totals_of (entries_of ls us ss cs) ∷ xs) b.right
      ∙ ap (λ (rs : List (List Entry)). map totals_of rs) (sym (rows_append (length ts) w (entries_of ls us ss cs) (entries_of ls' us' ss' cs') (parts_length w ls us ss cs p)))
      ∙ ap (λ (es : List Entry). map totals_of (rows_of (suc (length ts)) w es)) (sym (entries_append w ls ls' us us' ss ss' cs cs' p.lower_count p.upper_count p.share_count p.context_count));
}

-- the first row was reset, and the others were
pub reset_join : (x : Context) (w : ℕ) (ls ls' : List ℕ) (us us' : List (Option ℕ)) (ss ss' : List ℕ) (cs cs' : List Context) (old_ls : List ℕ) (old_us : List (Option ℕ)) (old_ss : List ℕ) (old_cs : List Context)
    (t : Totals) (ts all : List Totals) → all ≡ t ∷ ts → AreEntryParts w ls us ss cs
    → entries_of ls us ss cs ≡ map (kept x) (entries_of (take w old_ls) (take w old_us) (take w old_ss) (take w old_cs))
    → rows_of (length ts) w (entries_of ls' us' ss' cs') ≡ reset x (rows_of (length ts) w (entries_of (drop w old_ls) (drop w old_us) (drop w old_ss) (drop w old_cs)))
    → rows_of (length all) w (entries_of (ls ++ ls') (us ++ us') (ss ++ ss') (cs ++ cs')) ≡ reset x (rows_of (length all) w (entries_of old_ls old_us old_ss old_cs))
reset_join x w ls ls' us us' ss ss' cs cs' old_ls old_us old_ss old_cs t ts all e p row rest =
    let long : length all ≡ suc (length ts) = ap (λ (xs : List Totals). length xs) e in
    let m = length ts in
    let old = entries_of old_ls old_us old_ss old_cs in
    let new_row = entries_of ls us ss cs in
    let new_rest = entries_of ls' us' ss' cs' in
    ap (λ k. rows_of k w (entries_of (ls ++ ls') (us ++ us') (ss ++ ss') (cs ++ cs'))) long
    ∙ ap (λ (es : List Entry). rows_of (suc m) w es) (entries_append w ls ls' us us' ss ss' cs cs' p.lower_count p.upper_count p.share_count p.context_count)
    ∙ rows_append m w new_row new_rest (parts_length w ls us ss cs p)
    ∙ ap (λ (r : List Entry). r ∷ rows_of m w new_rest) (row ∙ ap (λ (r : List Entry). map (kept x) r) (sym (entries_take w old_ls old_us old_ss old_cs)))
    ∙ ap (λ (rs : List (List Entry)). map (kept x) (take w old) ∷ rs) (rest ∙ ap (λ (es : List Entry). reset x (rows_of m w es)) (sym (entries_drop w old_ls old_us old_ss old_cs)))
    ∙ ap (λ k. reset x (rows_of k w old)) (sym long)
