-- Forgetting the entries of a row, one after the other.
use Rattle.std.proofs.Common.{◌≡◌, ℕ, ◌+◌, ◌<◌, ◌≤◌, true, false, List, [], Option, None, length, get_or, set, take, drop, map, ◌++◌, refl, sym, ap, subst, ◌∙◌, arith}
use Rattle.std.specs.Prelude.{IfSome}
use Rattle.std.proofs.lemmas.List.{length-set, set-get_or, get_or_default, take_all, drop_all, append-nil}
use Rattle.std.proofs.lemmas.List.Edits.{map_over_more}
use Rattle.std.proofs.lemmas.List.Elements.{All-set}
use Rattle.dcop_base.specs.Limits.{amount_limit}
use Rattle.adopt_context.specs.Allot.{kept}
use Rattle.adopt_context.specs.Bounds.{Entry, blank}
use Rattle.adopt_context.specs.Context.{Context, part_of, or_zero}
use Rattle.adopt_bounds.specs.Rows.{entries_of}
use Rattle.adopt_bounds.specs.Totals.{AreEntryParts, missing_of, totals_of}
use Rattle.adopt_bounds.specs.declared.totals.Totals.{Totals}
use Rattle.adopt_bounds.proofs.EntryLaws.{entries_length, entry_is, entries_set}
use Rattle.adopt_bounds.proofs.TotalLaws.{HoldsEntry, HasRoom, totals_after, totals_hold, totals_room}

-- so many entries, by the parts
pub parts_length : (n : ℕ) (ls : List ℕ) (us : List (Option ℕ)) (ss : List ℕ) (cs : List Context) → AreEntryParts n ls us ss cs → length (entries_of ls us ss cs) ≡ n
parts_length n ls us ss cs p = entries_length n ls us ss cs p.lower_count p.upper_count p.share_count p.context_count

-- the entry at a place, by the parts
pub part_is : (n : ℕ) (ls : List ℕ) (us : List (Option ℕ)) (ss : List ℕ) (cs : List Context) (k l : ℕ) (u : Option ℕ) (s : ℕ) (c : Context) → AreEntryParts n ls us ss cs → k < n
    → get_or (entries_of ls us ss cs) k blank ≡ record { lower = get_or ls k l; upper = get_or us k u; share = get_or ss k s; context = get_or cs k c }
part_is n ls us ss cs k l u s c p h =
    entry_is ls us ss cs k blank l u s c (rw p.lower_count h) (rw p.upper_count h) (rw p.share_count h) (rw p.context_count h)

-- the parts, with one entry's written
pub parts_set : (n : ℕ) (ls : List ℕ) (us : List (Option ℕ)) (ss : List ℕ) (cs : List Context) (k l : ℕ) (u : Option ℕ) (s : ℕ) (c : Context) → AreEntryParts n ls us ss cs
    → l ≤ amount_limit → IfSome u (λ x. x ≤ amount_limit) → s ≤ amount_limit → AreEntryParts n (set ls k l) (set us k u) (set ss k s) (set cs k c)
parts_set n ls us ss cs k l u s c p low high share = record {
  lower_count = length-set ls k l ∙ p.lower_count;
  upper_count = length-set us k u ∙ p.upper_count;
  share_count = length-set ss k s ∙ p.share_count;
  context_count = length-set cs k c ∙ p.context_count;
  lower_within = All-set (λ x. x ≤ amount_limit) ls k l low p.lower_within;
  upper_within = All-set (λ (o : Option ℕ). IfSome o (λ x. x ≤ amount_limit)) us k u high p.upper_within;
  share_within = All-set (λ x. x ≤ amount_limit) ss k s share p.share_within;
}

-- of the entries at the start so many are looked at, and those that do not rest on the context x are forgotten
pub record IsForgetting (x : Context) (start : List Entry) (n k : ℕ) (ls : List ℕ) (us : List (Option ℕ)) (ss : List ℕ) (cs : List Context) (t : Totals) : Type 0 where
  pub parts : AreEntryParts n ls us ss cs
  pub count : length start ≡ n
  pub right : t ≡ totals_of (entries_of ls us ss cs)
  pub entries : entries_of ls us ss cs ≡ map (kept x) (take k start) ++ drop k start

-- the next entry is kept
pub keep_next : (x : Context) (start : List Entry) (n k : ℕ) (ls : List ℕ) (us : List (Option ℕ)) (ss : List ℕ) (cs : List Context) (t : Totals) (c : Context) → IsForgetting x start n k ls us ss cs t → k < n
    → part_of (get_or cs k c) x ≡ true → IsForgetting x start n (k + 1) ls us ss cs t
keep_next x start n k ls us ss cs t c a h rests =
    let es = entries_of ls us ss cs in
    let e = get_or es k blank in
    let context : e.context ≡ get_or cs k c = ap (λ (y : Entry). y.context) (part_is n ls us ss cs k 0 None 0 c a.parts h) in
    let same : kept x e ≡ e = rw (context, rests) refl in
    let inside : k < length es = rw (parts_length n ls us ss cs a.parts) h in
    let at : e ≡ get_or es k e = get_or_default es k blank e inside in
    let next : set es k (kept x e) ≡ map (kept x) (take (k + 1) start) ++ drop (k + 1) start = map_over_more (kept x) start es k e (rw a.count h) a.entries at in
    record {
      parts = a.parts;
      count = a.count;
      right = a.right;
      entries = sym (set-get_or es k blank) ∙ ap (λ (y : Entry). set es k y) (sym same) ∙ next;
    }

-- the next entry is forgotten
pub forget_next : (x : Context) (start : List Entry) (n k : ℕ) (ls : List ℕ) (us : List (Option ℕ)) (ss : List ℕ) (cs : List Context) (t s : Totals) (l : ℕ) (u : Option ℕ) (c : Context) → IsForgetting x start n k ls us ss cs t → k < n
    → part_of (get_or cs k c) x ≡ false
    → s.lower + get_or ls k l ≡ t.lower + 0 → s.upper + or_zero (get_or us k u) ≡ t.upper + 0 → s.missing + missing_of (get_or us k u) ≡ t.missing + 1
    → IsForgetting x start n (k + 1) (set ls k 0) (set us k None) (set ss k 0) (set cs k []) s
forget_next x start n k ls us ss cs t s l u c a h rests low high miss =
    let es = entries_of ls us ss cs in
    let e = get_or es k blank in
    let is : e ≡ record { lower = get_or ls k l; upper = get_or us k u; share = get_or ss k 0; context = get_or cs k c } = part_is n ls us ss cs k l u 0 c a.parts h in
    let context : e.context ≡ get_or cs k c = ap (λ (y : Entry). y.context) is in
    let gone : kept x e ≡ blank = rw (context, rests) refl in
    let inside : k < length es = rw (parts_length n ls us ss cs a.parts) h in
    let at : e ≡ get_or es k e = get_or_default es k blank e inside in
    let next : set es k (kept x e) ≡ map (kept x) (take (k + 1) start) ++ drop (k + 1) start = map_over_more (kept x) start es k e (rw a.count h) a.entries at in
    let written : entries_of (set ls k 0) (set us k None) (set ss k 0) (set cs k []) ≡ set es k blank = entries_set ls us ss cs k 0 None 0 [] in
    record {
      parts = parts_set n ls us ss cs k 0 None 0 [] a.parts (omega arith) tt (omega arith);
      count = a.count;
      right =
          totals_after t s es k blank inside a.right
          (ap (λ (y : Entry). s.lower + y.lower) is ∙ low) (ap (λ (y : Entry). s.upper + or_zero y.upper) is ∙ high) (ap (λ (y : Entry). s.missing + missing_of y.upper) is ∙ miss)
          ∙ ap (λ (ys : List Entry). totals_of ys) (sym written);
      entries = written ∙ ap (λ (y : Entry). set es k y) (sym gone) ∙ next;
    }

-- before the first entry
pub forget_none : (x : Context) (n : ℕ) (ls : List ℕ) (us : List (Option ℕ)) (ss : List ℕ) (cs : List Context) (t : Totals) → AreEntryParts n ls us ss cs → t ≡ totals_of (entries_of ls us ss cs)
    → IsForgetting x (entries_of ls us ss cs) n 0 ls us ss cs t
forget_none x n ls us ss cs t p is = record { parts = p; count = parts_length n ls us ss cs p; right = is; entries = refl }

-- behind the last entry
pub forget_all : (x : Context) (start : List Entry) (n k : ℕ) (ls : List ℕ) (us : List (Option ℕ)) (ss : List ℕ) (cs : List Context) (t : Totals) → IsForgetting x start n k ls us ss cs t → n ≤ k
    → entries_of ls us ss cs ≡ map (kept x) start
forget_all x start n k ls us ss cs t a h =
    let over : length start ≤ k = rw a.count h in
    a.entries ∙ ap (λ (ys : List Entry). map (kept x) ys ++ drop k start) (take_all k start over)
    ∙ ap (λ (ys : List Entry). map (kept x) start ++ ys) (drop_all k start over) ∙ append-nil (map (kept x) start)

-- what the totals hold of the entry at a place
pub totals_at : (n k : ℕ) (ls : List ℕ) (us : List (Option ℕ)) (ss : List ℕ) (cs : List Context) (t : Totals) (l : ℕ) (u : Option ℕ) → AreEntryParts n ls us ss cs → t ≡ totals_of (entries_of ls us ss cs) → k < n
    → HoldsEntry t (record { lower = get_or ls k l; upper = get_or us k u; share = get_or ss k 0; context = get_or cs k [] })
totals_at n k ls us ss cs t l u p is h =
    let inside : k < length (entries_of ls us ss cs) = rw (parts_length n ls us ss cs p) h in
    subst (λ (e : Entry). HoldsEntry t e) (part_is n ls us ss cs k l u 0 [] p h) (totals_hold t (entries_of ls us ss cs) k inside is)

-- the totals are within so many caps
pub room_of : (n : ℕ) (ls : List ℕ) (us : List (Option ℕ)) (ss : List ℕ) (cs : List Context) (t : Totals) → AreEntryParts n ls us ss cs → t ≡ totals_of (entries_of ls us ss cs) → HasRoom t n
room_of n ls us ss cs t p is = totals_room t ls us ss cs n is (parts_length n ls us ss cs p) p.lower_within p.upper_within
