-- Totals of rows, and the bounds that they give.
use Rattle.std.proofs.Common.{◌≡◌, ℕ, zero, suc, ◌+◌, ◌*◌, ◌<◌, ◌≤◌, List, [], ◌∷◌, Option, Some, None, length, get_or, set, replicate, refl, sym, ap, subst, ◌∙◌, inl, inr, arith}
use Rattle.std.specs.Prelude.{IfSome}
use Rattle.std.specs.List.{All, sum_by}
use Rattle.std.proofs.lemmas.Bool.{cases_eq, ne_eqb, eq-eqb}
use Rattle.std.proofs.lemmas.List.Elements.{All-nil, All-cons, All-head, All-tail}
use Rattle.std.proofs.lemmas.List.Sums.{sum_by-cons, sum_by-set, get_or-le-sum_by, sum_by-le}
use Rattle.dcop_base.specs.Limits.{amount_limit}
use Rattle.adopt_context.specs.Context.{Context, or_zero}
use Rattle.adopt_context.specs.Bounds.{Entry, blank, plus_bound, lower_sum, upper_sum}
use Rattle.adopt_bounds.specs.Rows.{entries_of}
use Rattle.adopt_bounds.specs.Totals.{missing_of, totals_of, upper_of}
use Rattle.adopt_bounds.specs.declared.totals.Totals.{Totals}

-- totals with the same parts are the same
pub same_totals : (a b : Totals) → a.lower ≡ b.lower → a.upper ≡ b.upper → a.missing ≡ b.missing → a ≡ b
same_totals a b p q r = ap (λ l. made l a.upper a.missing) p ∙ ap (λ u. made b.lower u a.missing) q ∙ ap (λ m. made b.lower b.upper m) r
  where
    made : ℕ → ℕ → ℕ → Totals
    made l u m = record { lower = l; upper = u; missing = m }

-- the totals of a row in which one entry got other bounds
pub totals_after : (old new : Totals) (es : List Entry) (k : ℕ) (e : Entry) → k < length es → old ≡ totals_of es
    → new.lower + (get_or es k blank).lower ≡ old.lower + e.lower
    → new.upper + or_zero (get_or es k blank).upper ≡ old.upper + or_zero e.upper
    → new.missing + missing_of (get_or es k blank).upper ≡ old.missing + missing_of e.upper
    → new ≡ totals_of (set es k e)
totals_after old new es k e h is lower upper missing =
    let l : old.lower ≡ lower_sum es = ap (λ (t : Totals). t.lower) is in
    let u : old.upper ≡ sum_by (λ (x : Entry). or_zero x.upper) es = ap (λ (t : Totals). t.upper) is in
    let m : old.missing ≡ sum_by (λ (x : Entry). missing_of x.upper) es = ap (λ (t : Totals). t.missing) is in
    same_totals new (totals_of (set es k e))
    (omega (arith, lower, l, sum_by-set (λ (x : Entry). x.lower) es k e blank h))
    (omega (arith, upper, u, sum_by-set (λ (x : Entry). or_zero x.upper) es k e blank h))
    (omega (arith, missing, m, sum_by-set (λ (x : Entry). missing_of x.upper) es k e blank h))

-- a part of the totals is that of one entry
pub record HoldsEntry (t : Totals) (e : Entry) : Type 0 where
  pub lower : e.lower ≤ t.lower
  pub upper : or_zero e.upper ≤ t.upper
  pub missing : missing_of e.upper ≤ t.missing

pub totals_hold : (t : Totals) (es : List Entry) (k : ℕ) → k < length es → t ≡ totals_of es → HoldsEntry t (get_or es k blank)
totals_hold t es k h is = subst (λ (s : Totals). HoldsEntry s (get_or es k blank)) (sym is) (record {
  lower = get_or-le-sum_by (λ (x : Entry). x.lower) es k blank h;
  upper = get_or-le-sum_by (λ (x : Entry). or_zero x.upper) es k blank h;
  missing = get_or-le-sum_by (λ (x : Entry). missing_of x.upper) es k blank h;
})

-- entries with amounts within the cap
lowers_within : (ls : List ℕ) (us : List (Option ℕ)) (ss : List ℕ) (cs : List Context) → All (λ l. l ≤ amount_limit) ls → All (λ (e : Entry). e.lower ≤ amount_limit) (entries_of ls us ss cs)
lowers_within [] us ss cs h = All-nil _
lowers_within (l ∷ ls) [] ss cs h = All-nil _
lowers_within (l ∷ ls) (u ∷ us) [] cs h = All-nil _
lowers_within (l ∷ ls) (u ∷ us) (s ∷ ss) [] h = All-nil _
lowers_within (l ∷ ls) (u ∷ us) (s ∷ ss) (c ∷ cs) h =
    All-cons (λ (e : Entry). e.lower ≤ amount_limit) (record { lower = l; upper = u; share = s; context = c }) (entries_of ls us ss cs)
    (All-head (λ n. n ≤ amount_limit) l ls h) (lowers_within ls us ss cs (All-tail (λ n. n ≤ amount_limit) l ls h))

there_within : (u : Option ℕ) → IfSome u (λ x. x ≤ amount_limit) → or_zero u ≤ amount_limit
there_within None h = omega arith
there_within (Some x) h = h

uppers_within : (ls : List ℕ) (us : List (Option ℕ)) (ss : List ℕ) (cs : List Context) → All (λ u. IfSome u (λ x. x ≤ amount_limit)) us → All (λ (e : Entry). or_zero e.upper ≤ amount_limit) (entries_of ls us ss cs)
uppers_within [] us ss cs h = All-nil _
uppers_within (l ∷ ls) [] ss cs h = All-nil _
uppers_within (l ∷ ls) (u ∷ us) [] cs h = All-nil _
uppers_within (l ∷ ls) (u ∷ us) (s ∷ ss) [] h = All-nil _
uppers_within (l ∷ ls) (u ∷ us) (s ∷ ss) (c ∷ cs) h =
    All-cons (λ (e : Entry). or_zero e.upper ≤ amount_limit) (record { lower = l; upper = u; share = s; context = c }) (entries_of ls us ss cs)
    (there_within u (All-head (λ (o : Option ℕ). IfSome o (λ x. x ≤ amount_limit)) u us h))
    (uppers_within ls us ss cs (All-tail (λ (o : Option ℕ). IfSome o (λ x. x ≤ amount_limit)) u us h))

missing_within : (es : List Entry) → sum_by (λ (e : Entry). missing_of e.upper) es ≤ length es
missing_within [] = omega arith
missing_within (e ∷ es) = omega (arith, sum_by-cons (λ (x : Entry). missing_of x.upper) e es, one e.upper, missing_within es)
  where
    one : (u : Option ℕ) → missing_of u ≤ 1
    one None = omega arith
    one (Some x) = omega arith

-- totals of so many entries with amounts within the cap
pub record HasRoom (t : Totals) (n : ℕ) : Type 0 where
  pub lower : t.lower ≤ n * amount_limit
  pub upper : t.upper ≤ n * amount_limit
  pub missing : t.missing ≤ n

pub totals_room : (t : Totals) (ls : List ℕ) (us : List (Option ℕ)) (ss : List ℕ) (cs : List Context) (n : ℕ) → t ≡ totals_of (entries_of ls us ss cs) → length (entries_of ls us ss cs) ≡ n
    → All (λ l. l ≤ amount_limit) ls → All (λ u. IfSome u (λ x. x ≤ amount_limit)) us → HasRoom t n
totals_room t ls us ss cs n is count lower upper =
    let es = entries_of ls us ss cs in
    subst (λ (s : Totals). HasRoom s n) (sym is) (subst (λ m. HasRoom (totals_of es) m) count (record {
      lower = sum_by-le (λ (e : Entry). e.lower) amount_limit es (lowers_within ls us ss cs lower);
      upper = sum_by-le (λ (e : Entry). or_zero e.upper) amount_limit es (uppers_within ls us ss cs upper);
      missing = missing_within es;
    }))

-- the sum of upper bounds, of which one is none
pub upper_sum_none : (es : List Entry) → 0 < sum_by (λ (e : Entry). missing_of e.upper) es → upper_sum es ≡ None
upper_sum_none [] h = absurd (omega (arith, h))
upper_sum_none (e ∷ es) h = step e.upper (upper_sum es) (sum_by (λ (x : Entry). missing_of x.upper) es) (upper_sum_none es) (omega (arith, h, sum_by-cons (λ (x : Entry). missing_of x.upper) e es))
  where
    step : (u rest : Option ℕ) (n : ℕ) → (0 < n → rest ≡ None) → 0 < missing_of u + n → plus_bound u rest ≡ None
    step None rest n f h = refl
    step (Some x) rest n f h = ap (λ (r : Option ℕ). plus_bound (Some x) r) (f (omega (arith, h)))

-- the sum of upper bounds that are all there
pub upper_sum_some : (es : List Entry) → sum_by (λ (e : Entry). missing_of e.upper) es ≡ 0 → upper_sum es ≡ Some (sum_by (λ (e : Entry). or_zero e.upper) es)
upper_sum_some [] h = refl
upper_sum_some (e ∷ es) h =
    step e.upper (upper_sum es) (sum_by (λ (x : Entry). missing_of x.upper) es) (sum_by (λ (x : Entry). or_zero x.upper) es) (upper_sum_some es) (omega (arith, h, sum_by-cons (λ (x : Entry). missing_of x.upper) e es))
    ∙ ap (λ n. Some n) (sym (sum_by-cons (λ (x : Entry). or_zero x.upper) e es))
  where
    step : (u rest : Option ℕ) (n m : ℕ) → (n ≡ 0 → rest ≡ Some m) → missing_of u + n ≡ 0 → plus_bound u rest ≡ Some (or_zero u + m)
    step None rest n m f h = absurd (omega (arith, h))
    step (Some x) rest n m f h = ap (λ (r : Option ℕ). plus_bound (Some x) r) (f (omega (arith, h)))

-- the totals of a row of blank entries
pub totals_blank : (n : ℕ) (t : Totals) → t ≡ record { lower = 0; upper = 0; missing = n } → t ≡ totals_of (replicate n blank)
totals_blank n t is = is ∙ same_totals (record { lower = 0; upper = 0; missing = n }) (totals_of (replicate n blank)) (lowers n) (uppers n) (missings n)
  where
    lowers : (n : ℕ) → 0 ≡ lower_sum (replicate n blank)
    lowers zero = refl
    lowers (suc n) = omega (arith, lowers n, sum_by-cons (λ (x : Entry). x.lower) blank (replicate n blank))

    uppers : (n : ℕ) → 0 ≡ sum_by (λ (x : Entry). or_zero x.upper) (replicate n blank)
    uppers zero = refl
    uppers (suc n) = omega (arith, uppers n, sum_by-cons (λ (x : Entry). or_zero x.upper) blank (replicate n blank))

    missings : (n : ℕ) → n ≡ sum_by (λ (x : Entry). missing_of x.upper) (replicate n blank)
    missings zero = refl
    missings (suc n) = omega (arith, missings n, sum_by-cons (λ (x : Entry). missing_of x.upper) blank (replicate n blank))

-- the sum of upper bounds, by the totals
pub upper_of_is : (t : Totals) (es : List Entry) → t ≡ totals_of es → upper_of t ≡ upper_sum es
upper_of_is t es is = ap (λ (s : Totals). upper_of s) is ∙ elim (cases_eq (sum_by (λ (e : Entry). missing_of e.upper) es) 0) [
  | inl none ↦ rw (eq-eqb (sum_by (λ (e : Entry). missing_of e.upper) es) 0 none) (sym (upper_sum_some es none))
  | inr some ↦ rw (ne_eqb (sum_by (λ (e : Entry). missing_of e.upper) es) 0 some) (sym (upper_sum_none es (omega (arith, some))))
]
