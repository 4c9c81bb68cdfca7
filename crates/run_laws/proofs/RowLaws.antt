-- Rows of entries: after a reset, a write, and allotting.
use Rattle.std.proofs.Common.{◌≡◌, ℕ, zero, suc, ◌+◌, ◌-◌, ◌≤◌, nat_lt, if◌then◌else◌, max, List, [], ◌∷◌, length, get_or, Option, Some, None, refl, sym, ap, subst, ◌∙◌, arith}
use Rattle.std.proofs.lemmas.Bool.{cond_both, ltb-true, ltb-false}
use Rattle.std.proofs.lemmas.List.Sums.{sum_by-cons}
use Rattle.adopt_context.specs.Bounds.{Entry, blank, plus_bound, lower_sum, upper_sum}
use Rattle.adopt_context.specs.Allot.{lower_to, share_sum, raised, raise, lowered, cut, allot}
use Rattle.dcop_optimum.specs.Enclosing.{IsAtMost}
use Rattle.run_laws.proofs.BoundLaws.{at_most_below, lowered_over, lowered_at_most, plus_over}

-- the share of an entry lies between its bounds
abbrev pub InRange : Entry → Type 0
InRange e = (e.lower ≤ e.share) × IsAtMost e.share e.upper

-- an entry with another share between its bounds
pub record IsReshared (e f : Entry) : Type 0 where
  pub share : ℕ
  pub low : e.lower ≤ share
  pub high : IsAtMost share e.upper
  pub is : f ≡ record e { share = share }

pub stays : (e : Entry) → InRange e → IsReshared e e
stays e h = record { share = e.share; low = h.0; high = h.1; is = refl }

blank_in_range : InRange blank
blank_in_range = (omega arith, tt)

raise_at : (lack : ℕ) (row : List Entry) → ((k : ℕ) → InRange (get_or row k blank)) → (k : ℕ) → IsReshared (get_or row k blank) (get_or (raise lack row) k blank)
raise_at lack [] h k = stays blank blank_in_range
raise_at lack (e ∷ es) h zero =
    let range : InRange e = h 0 in
    record {
      share = raised lack e;
      low = lowered_over (e.share + lack) e.lower e.upper (let low = range.0 in omega (arith, low)) (at_most_below e.lower e.share e.upper range.0 range.1);
      high = lowered_at_most (e.share + lack) e.upper;
      is = refl;
    }
raise_at lack (e ∷ es) h (suc k) = raise_at (lack + e.share - raised lack e) es (λ j. h (suc j)) k

cut_at : (excess : ℕ) (row : List Entry) → ((k : ℕ) → InRange (get_or row k blank)) → (k : ℕ) → IsReshared (get_or row k blank) (get_or (cut excess row) k blank)
cut_at excess [] h k = stays blank blank_in_range
cut_at excess (e ∷ es) h zero =
    let range : InRange e = h 0 in
    record {
      share = lowered excess e;
      low = low_max (e.share - excess) e.lower;
      high = at_most_below (lowered excess e) e.share e.upper (high_max e.share excess e.lower range.0) range.1;
      is = refl;
    }
  where
    low_max : (a b : ℕ) → b ≤ max a b
    low_max a b = omega arith

    high_max : (s x l : ℕ) → l ≤ s → max (s - x) l ≤ s
    high_max s x l h = omega (arith, h)
cut_at excess (e ∷ es) h (suc k) = cut_at (excess + lowered excess e - e.share) es (λ j. h (suc j)) k

-- allotting changes shares only, within the bounds
pub allot_at : (goal : ℕ) (row : List Entry) → ((k : ℕ) → InRange (get_or row k blank)) → (k : ℕ) → IsReshared (get_or row k blank) (get_or (allot goal row) k blank)
allot_at goal row h k =
    cond_both (nat_lt (share_sum row) goal) (raise (goal - share_sum row) row) (if nat_lt goal (share_sum row) then cut (share_sum row - goal) row else row)
    (λ r. IsReshared (get_or row k blank) (get_or r k blank))
    (λ lt. raise_at (goal - share_sum row) row h k)
    (λ ge. cond_both (nat_lt goal (share_sum row)) (cut (share_sum row - goal) row) row (λ r. IsReshared (get_or row k blank) (get_or r k blank))
    (λ lt. cut_at (share_sum row - goal) row h k)
    (λ same. stays (get_or row k blank) (h k)))

-- what does not speak of shares stays
pub allot_same : {X : Type 0} (f : List Entry → X) → ((lack : ℕ) (row : List Entry) → f (raise lack row) ≡ f row) → ((excess : ℕ) (row : List Entry) → f (cut excess row) ≡ f row)
    → (goal : ℕ) (row : List Entry) → f (allot goal row) ≡ f row
allot_same f up down goal row =
    cond_both (nat_lt (share_sum row) goal) (raise (goal - share_sum row) row) (if nat_lt goal (share_sum row) then cut (share_sum row - goal) row else row) (λ r. f r ≡ f row)
    (λ lt. up (goal - share_sum row) row)
    (λ ge. cond_both (nat_lt goal (share_sum row)) (cut (share_sum row - goal) row) row (λ r. f r ≡ f row) (λ lt. down (share_sum row - goal) row) (λ same. refl))

raise_length : (lack : ℕ) (row : List Entry) → length (raise lack row) ≡ length row
raise_length lack [] = refl
raise_length lack (e ∷ es) = ap suc (raise_length (lack + e.share - raised lack e) es)

cut_length : (excess : ℕ) (row : List Entry) → length (cut excess row) ≡ length row
cut_length excess [] = refl
cut_length excess (e ∷ es) = ap suc (cut_length (excess + lowered excess e - e.share) es)

pub allot_length : (goal : ℕ) (row : List Entry) → length (allot goal row) ≡ length row
allot_length = allot_same length raise_length cut_length

raise_lower : (lack : ℕ) (row : List Entry) → lower_sum (raise lack row) ≡ lower_sum row
raise_lower lack [] = refl
raise_lower lack (e ∷ es) =
    let rest = raise_lower (lack + e.share - raised lack e) es in
    let f : Entry → ℕ = λ (x : Entry). x.lower in
    omega (arith, rest, sum_by-cons f (record e { share = raised lack e }) (raise (lack + e.share - raised lack e) es), sum_by-cons f e es)

cut_lower : (excess : ℕ) (row : List Entry) → lower_sum (cut excess row) ≡ lower_sum row
cut_lower excess [] = refl
cut_lower excess (e ∷ es) =
    let rest = cut_lower (excess + lowered excess e - e.share) es in
    let f : Entry → ℕ = λ (x : Entry). x.lower in
    omega (arith, rest, sum_by-cons f (record e { share = lowered excess e }) (cut (excess + lowered excess e - e.share) es), sum_by-cons f e es)

pub allot_lower : (goal : ℕ) (row : List Entry) → lower_sum (allot goal row) ≡ lower_sum row
allot_lower = allot_same lower_sum raise_lower cut_lower

raise_upper : (lack : ℕ) (row : List Entry) → upper_sum (raise lack row) ≡ upper_sum row
raise_upper lack [] = refl
raise_upper lack (e ∷ es) = ap (λ (u : Option ℕ). plus_bound e.upper u) (raise_upper (lack + e.share - raised lack e) es)

cut_upper : (excess : ℕ) (row : List Entry) → upper_sum (cut excess row) ≡ upper_sum row
cut_upper excess [] = refl
cut_upper excess (e ∷ es) = ap (λ (u : Option ℕ). plus_bound e.upper u) (cut_upper (excess + lowered excess e - e.share) es)

pub allot_upper : (goal : ℕ) (row : List Entry) → upper_sum (allot goal row) ≡ upper_sum row
allot_upper = allot_same upper_sum raise_upper cut_upper

pub allot_none : (goal : ℕ) → allot goal [] ≡ []
allot_none goal = cond_both (nat_lt 0 goal) [] (if nat_lt goal 0 then [] else []) (λ r. r ≡ []) (λ lt. refl) (λ ge. cond_both (nat_lt goal 0) [] [] (λ (r : List Entry). r ≡ []) (λ lt. refl) (λ same. refl))

-- the sums of a row lie as its entries do
pub shares_over : (row : List Entry) → ((k : ℕ) → InRange (get_or row k blank)) → (lower_sum row ≤ share_sum row) × IsAtMost (share_sum row) (upper_sum row)
shares_over [] h = (omega arith, omega arith)
shares_over (e ∷ es) h =
    let range : InRange e = h 0 in
    let low = range.0 in
    let rest = shares_over es (λ j. h (suc j)) in
    let rest_low = rest.0 in
    let lowers = sum_by-cons (λ (x : Entry). x.lower) e es in
    let shares = sum_by-cons (λ (x : Entry). x.share) e es in (
      omega (arith, low, rest_low, lowers, shares),
      subst (λ (n : ℕ). IsAtMost n (plus_bound e.upper (upper_sum es))) (sym shares) (plus_over e.share (share_sum es) e.upper (upper_sum es) range.1 rest.1),
    )

rest_fits : (s ss l : ℕ) (u us : Option ℕ) → IsAtMost s u → IsAtMost ss us → IsAtMost (s + ss + l) (plus_bound u us) → IsAtMost (ss + (l + s - lower_to (s + l) u)) us
rest_fits s ss l None us a b h = subst (λ (n : ℕ). IsAtMost n us) (omega arith) b
rest_fits s ss l (Some u) None a b h = tt
rest_fits s ss l (Some u) (Some us) a b h = omega (arith, a, b, h)

no_less : (s l : ℕ) (u : Option ℕ) → IsAtMost s u → (s ≤ lower_to (s + l) u) × (lower_to (s + l) u ≤ s + l)
no_less s l None a = (omega arith, omega arith)
no_less s l (Some u) a = (omega (arith, a), omega arith)

raise_sum : (lack : ℕ) (row : List Entry) → ((k : ℕ) → InRange (get_or row k blank)) → IsAtMost (share_sum row + lack) (upper_sum row) → share_sum (raise lack row) ≡ share_sum row + lack
raise_sum lack [] h fits = let none : 0 + lack ≤ 0 = fits in omega (arith, none)
raise_sum lack (e ∷ es) h fits =
    let range : InRange e = h 0 in
    let more : ℕ = lack + e.share - raised lack e in
    let f : Entry → ℕ = λ (x : Entry). x.share in
    let shares : share_sum (e ∷ es) ≡ e.share + share_sum es = sum_by-cons f e es in
    let raises : share_sum (raise lack (e ∷ es)) ≡ raised lack e + share_sum (raise more es) = sum_by-cons f (record e { share = raised lack e }) (raise more es) in
    let over = shares_over es (λ j. h (suc j)) in
    let part = no_less e.share lack e.upper range.1 in
    let one = part.0 in
    let other = part.1 in
    let rest = raise_sum more es (λ j. h (suc j)) (rest_fits e.share (share_sum es) lack e.upper (upper_sum es) range.1 over.1 (subst (λ (n : ℕ). IsAtMost n (plus_bound e.upper (upper_sum es))) (ap (λ (n : ℕ). n + lack) shares) fits)) in
    raises ∙ total (raised lack e) (share_sum (raise more es)) (share_sum es) lack e.share (share_sum (e ∷ es)) rest one other shares
  where
    total : (r x ss l s all : ℕ) → x ≡ ss + (l + s - r) → s ≤ r → r ≤ s + l → all ≡ s + ss → r + x ≡ all + l
    total r x ss l s all a b c d = omega (arith, a, b, c, d)

cut_sum : (excess : ℕ) (row : List Entry) → ((k : ℕ) → InRange (get_or row k blank)) → lower_sum row + excess ≤ share_sum row → share_sum (cut excess row) ≡ share_sum row - excess
cut_sum excess [] h fits = let none : 0 + excess ≤ 0 = fits in omega (arith, none)
cut_sum excess (e ∷ es) h fits =
    let range : InRange e = h 0 in
    let low = range.0 in
    let more : ℕ = excess + lowered excess e - e.share in
    let f : Entry → ℕ = λ (x : Entry). x.share in
    let shares : share_sum (e ∷ es) ≡ e.share + share_sum es = sum_by-cons f e es in
    let lowers : lower_sum (e ∷ es) ≡ e.lower + lower_sum es = sum_by-cons (λ (x : Entry). x.lower) e es in
    let cuts : share_sum (cut excess (e ∷ es)) ≡ lowered excess e + share_sum (cut more es) = sum_by-cons f (record e { share = lowered excess e }) (cut more es) in
    let over = (shares_over es (λ j. h (suc j))).0 in
    let room = fit e.share e.lower excess (share_sum es) (lower_sum es) low over (subst (λ (n : ℕ). n + excess ≤ e.share + share_sum es) lowers (subst (λ (n : ℕ). lower_sum (e ∷ es) + excess ≤ n) shares fits)) in
    let rest = cut_sum more es (λ j. h (suc j)) room.0 in
    cuts ∙ ap (λ (n : ℕ). lowered excess e + n) rest ∙ room.1 ∙ ap (λ (n : ℕ). n - excess) (sym shares)
  where
    fit : (s l x ss ls : ℕ) → l ≤ s → ls ≤ ss → l + ls + x ≤ s + ss → (ls + (x + max (s - x) l - s) ≤ ss) × (max (s - x) l + (ss - (x + max (s - x) l - s)) ≡ s + ss - x)
    fit s l x ss ls a b c = (omega (arith, a, b, c), omega (arith, a, b, c))

-- where the goal lies between the sums of the bounds, the shares are the goal together
pub allot_sum : (goal : ℕ) (row : List Entry) → ((k : ℕ) → InRange (get_or row k blank)) → lower_sum row ≤ goal → IsAtMost goal (upper_sum row) → share_sum (allot goal row) ≡ goal
allot_sum goal row h low high =
    cond_both (nat_lt (share_sum row) goal) (raise (goal - share_sum row) row) (if nat_lt goal (share_sum row) then cut (share_sum row - goal) row else row) (λ r. share_sum r ≡ goal)
    (λ less.
    let lt = ltb-true (share_sum row) goal less in
    let whole : goal ≡ share_sum row + (goal - share_sum row) = omega (arith, lt) in
    raise_sum (goal - share_sum row) row h (subst (λ (n : ℕ). IsAtMost n (upper_sum row)) whole high) ∙ sym whole)
    (λ not_less.
    let ge = ltb-false (share_sum row) goal not_less in
    cond_both (nat_lt goal (share_sum row)) (cut (share_sum row - goal) row) row (λ r. share_sum r ≡ goal)
    (λ more.
    let over = ltb-true goal (share_sum row) more in
    let cuts = cut_sum (share_sum row - goal) row h (omega (arith, low, ge)) in
    omega (arith, cuts, over))
    (λ same. let le = ltb-false goal (share_sum row) same in omega (arith, le, ge)))
