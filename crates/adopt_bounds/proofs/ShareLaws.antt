-- Shares of a row, raised or lowered one after the other.
use Rattle.std.proofs.Common.{◌≡◌, ℕ, zero, suc, ◌+◌, ◌-◌, ◌<◌, ◌≤◌, List, [], ◌∷◌, ◌++◌, Option, Some, None, length, get_or, set, take, drop, max, refl, sym, ap, ◌∙◌, arith}
use Rattle.std.specs.List.{All, sum_by}
use Rattle.std.proofs.lemmas.Bool.{lt-ltb, le-ltb}
use Rattle.std.proofs.lemmas.List.{take_all, drop_all, append-nil}
use Rattle.std.proofs.lemmas.List.Elements.{All-nil, All-cons}
use Rattle.std.proofs.lemmas.List.Sums.{sum_by-cons}
use Rattle.adopt_context.specs.Allot.{lower_to, share_sum, raised, raise, lowered, cut, allot}
use Rattle.adopt_context.specs.Bounds.{Entry, blank}
use Rattle.adopt_context.specs.Context.{Context}
use Rattle.adopt_bounds.specs.Rows.{entries_of}
use Rattle.adopt_bounds.proofs.EntryLaws.{entries_length, entry_is, entries_set_share}

-- what is allotted together
pub share_sum_is : (ls : List ℕ) (us : List (Option ℕ)) (ss : List ℕ) (cs : List Context) → length ls ≡ length ss → length us ≡ length ss → length cs ≡ length ss → share_sum (entries_of ls us ss cs) ≡ sum_by (λ x. x) ss
share_sum_is [] us [] cs a b c = refl
share_sum_is [] us (s ∷ ss) cs a b c = absurd (omega (arith, a))
share_sum_is (l ∷ ls) us [] cs a b c = absurd (omega (arith, a))
share_sum_is (l ∷ ls) [] (s ∷ ss) cs a b c = absurd (omega (arith, b))
share_sum_is (l ∷ ls) (u ∷ us) (s ∷ ss) [] a b c = absurd (omega (arith, c))
share_sum_is (l ∷ ls) (u ∷ us) (s ∷ ss) (x ∷ cs) a b c =
    sum_by-cons (λ (e : Entry). e.share) (record { lower = l; upper = u; share = s; context = x }) (entries_of ls us ss cs)
    ∙ ap (λ n. s + n) (share_sum_is ls us ss cs (omega (arith, a)) (omega (arith, b)) (omega (arith, c)))
    ∙ sym (sum_by-cons (λ x. x) s ss)

-- one share more is raised
pub raise_step : (es : List Entry) (k lack : ℕ) → k < length es
    → take (suc k) (set es k (record (get_or es k blank) { share = raised lack (get_or es k blank) }))
    ++ raise (lack + (get_or es k blank).share - raised lack (get_or es k blank)) (drop (suc k) (set es k (record (get_or es k blank) { share = raised lack (get_or es k blank) })))
    ≡ take k es ++ raise lack (drop k es)
raise_step [] k lack h = absurd (omega (arith, h))
raise_step (e ∷ es) zero lack h = refl
raise_step (e ∷ es) (suc k) lack h = ap (λ (xs : List Entry). e ∷ xs) (raise_step es k lack (omega (arith, h)))

-- one share more is lowered
pub cut_step : (es : List Entry) (k excess : ℕ) → k < length es
    → take (suc k) (set es k (record (get_or es k blank) { share = lowered excess (get_or es k blank) }))
    ++ cut (excess + lowered excess (get_or es k blank) - (get_or es k blank).share) (drop (suc k) (set es k (record (get_or es k blank) { share = lowered excess (get_or es k blank) })))
    ≡ take k es ++ cut excess (drop k es)
cut_step [] k excess h = absurd (omega (arith, h))
cut_step (e ∷ es) zero excess h = refl
cut_step (e ∷ es) (suc k) excess h = ap (λ (xs : List Entry). e ∷ xs) (cut_step es k excess (omega (arith, h)))

-- all shares are raised
pub raise_end : (es : List Entry) (k lack : ℕ) → length es ≤ k → take k es ++ raise lack (drop k es) ≡ es
raise_end es k lack h = ap (λ (xs : List Entry). take k es ++ raise lack xs) (drop_all k es h) ∙ append-nil (take k es) ∙ take_all k es h

-- all shares are lowered
pub cut_end : (es : List Entry) (k excess : ℕ) → length es ≤ k → take k es ++ cut excess (drop k es) ≡ es
cut_end es k excess h = ap (λ (xs : List Entry). take k es ++ cut excess xs) (drop_all k es h) ∙ append-nil (take k es) ∙ take_all k es h

-- each share is at most the sum of all
pub shares_within : (ss : List ℕ) (most : ℕ) → sum_by (λ x. x) ss ≤ most → All (λ s. s ≤ most) ss
shares_within [] most h = All-nil (λ s. s ≤ most)
shares_within (s ∷ ss) most h = All-cons (λ x. x ≤ most) s ss (omega (arith, h, sum_by-cons (λ x. x) s ss)) (shares_within ss most (omega (arith, h, sum_by-cons (λ x. x) s ss)))

-- a share that is raised is no more than what it had and what is lacking
pub raised_below : (x : ℕ) (u : Option ℕ) → lower_to x u ≤ x
raised_below x None = omega arith
raised_below x (Some u) = omega arith

-- the next share of a row is raised
pub raise_next : (ls : List ℕ) (us : List (Option ℕ)) (ss : List ℕ) (cs : List Context) (k lack share left : ℕ) → length ls ≡ length ss → length us ≡ length ss → length cs ≡ length ss → k < length ss
    → share ≡ lower_to (get_or ss k 0 + lack) (get_or us k None) → left ≡ get_or ss k 0 + lack - share
    → take (k + 1) (entries_of ls us (set ss k share) cs) ++ raise left (drop (k + 1) (entries_of ls us (set ss k share) cs)) ≡ take k (entries_of ls us ss cs) ++ raise lack (drop k (entries_of ls us ss cs))
raise_next ls us ss cs k lack share left a b c h is rest =
    let es = entries_of ls us ss cs in
    let e = get_or es k blank in
    let at : e ≡ record { lower = get_or ls k 0; upper = get_or us k None; share = get_or ss k 0; context = get_or cs k [] } = entry_is ls us ss cs k blank 0 None 0 [] (rw a h) (rw b h) h (rw c h) in
    let had : e.share ≡ get_or ss k 0 = ap (λ (y : Entry). y.share) at in
    let to : share ≡ raised lack e = is ∙ ap (λ (y : Entry). raised lack y) (sym at) in
    let less : left ≡ lack + e.share - raised lack e = omega (arith, rest, to, had) in
    let more : k + 1 ≡ suc k = omega arith in
    let inside : k < length es = rw (entries_length (length ss) ls us ss cs a b refl c) h in
    ap (λ (xs : List Entry). take (k + 1) xs ++ raise left (drop (k + 1) xs)) (entries_set_share ls us ss cs k share)
    ∙ ap (λ s. take (k + 1) (set es k (record e { share = s })) ++ raise left (drop (k + 1) (set es k (record e { share = s })))) to
    ∙ ap (λ m. take (k + 1) (set es k (record e { share = raised lack e })) ++ raise m (drop (k + 1) (set es k (record e { share = raised lack e })))) less
    ∙ ap (λ j. take j (set es k (record e { share = raised lack e })) ++ raise (lack + e.share - raised lack e) (drop j (set es k (record e { share = raised lack e })))) more
    ∙ raise_step es k lack inside

-- the next share of a row is lowered
pub cut_next : (ls : List ℕ) (us : List (Option ℕ)) (ss : List ℕ) (cs : List Context) (k excess share left : ℕ) → length ls ≡ length ss → length us ≡ length ss → length cs ≡ length ss → k < length ss
    → share ≡ max (get_or ss k 0 - excess) (get_or ls k 0) → left ≡ excess + share - get_or ss k 0
    → take (k + 1) (entries_of ls us (set ss k share) cs) ++ cut left (drop (k + 1) (entries_of ls us (set ss k share) cs)) ≡ take k (entries_of ls us ss cs) ++ cut excess (drop k (entries_of ls us ss cs))
cut_next ls us ss cs k excess share left a b c h is rest =
    let es = entries_of ls us ss cs in
    let e = get_or es k blank in
    let at : e ≡ record { lower = get_or ls k 0; upper = get_or us k None; share = get_or ss k 0; context = get_or cs k [] } = entry_is ls us ss cs k blank 0 None 0 [] (rw a h) (rw b h) h (rw c h) in
    let had : e.share ≡ get_or ss k 0 = ap (λ (y : Entry). y.share) at in
    let to : share ≡ lowered excess e = is ∙ ap (λ (y : Entry). lowered excess y) (sym at) in
    let less : left ≡ excess + lowered excess e - e.share = omega (arith, rest, to, had) in
    let more : k + 1 ≡ suc k = omega arith in
    let inside : k < length es = rw (entries_length (length ss) ls us ss cs a b refl c) h in
    ap (λ (xs : List Entry). take (k + 1) xs ++ cut left (drop (k + 1) xs)) (entries_set_share ls us ss cs k share)
    ∙ ap (λ s. take (k + 1) (set es k (record e { share = s })) ++ cut left (drop (k + 1) (set es k (record e { share = s })))) to
    ∙ ap (λ m. take (k + 1) (set es k (record e { share = lowered excess e })) ++ cut m (drop (k + 1) (set es k (record e { share = lowered excess e })))) less
    ∙ ap (λ j. take j (set es k (record e { share = lowered excess e })) ++ cut (excess + lowered excess e - e.share) (drop j (set es k (record e { share = lowered excess e })))) more
    ∙ cut_step es k excess inside

-- whether the goal is allotted by raising, by lowering or not at all
pub allot_raises : (goal : ℕ) (row : List Entry) (total lack : ℕ) → share_sum row ≡ total → total < goal → lack ≡ goal - total → allot goal row ≡ raise lack row
allot_raises goal row total lack is h e =
    let less : share_sum row < goal = omega (arith, is, h) in
    rw (lt-ltb (share_sum row) goal less) (ap (λ n. raise n row) (omega (arith, is, e)))

pub allot_cuts : (goal : ℕ) (row : List Entry) (total excess : ℕ) → share_sum row ≡ total → goal < total → excess ≡ total - goal → allot goal row ≡ cut excess row
allot_cuts goal row total excess is h e =
    let less : goal < share_sum row = omega (arith, is, h) in
    rw (le-ltb (share_sum row) goal (omega (arith, less)), lt-ltb goal (share_sum row) less) (ap (λ n. cut n row) (omega (arith, is, e)))

pub allot_keeps : (goal : ℕ) (row : List Entry) (total : ℕ) → share_sum row ≡ total → goal ≤ total → total ≤ goal → allot goal row ≡ row
allot_keeps goal row total is h e =
    rw (le-ltb (share_sum row) goal (omega (arith, is, h)), le-ltb goal (share_sum row) (omega (arith, is, e))) refl
