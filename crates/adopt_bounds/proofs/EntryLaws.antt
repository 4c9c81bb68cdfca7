-- Entries whose parts stand in four lists.
use Rattle.std.proofs.Common.{◌≡◌, ℕ, zero, suc, ◌<◌, List, [], ◌∷◌, ◌++◌, Option, None, length, get_or, set, take, drop, replicate, refl, sym, ap, arith}
use Rattle.adopt_context.specs.Context.{Context}
use Rattle.adopt_context.specs.Bounds.{Entry, blank}
use Rattle.adopt_bounds.specs.Rows.{entries_of}

-- so many entries, where each list has as many parts
pub entries_length : (n : ℕ) (ls : List ℕ) (us : List (Option ℕ)) (ss : List ℕ) (cs : List Context) → length ls ≡ n → length us ≡ n → length ss ≡ n → length cs ≡ n → length (entries_of ls us ss cs) ≡ n
entries_length n [] us ss cs a b c d = a
entries_length n (l ∷ ls) [] ss cs a b c d = absurd (omega (arith, a, b))
entries_length n (l ∷ ls) (u ∷ us) [] cs a b c d = absurd (omega (arith, a, c))
entries_length n (l ∷ ls) (u ∷ us) (s ∷ ss) [] a b c d = absurd (omega (arith, a, d))
entries_length zero (l ∷ ls) (u ∷ us) (s ∷ ss) (p ∷ cs) a b c d = absurd (omega (arith, a))
entries_length (suc n) (l ∷ ls) (u ∷ us) (s ∷ ss) (p ∷ cs) a b c d =
    ap suc (entries_length n ls us ss cs (omega (arith, a)) (omega (arith, b)) (omega (arith, c)) (omega (arith, d)))

-- the entry at a place
pub entry_is : (ls : List ℕ) (us : List (Option ℕ)) (ss : List ℕ) (cs : List Context) (k : ℕ) (e : Entry) (l : ℕ) (u : Option ℕ) (s : ℕ) (c : Context)
    → k < length ls → k < length us → k < length ss → k < length cs
    → get_or (entries_of ls us ss cs) k e ≡ record { lower = get_or ls k l; upper = get_or us k u; share = get_or ss k s; context = get_or cs k c }
entry_is [] us ss cs k e l u s c h i j m = absurd (omega (arith, h))
entry_is (l' ∷ ls) [] ss cs k e l u s c h i j m = absurd (omega (arith, i))
entry_is (l' ∷ ls) (u' ∷ us) [] cs k e l u s c h i j m = absurd (omega (arith, j))
entry_is (l' ∷ ls) (u' ∷ us) (s' ∷ ss) [] k e l u s c h i j m = absurd (omega (arith, m))
entry_is (l' ∷ ls) (u' ∷ us) (s' ∷ ss) (c' ∷ cs) zero e l u s c h i j m = refl
entry_is (l' ∷ ls) (u' ∷ us) (s' ∷ ss) (c' ∷ cs) (suc k) e l u s c h i j m =
    entry_is ls us ss cs k e l u s c (omega (arith, h)) (omega (arith, i)) (omega (arith, j)) (omega (arith, m))

-- an entry whose four parts are written
pub entries_set : (ls : List ℕ) (us : List (Option ℕ)) (ss : List ℕ) (cs : List Context) (k l : ℕ) (u : Option ℕ) (s : ℕ) (c : Context)
    → entries_of (set ls k l) (set us k u) (set ss k s) (set cs k c) ≡ set (entries_of ls us ss cs) k (record { lower = l; upper = u; share = s; context = c })
entries_set [] us ss cs k l u s c = refl
entries_set (l' ∷ ls) [] ss cs zero l u s c = refl
entries_set (l' ∷ ls) [] ss cs (suc k) l u s c = refl
entries_set (l' ∷ ls) (u' ∷ us) [] cs zero l u s c = refl
entries_set (l' ∷ ls) (u' ∷ us) [] cs (suc k) l u s c = refl
entries_set (l' ∷ ls) (u' ∷ us) (s' ∷ ss) [] zero l u s c = refl
entries_set (l' ∷ ls) (u' ∷ us) (s' ∷ ss) [] (suc k) l u s c = refl
entries_set (l' ∷ ls) (u' ∷ us) (s' ∷ ss) (c' ∷ cs) zero l u s c = refl
entries_set (l' ∷ ls) (u' ∷ us) (s' ∷ ss) (c' ∷ cs) (suc k) l u s c =
    ap (λ (es : List Entry). record { lower = l'; upper = u'; share = s'; context = c' } ∷ es) (entries_set ls us ss cs k l u s c)

-- an entry whose share is written
pub entries_set_share : (ls : List ℕ) (us : List (Option ℕ)) (ss : List ℕ) (cs : List Context) (k s : ℕ)
    → entries_of ls us (set ss k s) cs ≡ set (entries_of ls us ss cs) k (record (get_or (entries_of ls us ss cs) k blank) { share = s })
entries_set_share [] us ss cs k s = refl
entries_set_share (l' ∷ ls) [] ss cs k s = refl
entries_set_share (l' ∷ ls) (u' ∷ us) [] cs k s = refl
entries_set_share (l' ∷ ls) (u' ∷ us) (s' ∷ ss) [] zero s = refl
entries_set_share (l' ∷ ls) (u' ∷ us) (s' ∷ ss) [] (suc k) s = refl
entries_set_share (l' ∷ ls) (u' ∷ us) (s' ∷ ss) (c' ∷ cs) zero s = refl
entries_set_share (l' ∷ ls) (u' ∷ us) (s' ∷ ss) (c' ∷ cs) (suc k) s =
    ap (λ (es : List Entry). record { lower = l'; upper = u'; share = s'; context = c' } ∷ es) (entries_set_share ls us ss cs k s)

pub entries_take : (n : ℕ) (ls : List ℕ) (us : List (Option ℕ)) (ss : List ℕ) (cs : List Context) → take n (entries_of ls us ss cs) ≡ entries_of (take n ls) (take n us) (take n ss) (take n cs)
entries_take zero ls us ss cs = refl
entries_take (suc n) [] us ss cs = refl
entries_take (suc n) (l ∷ ls) [] ss cs = refl
entries_take (suc n) (l ∷ ls) (u ∷ us) [] cs = refl
entries_take (suc n) (l ∷ ls) (u ∷ us) (s ∷ ss) [] = refl
entries_take (suc n) (l ∷ ls) (u ∷ us) (s ∷ ss) (c ∷ cs) =
    ap (λ (es : List Entry). record { lower = l; upper = u; share = s; context = c } ∷ es) (entries_take n ls us ss cs)

-- no lower bounds, or no upper ones, no shares, no contexts: no entries
no_uppers : (ls ss : List ℕ) (cs : List Context) → entries_of ls [] ss cs ≡ []
no_uppers [] ss cs = refl
no_uppers (l ∷ ls) ss cs = refl

no_shares : (ls : List ℕ) (us : List (Option ℕ)) (cs : List Context) → entries_of ls us [] cs ≡ []
no_shares [] us cs = refl
no_shares (l ∷ ls) [] cs = refl
no_shares (l ∷ ls) (u ∷ us) cs = refl

no_contexts : (ls : List ℕ) (us : List (Option ℕ)) (ss : List ℕ) → entries_of ls us ss [] ≡ []
no_contexts [] us ss = refl
no_contexts (l ∷ ls) [] ss = refl
no_contexts (l ∷ ls) (u ∷ us) [] = refl
no_contexts (l ∷ ls) (u ∷ us) (s ∷ ss) = refl

pub entries_drop : (n : ℕ) (ls : List ℕ) (us : List (Option ℕ)) (ss : List ℕ) (cs : List Context) → drop n (entries_of ls us ss cs) ≡ entries_of (drop n ls) (drop n us) (drop n ss) (drop n cs)
entries_drop zero ls us ss cs = refl
entries_drop (suc n) [] us ss cs = refl
entries_drop (suc n) (l ∷ ls) [] ss cs = sym (no_uppers (drop n ls) (drop (suc n) ss) (drop (suc n) cs))
entries_drop (suc n) (l ∷ ls) (u ∷ us) [] cs = sym (no_shares (drop n ls) (drop n us) (drop (suc n) cs))
entries_drop (suc n) (l ∷ ls) (u ∷ us) (s ∷ ss) [] = sym (no_contexts (drop n ls) (drop n us) (drop n ss))
entries_drop (suc n) (l ∷ ls) (u ∷ us) (s ∷ ss) (c ∷ cs) = entries_drop n ls us ss cs

-- blank entries
pub entries_blank : (n : ℕ) → entries_of (replicate n 0) (replicate n None) (replicate n 0) (replicate n []) ≡ replicate n blank
entries_blank zero = refl
entries_blank (suc n) = ap (λ (es : List Entry). blank ∷ es) (entries_blank n)

-- entries behind entries
pub entries_append : (n : ℕ) (ls ls' : List ℕ) (us us' : List (Option ℕ)) (ss ss' : List ℕ) (cs cs' : List Context) → length ls ≡ n → length us ≡ n → length ss ≡ n → length cs ≡ n
    → entries_of (ls ++ ls') (us ++ us') (ss ++ ss') (cs ++ cs') ≡ entries_of ls us ss cs ++ entries_of ls' us' ss' cs'
entries_append n [] ls' [] us' [] ss' [] cs' a b c d = refl
entries_append n [] ls' (u ∷ us) us' ss ss' cs cs' a b c d = absurd (omega (arith, a, b))
entries_append n [] ls' [] us' (s ∷ ss) ss' cs cs' a b c d = absurd (omega (arith, a, c))
entries_append n [] ls' [] us' [] ss' (x ∷ cs) cs' a b c d = absurd (omega (arith, a, d))
entries_append n (l ∷ ls) ls' [] us' ss ss' cs cs' a b c d = absurd (omega (arith, a, b))
entries_append n (l ∷ ls) ls' (u ∷ us) us' [] ss' cs cs' a b c d = absurd (omega (arith, a, c))
entries_append n (l ∷ ls) ls' (u ∷ us) us' (s ∷ ss) ss' [] cs' a b c d = absurd (omega (arith, a, d))
entries_append n (l ∷ ls) ls' (u ∷ us) us' (s ∷ ss) ss' (x ∷ cs) cs' a b c d =
    ap (λ (es : List Entry). record { lower = l; upper = u; share = s; context = x } ∷ es)
    (entries_append (length ls) ls ls' us us' ss ss' cs cs' refl (omega (arith, a, b)) (omega (arith, a, c)) (omega (arith, a, d)))
