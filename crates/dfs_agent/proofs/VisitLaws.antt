-- Lists of variables: what is marked of them, and what stands in several together.
use Rattle.std.proofs.Common.{◌≡◌, ℕ, zero, suc, ◌+◌, ◌<◌, Bool, true, false, cond, not, ◌&&◌, ◌||◌, ◌==◌, Some, List, [], ◌∷◌, ◌++◌, length, take, drop, set, get_or, refl, sym, ap, ◌∙◌, inl, inr}
use Rattle.std.specs.List.{All, concat, filter, find, list_any}
use Rattle.std.proofs.lemmas.Bool.{cases_eq, eq-eqb, ne_eqb, or_right}
use Rattle.std.proofs.lemmas.List.{take_more, drop_more, take_at, drop_at, append-nil, at_drop_more, get_or-set_same, get_or-set_other}
use Rattle.std.proofs.lemmas.List.Folds.{concat-append, list_any-append}
use Rattle.std.proofs.lemmas.List.Elements.{All-nil, All-cons, All-head, All-tail, All-take, All-drop, All-same}
use Rattle.dcop_base.specs.Table.{has, has_repeat}

-- one more list
pub concat_more : (xss : List (List ℕ)) (k : ℕ) (d : List ℕ) → k < length xss → concat (take (k + 1) xss) ≡ concat (take k xss) ++ get_or xss k d
concat_more xss k d h = ap concat (take_more xss k d h) ∙ concat-append (take k xss) (get_or xss k d ∷ []) ∙ ap (λ xs. concat (take k xss) ++ xs) (append-nil (get_or xss k d))

-- what stands in one more list
pub has_more : (xss : List (List ℕ)) (k : ℕ) (d : List ℕ) (v : ℕ) → k < length xss → has (concat (take (k + 1) xss)) v ≡ (has (concat (take k xss)) v || has (get_or xss k d) v)
has_more xss k d v h = ap (λ xs. has xs v) (concat_more xss k d h) ∙ list_any-append (λ y. y == v) (concat (take k xss)) (get_or xss k d)

-- what stands in the rest, or in the first of the rest
pub has_rest : (xss : List (List ℕ)) (k : ℕ) (d : List ℕ) (v : ℕ) → k < length xss → has (concat (drop k xss)) v ≡ (has (get_or xss k d) v || has (concat (drop (k + 1) xss)) v)
has_rest xss k d v h =
    ap (λ xs. has (concat xs) v) (drop_more xss k d h) ∙ list_any-append (λ y. y == v) (get_or xss k d) (concat (drop (k + 1) xss))

-- what holds of all together holds of each
each_of : (P : ℕ → Type 0) (xss : List (List ℕ)) → All P (concat xss) → All (λ xs. All P xs) xss
each_of P [] h = All-nil (λ xs. All P xs)
each_of P (xs ∷ xss) h =
    let first = All-same P xs (take (length xs) (xs ++ concat xss)) (sym (take_at xs (concat xss) (length xs) refl)) (All-take P (length xs) (xs ++ concat xss) h) in
    let rest = All-same P (concat xss) (drop (length xs) (xs ++ concat xss)) (sym (drop_at xs (concat xss) (length xs) refl)) (All-drop P (length xs) (xs ++ concat xss) h) in
    All-cons (λ ys. All P ys) xs xss first (each_of P xss rest)

pub each_below : (n : ℕ) (xss : List (List ℕ)) → All (λ v. v < n) (concat xss) → All (λ xs. All (λ v. v < n) xs) xss
each_below n xss h = each_of (λ v. v < n) xss h

-- tests that agree on all of a list find the same
pub find-agree : (f g : ℕ → Bool) (xs : List ℕ) → All (λ x. f x ≡ g x) xs → find f xs ≡ find g xs
find-agree f g [] h = refl
find-agree f g (x ∷ xs) h =
    ap (λ b. cond b (Some x) (find f xs)) (All-head (λ y. f y ≡ g y) x xs h) ∙ ap (λ o. cond (g x) (Some x) o) (find-agree f g xs (All-tail (λ y. f y ≡ g y) x xs h))

-- and keep the same
pub filter-agree : (f g : ℕ → Bool) (xs : List ℕ) → All (λ x. f x ≡ g x) xs → filter f xs ≡ filter g xs
filter-agree f g [] h = refl
filter-agree f g (x ∷ xs) h =
    let rest = filter-agree f g xs (All-tail (λ y. f y ≡ g y) x xs h) in
    ap (λ b. cond b (x ∷ filter f xs) (filter f xs)) (All-head (λ y. f y ≡ g y) x xs h) ∙ ap (λ ys. cond (g x) (x ∷ ys) ys) rest

-- no mark is set
pub blank : (marks : List Bool) (v : ℕ) → All (λ mark. mark ≡ false) marks → get_or marks v false ≡ false
blank [] v h = refl
blank (b ∷ bs) zero h = All-head (λ mark. mark ≡ false) b bs h
blank (b ∷ bs) (suc v) h = blank bs v (All-tail (λ mark. mark ≡ false) b bs h)

-- whether variables are distinct and not marked
abbrev pub are_spare : List Bool → List ℕ → Bool
are_spare marks xs = not (has_repeat xs) && not (list_any (λ v. get_or marks v false) xs)

spare_not : (a b c : Bool) → (not (a || b) && not (true || c)) ≡ false
spare_not true b c = refl
spare_not false true c = refl
spare_not false false c = refl

-- a marked variable is not spare
pub spare_marked : (marks : List Bool) (x : ℕ) (xs : List ℕ) → get_or marks x false ≡ true → are_spare marks (x ∷ xs) ≡ false
spare_marked marks x xs h = ap (λ b. not (has xs x || has_repeat xs) && not (b || list_any (λ v. get_or marks v false) xs)) h ∙ spare_not (has xs x) (has_repeat xs) (list_any (λ v. get_or marks v false) xs)

or_false : (b : Bool) → (b || false) ≡ b
or_false true = refl
or_false false = refl

marked_after : (marks : List Bool) (x v : ℕ) → x < length marks → get_or (set marks x true) v false ≡ (get_or marks v false || v == x)
marked_after marks x v h = elim (cases_eq v x) [
  | inl e ↦
      let there : get_or (set marks x true) v false ≡ true = ap (λ k. get_or (set marks x true) k false) e ∙ get_or-set_same marks x true false h in
      there ∙ sym (or_right (get_or marks v false) (v == x) (eq-eqb v x e))
  | inr ne ↦ get_or-set_other marks x v true false ne ∙ sym (or_false (get_or marks v false)) ∙ ap (λ b. get_or marks v false || b) (sym (ne_eqb v x ne))
]

shuffled : (a b c d : Bool) → ((a || b) || (c || d)) ≡ ((a || c) || (b || d))
shuffled true b c d = refl
shuffled false true true d = refl
shuffled false true false d = refl
shuffled false false c d = refl

any_marked : (marks : List Bool) (x : ℕ) (xs : List ℕ) → x < length marks → list_any (λ v. get_or (set marks x true) v false) xs ≡ (list_any (λ v. get_or marks v false) xs || has xs x)
any_marked marks x [] h = refl
any_marked marks x (y ∷ ys) h =
    ap (λ b. b || list_any (λ v. get_or (set marks x true) v false) ys) (marked_after marks x y h)
    ∙ ap (λ b. (get_or marks y false || y == x) || b) (any_marked marks x ys h)
    ∙ shuffled (get_or marks y false) (y == x) (list_any (λ v. get_or marks v false) ys) (has ys x)

spare_moved : (a b c : Bool) → (not (a || b) && not c) ≡ (not b && not (c || a))
spare_moved true true c = refl
spare_moved true false true = refl
spare_moved true false false = refl
spare_moved false true c = refl
spare_moved false false true = refl
spare_moved false false false = refl

-- a variable that is not marked is marked for the rest
pub spare_more : (marks : List Bool) (x : ℕ) (xs : List ℕ) → x < length marks → get_or marks x false ≡ false → are_spare marks (x ∷ xs) ≡ are_spare (set marks x true) xs
spare_more marks x xs lt h =
    ap (λ b. not (has xs x || has_repeat xs) && not (b || list_any (λ v. get_or marks v false) xs)) h
    ∙ spare_moved (has xs x) (has_repeat xs) (list_any (λ v. get_or marks v false) xs)
    ∙ ap (λ b. not (has_repeat xs) && not b) (sym (any_marked marks x xs lt))

pub spare_next : (marks : List Bool) (vars : List ℕ) (k x : ℕ) → k < length vars → x ≡ get_or vars k x → x < length marks → get_or marks x false ≡ false → are_spare marks (drop k vars) ≡ are_spare (set marks x true) (drop (k + 1) vars)
spare_next marks vars k x lt e within h =
    at_drop_more (are_spare marks) vars k x lt ∙ ap (λ y. are_spare marks (y ∷ drop (k + 1) vars)) (sym e) ∙ spare_more marks x (drop (k + 1) vars) within h

pub spare_end : (marks : List Bool) (vars : List ℕ) (k x : ℕ) → k < length vars → x ≡ get_or vars k x → get_or marks x false ≡ true → are_spare marks (drop k vars) ≡ false
spare_end marks vars k x lt e h =
    at_drop_more (are_spare marks) vars k x lt ∙ ap (λ y. are_spare marks (y ∷ drop (k + 1) vars)) (sym e) ∙ spare_marked marks x (drop (k + 1) vars) h

none_marked : (marks : List Bool) (vars : List ℕ) → All (λ mark. mark ≡ false) marks → list_any (λ v. get_or marks v false) vars ≡ false
none_marked marks [] h = refl
none_marked marks (v ∷ vs) h = ap (λ b. b || list_any (λ w. get_or marks w false) vs) (blank marks v h) ∙ none_marked marks vs h

-- where one variable alone is marked
pub one_marked : (marks : List Bool) (me : ℕ) (vars : List ℕ) → All (λ mark. mark ≡ false) marks → me < length marks → list_any (λ v. get_or (set marks me true) v false) vars ≡ has vars me
one_marked marks me vars none h = any_marked marks me vars h ∙ ap (λ b. b || has vars me) (none_marked marks vars none)

pub spare_one : (marks : List Bool) (me : ℕ) (vars : List ℕ) → All (λ mark. mark ≡ false) marks → me < length marks → are_spare (set marks me true) vars ≡ (not (has_repeat vars) && not (has vars me))
spare_one marks me vars none h = ap (λ b. not (has_repeat vars) && not b) (one_marked marks me vars none h)
