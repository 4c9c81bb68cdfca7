-- Lists of references to what they are of, and the children of a tree.
use Rattle.std.proofs.Common.{◌≡◌, ℕ, ◌+◌, ◌<◌, Bool, true, false, cond, List, [], ◌∷◌, ◌++◌, map, length, get_or, take, min, Bor, All, sym, ap, subst, ◌∙◌, arith}
use Rattle.std.specs.List.{filter, sum_by}
use Rattle.std.proofs.lemmas.Bool.{cond-true, cond-false}
use Rattle.std.proofs.lemmas.List.{map-append, append-nil, length-map, get_or-map}
use Rattle.std.proofs.lemmas.List.Elements.{filter_more}
use Rattle.std.proofs.lemmas.List.Sums.{sum_by_more}
use Rattle.pseudotree.specs.Tree.{children_of}
use Rattle.pseudotree.proofs.CheckLaws.{within_tree}
use Rattle.dcop_optimum.proofs.JoinLaws.{children_parent}

-- what references are of
abbrev pub targets : {X : Type 0} → List (Bor X) → List X
targets {X} rs = map (λ (r : Bor X). r.now) rs

-- one more element that passes, and one that does not
pub keeps : {X : Type 0} (p : X → Bool) (xs : List X) (i : ℕ) (x : X) (old new : List (Bor X)) (b : Bor X) → i < length xs → x ≡ get_or xs i x → b.now ≡ x → p x ≡ true
    → targets old ≡ filter p (take i xs) → new ≡ old ++ (b ∷ []) → targets new ≡ filter p (take (i + 1) xs)
keeps {X} p xs i x old new b lt is now passes before after =
    ap (λ (rs : List (Bor X)). targets rs) after ∙ map-append (λ (r : Bor X). r.now) old (b ∷ [])
    ∙ ap (λ (ys : List X). ys ++ (b.now ∷ [])) before
    ∙ ap (λ (y : X). filter p (take i xs) ++ (y ∷ [])) now
    ∙ ap (λ (ys : List X). filter p (take i xs) ++ ys) (sym (cond-true (p x) (x ∷ []) [] passes))
    ∙ ap (λ (y : X). filter p (take i xs) ++ cond (p y) (y ∷ []) []) is
    ∙ sym (filter_more p xs i x lt)

pub skips : {X : Type 0} (p : X → Bool) (xs : List X) (i : ℕ) (x : X) (old new : List (Bor X)) → i < length xs → x ≡ get_or xs i x → p x ≡ false
    → targets old ≡ filter p (take i xs) → new ≡ old → targets new ≡ filter p (take (i + 1) xs)
skips {X} p xs i x old new lt is fails before after =
    ap (λ (rs : List (Bor X)). targets rs) after ∙ before
    ∙ sym (append-nil (filter p (take i xs)))
    ∙ ap (λ (ys : List X). filter p (take i xs) ++ ys) (sym (cond-false (p x) (x ∷ []) [] fails))
    ∙ ap (λ (y : X). filter p (take i xs) ++ cond (p y) (y ∷ []) []) is
    ∙ sym (filter_more p xs i x lt)

-- a child is a variable of the tree
pub child_below : (paths : List (List ℕ)) (i k c : ℕ) → k < length (children_of paths i) → c ≡ get_or (children_of paths i) k c → c < length paths
child_below paths i k c lt is =
    subst (λ (x : ℕ). x < length paths) (sym is)
    (within_tree paths (get_or (children_of paths i) k c) i (children_parent paths i k c lt))

-- what is behind a reference of a list, by the list of what references are of
pub target_is : {X : Type 0} (rs : List (Bor X)) (k : ℕ) (r : Bor X) → k < length rs → r ≡ get_or rs k r → r.now ≡ get_or (targets rs) k r.now
target_is {X} rs k r lt is = ap (λ (b : Bor X). b.now) is ∙ sym (get_or-map (λ (b : Bor X). b.now) rs k r r.now lt)

pub target_lt : {X : Type 0} (rs : List (Bor X)) (k : ℕ) → k < length rs → k < length (targets rs)
target_lt {X} rs k lt = rw (length-map rs (λ (b : Bor X). b.now)) lt

pub target_all : {X : Type 0} (P : X → Type 0) (rs : List (Bor X)) (k : ℕ) (r : Bor X) → All P (targets rs) → k < length rs → r ≡ get_or rs k r → P r.now
target_all P rs k r all lt is = rw (target_is rs k r lt is) (all k r.now (target_lt rs k lt))

-- one more term of a capped sum
pub capped_more : {X : Type 0} (f : X → ℕ) (rs : List (Bor X)) (k : ℕ) (r : Bor X) (s a t m : ℕ) → k < length rs → r ≡ get_or rs k r
    → s ≡ min (sum_by f (take k (targets rs))) m → a ≡ f r.now → t ≡ min (s + a) m → t ≡ min (sum_by f (take (k + 1) (targets rs))) m
capped_more f rs k r s a t m lt is so_far term sum =
    let more = sum_by_more f (targets rs) k r.now (target_lt rs k lt) in
    let here = ap f (target_is rs k r lt is) in
    omega (arith, more, here)
