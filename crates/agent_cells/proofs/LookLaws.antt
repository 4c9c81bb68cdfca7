-- Looking at heads, one by one.
use Rattle.std.proofs.Common.{◌≡◌, ℕ, zero, suc, ◌+◌, ◌<◌, ◌≤◌, Bool, true, false, ◌==◌, if◌then◌else◌, List, [], ◌∷◌, ◌++◌, length, take, set, get_or, refl, ap, sym, ◌∙◌, subst, arith}
use Rattle.std.proofs.lemmas.List.{take_more_set, map-append, set-get_or}
use Rattle.std.proofs.lemmas.List.Sums.{sum_by-cons, sum_by-append}
use Rattle.std.proofs.Math.Seq.{map-set_same, take-length}
use Rattle.protocol_steps.specs.declared.message.Message.{Message}
use Rattle.fifo_links.specs.Link.{taken_from, known_to, SameHead}
use Rattle.worker_laws.specs.Cells.{Lane, known_from}
use Rattle.agent_cells.specs.Links.{Head, lanes_taken, known_of}
use Rattle.agent_cells.specs.Collected.{HaveLooked, HasFoundNothing}
use Rattle.agent_cells.proofs.SameLaws.{same_heads, heads_set}

either-le : (b : Bool) (m n : ℕ) → m ≤ n → (if b then m else 0) ≤ (if b then n else 0)
either-le true m n le = le
either-le false m n le = omega arith

-- a head that knows no less adds no less
known_set : (j : ℕ) (hs : List Head) (k : ℕ) (d y : Head) → y.0 ≡ (get_or hs k d).0 → length (known_to (get_or hs k d).1) ≤ length (known_to y.1)
    → known_from j (known_of hs) ≤ known_from j (known_of (set hs k y))
known_set j [] k d y peer le = omega arith
known_set j (x ∷ hs) zero d y peer le =
    let old = sum_by-cons (λ (n : ℕ × ℕ). if n.0 == j then n.1 else 0) (x.0, length (known_to x.1)) (known_of hs) in
    let new = sum_by-cons (λ (n : ℕ × ℕ). if n.0 == j then n.1 else 0) (y.0, length (known_to y.1)) (known_of hs) in
    let one = either-le (x.0 == j) (length (known_to x.1)) (length (known_to y.1)) le in
    let same : (if y.0 == j then length (known_to y.1) else 0) ≡ (if x.0 == j then length (known_to y.1) else 0) = ap (λ (n : ℕ). if n == j then length (known_to y.1) else 0) peer in
    omega (arith, old, new, one, same)
known_set j (x ∷ hs) (suc k) d y peer le =
    let old = sum_by-cons (λ (n : ℕ × ℕ). if n.0 == j then n.1 else 0) (x.0, length (known_to x.1)) (known_of hs) in
    let new = sum_by-cons (λ (n : ℕ × ℕ). if n.0 == j then n.1 else 0) (x.0, length (known_to x.1)) (known_of (set hs k y)) in
    let rest = known_set j hs k d y peer le in
    omega (arith, old, new, rest)

pub looked_none : (hs : List Head) → HaveLooked hs hs
looked_none hs = record { same = same_heads hs; taken = refl; known = λ j. omega arith }

-- one more head was looked at
pub looked_more : (xs ys : List Head) (k : ℕ) (h after : Head) → HaveLooked xs ys → k < length ys → after.0 ≡ (get_or ys k h).0 → SameHead (get_or ys k h).1 after.1
    → taken_from after.1 ≡ taken_from (get_or ys k h).1 → length (known_to (get_or ys k h).1) ≤ length (known_to after.1) → HaveLooked xs (set ys k after)
looked_more xs ys k h after l inside peer end taken known = record {
  same = heads_set xs ys k h after l.same inside (record { peer = peer; end = end });
  taken = map-set_same (λ (x : Head). let y : Lane = record { peer = x.0; messages = taken_from x.1 } in y) ys k after h
      (ap (λ (n : ℕ). let y : Lane = record { peer = n; messages = taken_from after.1 } in y) peer
      ∙ ap (λ (es : List (ℕ × Message)). let y : Lane = record { peer = (get_or ys k h).0; messages = es } in y) taken) ∙ l.taken;
  known = λ j. let a = l.known j in let b = known_set j ys k h after peer known in omega (arith, a, b);
}

-- a list without elements
empty_list : {A : Type 0} (xs : List A) → length xs ≡ 0 → xs ≡ []
empty_list [] none = refl
empty_list (x ∷ xs) none = absurd (omega (arith, none))

either-none : (b : Bool) (n : ℕ) → n ≡ 0 → (if b then n else 0) ≡ 0
either-none true n e = e
either-none false n e = refl

-- of the first k heads none knows of a message
pub none_more : (ys : List Head) (k : ℕ) (after : Head) → ((j : ℕ) → known_from j (known_of (take k ys)) ≡ 0) → k < length ys → known_to after.1 ≡ []
    → (j : ℕ) → known_from j (known_of (take (k + 1) (set ys k after))) ≡ 0
none_more ys k after none inside empty j =
    let whole : known_from j (known_of (take (k + 1) (set ys k after))) ≡ known_from j (known_of (take k ys) ++ (after.0, length (known_to after.1)) ∷ [])
    = ap (λ hs. known_from j (known_of hs)) (take_more_set ys k after inside)
    ∙ ap (known_from j) (map-append (λ (h : Head). (h.0, length (known_to h.1))) (take k ys) (after ∷ [])) in
    let parts = sum_by-append (λ (n : ℕ × ℕ). if n.0 == j then n.1 else 0) (known_of (take k ys)) ((after.0, length (known_to after.1)) ∷ []) in
    let last = sum_by-cons (λ (n : ℕ × ℕ). if n.0 == j then n.1 else 0) (after.0, length (known_to after.1)) [] in
    let one : (if after.0 == j then length (known_to after.1) else 0) ≡ 0 = either-none (after.0 == j) (length (known_to after.1)) (ap length empty) in
    let before = none j in
    omega (arith, whole, parts, last, one, before)

-- nor do the first k + 1
pub none_next : (ys : List Head) (k : ℕ) (d : Head) → ((j : ℕ) → known_from j (known_of (take k ys)) ≡ 0) → k < length ys → known_to (get_or ys k d).1 ≡ []
    → (j : ℕ) → known_from j (known_of (take (k + 1) ys)) ≡ 0
none_next ys k d none inside empty j = subst (λ (hs : List Head). known_from j (known_of (take (k + 1) hs)) ≡ 0) (set-get_or ys k d) (none_more ys k (get_or ys k d) none inside empty j)

-- a head that knows of no message
pub empty_at : (ys : List Head) (k : ℕ) (h : Head) → h ≡ get_or ys k h → (count : ℕ) → count ≡ length (known_to h.1) → count ≡ 0 → known_to (get_or ys k h).1 ≡ []
empty_at ys k h is count counted none = empty_list (known_to (get_or ys k h).1) (ap (λ (y : Head). length (known_to y.1)) (sym is) ∙ sym counted ∙ none)

pub none_all : (ys : List Head) (k : ℕ) → k ≡ length ys → ((j : ℕ) → known_from j (known_of (take k ys)) ≡ 0) → (j : ℕ) → known_from j (known_of ys) ≡ 0
none_all ys k end none j = sym (ap (λ hs. known_from j (known_of hs)) (ap (λ n. take n ys) end ∙ take-length ys)) ∙ none j

pub found_nothing : (xs ys : List Head) → HaveLooked xs ys → ((j : ℕ) → known_from j (known_of ys) ≡ 0) → HasFoundNothing xs ys
found_nothing xs ys l none = record { look = l; none = λ j. let a = l.known j in let b = none j in omega (arith, a, b) }

-- the messages on a cell's links after a look at its heads
pub looked_taken : (xs ys zs : List Head) → HaveLooked ys zs → ys ≡ xs → lanes_taken xs ≡ lanes_taken zs
looked_taken xs ys zs l e = sym (l.taken ∙ ap lanes_taken e)

pub looked_known : (xs ys zs : List Head) → HaveLooked ys zs → ys ≡ xs → (j : ℕ) → known_from j (known_of xs) ≤ known_from j (known_of zs)
looked_known xs ys zs l e j = subst (λ (hs : List Head). known_from j (known_of hs) ≤ known_from j (known_of zs)) e (l.known j)

pub nothing_known : (xs ys zs : List Head) → HasFoundNothing ys zs → ys ≡ xs → (j : ℕ) → known_from j (known_of xs) ≡ 0
nothing_known xs ys zs n e j = ap (λ (hs : List Head). known_from j (known_of hs)) (sym e) ∙ n.none j
