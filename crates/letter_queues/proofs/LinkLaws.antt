-- The link of a sender in an inbox: found, looked up, and changed.
use Rattle.std.proofs.Common.{◌≡◌, ℕ, zero, suc, ◌<◌, ◌-◌, Bool, true, false, cond, ◌==◌, nat_lt, List, [], ◌∷◌, ◌++◌, ◌+◌, length, take, drop, get_or, Option, Some, None, refl, sym, ap, ◌∙◌, arith, take-add, drop-drop}
use native.Mathlib.Numerals.{unary_clauses}
use Rattle.std.specs.List.{find, position, position_or_len, slice_set, last_or}
use Rattle.std.proofs.lemmas.Bool.{ltb-false}
use Rattle.std.proofs.lemmas.List.{append-nil}
use Rattle.std.proofs.lemmas.Option.{slice_get_past, none-some}
use Rattle.std.proofs.lemmas.List.Folds.{find_at}
use Rattle.std.proofs.lemmas.List.Quantifiers.{position-Some}
use Rattle.protocol_steps.proofs.EventLaws.{not_then}
use Rattle.protocol_steps.specs.declared.message.Message.{Message}
use Rattle.letter_queues.specs.Links.{LinkView, link_from, waiting_on, waiting_from}
use Rattle.letter_queues.specs.Inboxes.{edit_link}
use Rattle.letter_queues.specs.Queues.{queued}

module _ {X : Type 0} (p : X → Bool) where
  pub find_first : (xs : List X) (k : ℕ) (d : X) → k < length xs → p (get_or xs k d) ≡ true → ((i : ℕ) → i < k → p (get_or xs i d) ≡ false) → find p xs ≡ Some (get_or xs k d)
  find_first [] k d inside here before = absurd (omega (arith, inside))
  find_first (x ∷ xs) zero d inside here before = rw here refl
  find_first (x ∷ xs) (suc k) d inside here before =
      rw (before zero (omega arith)) (find_first xs k d (omega (arith, inside)) here (λ i lt. before (suc i) (omega (arith, lt))))

  not_some : (b : Bool) (n : ℕ) → cond b (Some n) None ≡ None → b ≡ false
  not_some true n h = absurd (none-some n (sym h))
  not_some false n h = refl

  pub find_none : (xs : List X) → position p xs ≡ None → find p xs ≡ None
  find_none xs h =
      find_at p xs ∙ slice_get_past xs (position_or_len p xs) (ltb-false (position_or_len p xs) (length xs) (not_some (nat_lt (position_or_len p xs) (length xs)) (position_or_len p xs) h))

-- the test for a sender
abbrev pub is_from : ℕ → LinkView → Bool
is_from j l = l.from == j

edit_first : (j : ℕ) (f : LinkView → LinkView) (ls : List LinkView) (k : ℕ) (d : LinkView) → k < length ls → is_from j (get_or ls k d) ≡ true → ((i : ℕ) → i < k → is_from j (get_or ls i d) ≡ false)
    → edit_link j f ls ≡ slice_set ls k (f (get_or ls k d))
edit_first j f [] k d inside here before = absurd (omega (arith, inside))
edit_first j f (l ∷ ls) zero d inside here before = rw here refl
edit_first j f (l ∷ ls) (suc k) d inside here before =
    rw (before zero (omega arith)) (ap (λ (zs : List LinkView). l ∷ zs) (edit_first j f ls k d (omega (arith, inside)) here (λ i lt. before (suc i) (omega (arith, lt)))))

pub edited : (j : ℕ) (f : LinkView → LinkView) (ls : List LinkView) (k : ℕ) (d : LinkView) → position (λ l. l.from == j) ls ≡ Some k → slice_set ls k (f (get_or ls k d)) ≡ edit_link j f ls
edited j f ls k d h =
    let at = position-Some (is_from j) ls k d h in
    sym (edit_first j f ls k d at.0 at.1 at.2)

edit_none : (j : ℕ) (f : LinkView → LinkView) (ls : List LinkView) → find (is_from j) ls ≡ None → edit_link j f ls ≡ ls
edit_none j f [] h = refl
edit_none j f (l ∷ ls) h =
    let parts = not_then (is_from j l) l (find (is_from j) ls) h in
    rw parts.0 (ap (λ (zs : List LinkView). l ∷ zs) (edit_none j f ls parts.1))

pub unedited : (j : ℕ) (f : LinkView → LinkView) (ls : List LinkView) → position (λ l. l.from == j) ls ≡ None → ls ≡ edit_link j f ls
unedited j f ls h = sym (edit_none j f ls (find_none (is_from j) ls h))

pub found : (j : ℕ) (ls : List LinkView) (k : ℕ) (d : LinkView) → position (λ l. l.from == j) ls ≡ Some k → link_from j ls ≡ Some (get_or ls k d)
found j ls k d h =
    let at = position-Some (is_from j) ls k d h in
    find_first (is_from j) ls k d at.0 at.1 at.2

pub missed : (j : ℕ) (ls : List LinkView) → position (λ l. l.from == j) ls ≡ None → link_from j ls ≡ None
missed j ls h = find_none (is_from j) ls h

-- letters after others: the next ones of a link
pub front_of : (ms : List (ℕ × Message)) (count j : ℕ) (ls : List LinkView) (k : ℕ) (d : LinkView) → position (λ l. l.from == j) ls ≡ Some k
    → ms ++ take count (get_or ls k d).waiting ≡ ms ++ take count (waiting_from ls j)
front_of ms count j ls k d h = ap (λ (o : Option LinkView). ms ++ take count (waiting_on o)) (sym (found j ls k d h))

take_none : (count : ℕ) (ms : List (ℕ × Message)) → ms ≡ [] → take count ms ≡ []
take_none zero ms h = refl
take_none (suc count) ms h = ap (λ (zs : List (ℕ × Message)). take (suc count) zs) h

pub front_none : (ms : List (ℕ × Message)) (count j : ℕ) (ls : List LinkView) → position (λ l. l.from == j) ls ≡ None → ms ≡ ms ++ take count (waiting_from ls j)
front_none ms count j ls h =
    sym (ap (λ (zs : List (ℕ × Message)). ms ++ zs) (take_none count (waiting_from ls j) (ap waiting_on (missed j ls h))) ∙ append-nil ms)

-- the last element of a list that has one
last_push : {A : Type 0} (o : Option A) (xs : List A) (d : A) → 0 < length xs → last_or o xs ≡ Some (get_or xs (length xs - 1) d)
last_push o [] d some = absurd (omega (arith, some))
last_push o (x ∷ []) d some = refl
last_push o (x ∷ y ∷ ys) d some =
    last_push (Some x) (y ∷ ys) d (omega arith) ∙ simp unary_clauses

pub last_is : {A : Type 0} (o : Option A) (xs : List A) (d : A) → 0 < length xs → d ≡ get_or xs (length xs - 1) d → last_or o xs ≡ Some d
last_is o xs d some is = last_push o xs d some ∙ ap (λ y. Some y) (sym is)

-- the last letter of a queue with letters after its first one
pub last_queued : (first : Option (ℕ × Message)) (behind : List (ℕ × Message)) (o : Option (ℕ × Message)) (d : ℕ × Message) → 0 < length behind → d ≡ get_or behind (length behind - 1) d → last_or o (queued first behind) ≡ Some d
last_queued None behind o d some is = last_is o behind d some is
last_queued (Some first) behind o d some is = last_is (Some first) behind d some is

module _ {X : Type 0} where
  -- if one more element is taken off a list, it is the first of those that are left
  pub one_more : (k : ℕ) (xs ys : List X) (x : X) → x ∷ ys ≡ drop k xs → (take (k + 1) xs ≡ take k xs ++ (x ∷ [])) × (ys ≡ drop (k + 1) xs)
  one_more k xs ys x h =
      (take-add k 1 xs ∙ ap (λ zs. take k xs ++ take 1 zs) (sym h), ap (drop 1) h ∙ drop-drop 1 k xs)

  -- and if none is left, none is taken
  pub no_more : (k : ℕ) (xs : List X) → [] ≡ drop k xs → (take (k + 1) xs ≡ take k xs) × ([] ≡ drop (k + 1) xs)
  no_more k xs h =
      (take-add k 1 xs ∙ ap (λ zs. take k xs ++ take 1 zs) (sym h) ∙ append-nil (take k xs), ap (drop 1) h ∙ drop-drop 1 k xs)
