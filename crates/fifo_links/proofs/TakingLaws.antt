-- Taking from a head, item by item.
use Rattle.std.proofs.Common.{◌≡◌, ℕ, ◌+◌, ◌<◌, ◌≤◌, List, [], ◌∷◌, ◌++◌, length, refl, ap, ◌∙◌, sym, append_assoc, append-nil, arith, length-append, subst}
use mathlib.Core.List.{IsPrefix}
use Rattle.fifo_links.specs.declared.ends.LinkHead.{LinkHead}
use Rattle.fifo_links.specs.Slots.{ring_slots}
use Rattle.fifo_links.specs.Link.{taken_from, known_to, HasTaken}

module _ {T : Type 0} where
  -- `count` items were taken so far and appended to a list
  pub record IsTaking (before : LinkHead T) (old : List T) (count : ℕ) (now : LinkHead T) (new : List T) : Type 0 where
    pub items : List T
    pub taken : taken_from now ≡ taken_from before ++ items
    pub added : new ≡ old ++ items
    pub counted : count ≡ length items
    pub ahead : IsPrefix (known_to before) (items ++ known_to now)

  pub taking_none : (h : LinkHead T) (old : List T) → IsTaking h old 0 h old
  taking_none h old = record { items = []; taken = sym (append-nil _); added = sym (append-nil _); counted = refl; ahead = ([], append-nil _) }

  -- one more item was taken of what was ahead
  ahead_more : (ahead items now after : List T) (x : T) → IsPrefix ahead (items ++ now) → IsPrefix now (x ∷ after) → IsPrefix ahead ((items ++ x ∷ []) ++ after)
  ahead_more ahead items now after x p q = (
    p.0 ++ q.0,
    sym (append_assoc ahead p.0 q.0) ∙ ap (λ ys. ys ++ q.0) p.1 ∙ append_assoc items now q.0 ∙ ap (λ ys. items ++ ys) q.1 ∙ sym (append_assoc items (x ∷ []) after),
  )

  ahead_length : (ahead items now : List T) → IsPrefix ahead (items ++ now) → length ahead ≤ length items + length now
  ahead_length ahead items now p = let e : length (ahead ++ p.0) ≡ length (items ++ now) = ap length p.1 in omega (arith, length-append ahead p.0, length-append items now)

  pub taking_more : (before : LinkHead T) (old : List T) (count : ℕ) (now after : LinkHead T) (new newer : List T) (x : T) → IsTaking before old count now new
      → taken_from after ≡ taken_from now ++ x ∷ [] → IsPrefix (known_to now) (x ∷ known_to after) → newer ≡ new ++ x ∷ [] → IsTaking before old (count + 1) after newer
  taking_more before old count now after new newer x t gone p put = record {
    items = t.items ++ x ∷ [];
    taken = gone ∙ ap (λ ys. ys ++ x ∷ []) t.taken ∙ append_assoc (taken_from before) t.items (x ∷ []);
    added = put ∙ ap (λ ys. ys ++ x ∷ []) t.added ∙ append_assoc old t.items (x ∷ []);
    counted = let c = t.counted in omega (arith, length-append t.items (x ∷ []));
    ahead = ahead_more (known_to before) t.items (known_to now) (known_to after) x t.ahead p;
  }

  -- taking ends at an empty ring, or at as many items as a ring holds
  pub taking_empty : (before : LinkHead T) (old : List T) (count : ℕ) (now after : LinkHead T) (new : List T) → IsTaking before old count now new → count ≤ ring_slots
      → taken_from after ≡ taken_from now → known_to after ≡ [] → known_to now ≡ [] → HasTaken before old count after new
  taking_empty before old count now after new t few same none nothing = record {
    items = t.items;
    taken = same ∙ t.taken;
    added = t.added;
    counted = t.counted;
    most = few;
    ahead = subst (λ (ys : List T). IsPrefix (known_to before) (t.items ++ ys)) (nothing ∙ sym none) t.ahead;
    known = let c = t.counted in omega (arith, ahead_length (known_to before) t.items (known_to now) t.ahead, ap length nothing);
    all = λ _. none;
  }

  pub taking_all : (before : LinkHead T) (old : List T) (count : ℕ) (now : LinkHead T) (new : List T) → IsTaking before old count now new → count ≡ ring_slots
      → length (known_to before) ≤ ring_slots → HasTaken before old count now new
  taking_all before old count now new t end most = record {
    items = t.items;
    taken = t.taken;
    added = t.added;
    counted = t.counted;
    ahead = t.ahead;
    most = omega (arith, end);
    known = omega (arith, end);
    all = λ (less : count < ring_slots). let e : count ≡ ring_slots = end in absurd (omega arith);
  }
