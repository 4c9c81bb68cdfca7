-- Lawful takes ask for no more than waits.
use Rattle.std.proofs.Common.{◌≡◌, ℕ, ◌+◌, ◌<◌, ◌≤◌, Bool, true, false, ◌==◌, nat_le, nat_lt, if◌then◌else◌, List, [], ◌∷◌, length, None, refl, ap, subst, inl, inr, arith}
use Rattle.std.specs.List.{list_any}
use Rattle.std.proofs.lemmas.Bool.{cases_eq, eq-eqb, ne_eqb, ltb-false}
use Rattle.std.proofs.lemmas.List.Sums.{sum_by-cons}
use Rattle.protocol_steps.specs.declared.event.Take.{Take}
use Rattle.protocol_steps.specs.declared.event.EventFault.TheVariants.{TooMany}
use Rattle.protocol_steps.specs.Network.{Desk, taken_from, waiting}
use Rattle.protocol_steps.specs.Run.{ascends_from, too_many}
use Rattle.protocol_steps.proofs.EventLaws.{not_then}
use Rattle.letter_queues.proofs.InboxLaws.{asc_parts}
use Rattle.log_replay.proofs.RowLaws.{first_known}

-- nothing is taken of a sender below all others
none_below : (ts : List Take) (b j : ℕ) → ascends_from b ts ≡ true → j < b → taken_from j ts ≡ 0
none_below [] b j h lt = refl
none_below (t ∷ ts) b j h lt =
    let parts = asc_parts b t ts h in
    let le = parts.0 in
    let sum = sum_by-cons (λ (u : Take). if u.from == j then u.count else 0) t ts in
    let other : (if t.from == j then t.count else 0) ≡ 0 = ap (λ (x : Bool). if x then t.count else 0) (ne_eqb t.from j (λ e. omega (arith, e, le, lt))) in
    let rest = none_below ts (t.from + 1) j parts.1 (omega (arith, le, lt)) in
    omega (arith, sum, other, rest)

-- nothing is taken of who is no agent
pub none_past : (n j : ℕ) (ts : List Take) → list_any (λ t. nat_le n t.from) ts ≡ false → n ≤ j → taken_from j ts ≡ 0
none_past n j [] h le = refl
none_past n j (t ∷ ts) h le =
    let parts = first_known n t ts h in
    let lt = parts.0 in
    let sum = sum_by-cons (λ (u : Take). if u.from == j then u.count else 0) t ts in
    let other : (if t.from == j then t.count else 0) ≡ 0 = ap (λ (x : Bool). if x then t.count else 0) (ne_eqb t.from j (λ e. omega (arith, e, le, lt))) in
    let rest = none_past n j ts parts.1 le in
    omega (arith, sum, other, rest)

-- no more is taken of a sender than waits
pub fits_from : (ds : List Desk) (i b j : ℕ) (ts : List Take) → ascends_from b ts ≡ true → too_many ds i ts ≡ None → taken_from j ts ≤ length (waiting ds i j)
fits_from ds i b j [] asc fine = omega arith
fits_from ds i b j (t ∷ ts) asc fine =
    let parts = asc_parts b t ts asc in
    let short = not_then (nat_lt (length (waiting ds i t.from)) t.count) (TooMany t.from t.count (length (waiting ds i t.from))) (too_many ds i ts) fine in
    let here : t.count ≤ length (waiting ds i t.from) = ltb-false (length (waiting ds i t.from)) t.count short.0 in
    let sum = sum_by-cons (λ (u : Take). if u.from == j then u.count else 0) t ts in
    elim (cases_eq t.from j) [
      | inl same ↦
          let none : taken_from j ts ≡ 0 = none_below ts (t.from + 1) j parts.1 (omega (arith, same)) in
          let own : (if t.from == j then t.count else 0) ≡ t.count = ap (λ (x : Bool). if x then t.count else 0) (eq-eqb t.from j same) in
          let most : t.count ≤ length (waiting ds i j) = subst (λ (k : ℕ). t.count ≤ length (waiting ds i k)) same here in
          omega (arith, sum, own, none, most)
      | inr ne ↦
          let own : (if t.from == j then t.count else 0) ≡ 0 = ap (λ (x : Bool). if x then t.count else 0) (ne_eqb t.from j ne) in
          let rest = fits_from ds i (t.from + 1) j ts parts.1 short.1 in
          omega (arith, sum, own, rest)
    ]
