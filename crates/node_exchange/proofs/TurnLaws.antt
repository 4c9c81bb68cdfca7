-- Wires that are used in turn go from the front of a list to its end.
use Rattle.std.proofs.Common.{◌≡◌, ℕ, suc, ◌<◌, ◌≤◌, List, [], ◌∷◌, ◌++◌, length, get_or, Result, Ok, Err, refl, sym, ap, subst, ◌∙◌, arith}
use Rattle.std.specs.Prelude.{IsErrAnd}
use Rattle.std.specs.List.{remove}
use Rattle.std.proofs.lemmas.List.{append-nil, append_assoc, length-append}
use mathlib.Core.List.{IsPrefix}
use Rattle.wire_pump.specs.Wire.{Told}
use Rattle.wire_pump.specs.declared.dialer.DialFault.{DialFault}
use Rattle.wire_pump.specs.declared.dialer.DialFault.TheVariants.{Failed as dial_failed, NoMemory as no_dial_memory}
use Rattle.node_exchange.specs.declared.fault.PassFault.{PassFault}
use Rattle.node_exchange.specs.Faults.{dial_fault}
use Rattle.node_exchange.specs.Turned.{Load, HasCarried, EachCarried, AreTurnedWith, AreTurned, HaveCarriedFirst, HaveCarried, lost_by}

-- a list begins with itself
whole_front : {A : Type 0} (xs : List A) → IsPrefix xs xs
whole_front xs = ([], append-nil xs)

-- a first part of a list, with more behind it
part_front : {A : Type 0} (us vs xs ys : List A) → IsPrefix vs xs → IsPrefix (us ++ xs) ys → IsPrefix (us ++ vs) ys
part_front us vs xs ys p q = (p.0 ++ q.0, append_assoc us vs (p.0 ++ q.0) ∙ ap (λ (zs : List _). us ++ zs) (sym (append_assoc vs p.0 q.0) ∙ ap (λ (zs : List _). zs ++ q.0) p.1) ∙ sym (append_assoc us xs q.0) ∙ q.1)

pub empty : {A : Type 0} (xs : List A) → length xs ≤ 0 → xs ≡ []
empty [] le = refl
empty (x ∷ xs) le = absurd (omega (arith, le))

module _ {W : Type 0} (told : W → Told) (is_joined : W → W → Type 0) where
  each_append : (ls : List Load) (ds es : List (W × W)) (ms : List Load) (fs gs : List (W × W)) → EachCarried told is_joined ls ds es → EachCarried told is_joined ms fs gs
      → EachCarried told is_joined (ls ++ ms) (ds ++ fs) (es ++ gs)
  each_append [] [] [] ms fs gs h k = k
  each_append [] [] (e ∷ es) ms fs gs h k = absurd h
  each_append [] (d ∷ ds) es ms fs gs h k = absurd h
  each_append (l ∷ ls) [] es ms fs gs h k = absurd h
  each_append (l ∷ ls) (d ∷ ds) [] ms fs gs h k = absurd h
  each_append (l ∷ ls) (d ∷ ds) (e ∷ es) ms fs gs h k = (h.0, each_append ls ds es ms fs gs h.1 k)

  each_long : (ls : List Load) (ds es : List (W × W)) → EachCarried told is_joined ls ds es → length ds ≡ length es
  each_long [] [] [] h = refl
  each_long [] [] (e ∷ es) h = absurd h
  each_long [] (d ∷ ds) es h = absurd h
  each_long (l ∷ ls) [] es h = absurd h
  each_long (l ∷ ls) (d ∷ ds) [] h = absurd h
  each_long (l ∷ ls) (d ∷ ds) (e ∷ es) h = ap suc (each_long ls ds es h.1)

  -- no pair was used
  pub with_none : (most : ℕ) (xs : List (W × W)) → AreTurnedWith told is_joined most [] xs xs
  with_none most xs = record { taken = []; used = []; later = tt; gone = []; few = omega arith; turned = append-nil xs }

  pub turned_none : (most : ℕ) (xs : List (W × W)) → AreTurned told is_joined most xs xs
  turned_none most xs = ([], with_none most xs)

  -- more may be gone
  pub with_less : (most : ℕ) (ls : List Load) (xs ys : List (W × W)) → AreTurnedWith told is_joined 0 ls xs ys → AreTurnedWith told is_joined most ls xs ys
  with_less most ls xs ys t = let few = t.few in record { taken = t.taken; used = t.used; later = t.later; gone = t.gone; few = omega (arith, few); turned = t.turned }

  pub turned_less : (most : ℕ) (xs ys : List (W × W)) → AreTurned told is_joined 0 xs ys → AreTurned told is_joined most xs ys
  turned_less most xs ys t = (t.0, with_less most t.0 xs ys t.1)

  pub with_then : (most : ℕ) (ls ms : List Load) (xs ys zs : List (W × W)) → AreTurnedWith told is_joined 0 ls xs ys → AreTurnedWith told is_joined most ms ys zs → AreTurnedWith told is_joined most (ls ++ ms) xs zs
  with_then most ls ms xs ys zs a b = record {
    taken = a.taken ++ b.taken;
    used = a.used ++ b.used;
    later = each_append ls a.taken a.used ms b.taken b.used a.later b.later;
    gone = b.gone;
    few = b.few;
    turned =
        sym (append_assoc xs a.used b.used)
        ∙ ap (λ (ps : List (W × W)). ps ++ b.used) (a.turned ∙ ap (λ (ps : List (W × W)). (a.taken ++ ps) ++ ys) (empty a.gone a.few) ∙ ap (λ (ps : List (W × W)). ps ++ ys) (append-nil a.taken))
        ∙ append_assoc a.taken ys b.used
        ∙ ap (λ (ps : List (W × W)). a.taken ++ ps) b.turned
        ∙ sym (append_assoc a.taken (b.taken ++ b.gone) zs)
        ∙ ap (λ (ps : List (W × W)). ps ++ zs) (sym (append_assoc a.taken b.taken b.gone));
  }

  pub turned_then : (most : ℕ) (xs ys zs : List (W × W)) → AreTurned told is_joined 0 xs ys → AreTurned told is_joined most ys zs → AreTurned told is_joined most xs zs
  turned_then most xs ys zs a b = (a.0 ++ b.0, with_then most a.0 b.0 xs ys zs a.1 b.1)

  -- the first pair was used
  pub with_pair : (l : Load) (xs : List (W × W)) (d e : W × W) → 0 < length xs → d ≡ get_or xs 0 d → HasCarried told is_joined l d e → AreTurnedWith told is_joined 0 (l ∷ []) xs (remove xs 0 ++ e ∷ [])
  with_pair l [] d e lt is later = absurd (omega (arith, lt))
  with_pair l (x ∷ xs) d e lt is later = record { taken = x ∷ []; used = e ∷ []; later = (subst (λ (p : W × W). HasCarried told is_joined l p e) is later, tt); gone = []; few = omega arith; turned = refl }

  -- the first pair is gone
  pub gone_pair : (xs : List (W × W)) → 0 < length xs → AreTurnedWith told is_joined 1 [] xs (remove xs 0)
  gone_pair [] lt = absurd (omega (arith, lt))
  gone_pair (x ∷ xs) lt = record { taken = []; used = []; later = tt; gone = x ∷ []; few = omega arith; turned = append-nil (x ∷ xs) }

  -- as many pairs are left
  pub turned_long : (xs ys : List (W × W)) → AreTurned told is_joined 0 xs ys → length ys ≡ length xs
  turned_long xs ys (loads, t) =
      let same = each_long loads t.taken t.used t.later in
      let few = t.few in
      let left = length-append xs t.used in
      let right = length-append (t.taken ++ t.gone) ys in
      let parts = length-append t.taken t.gone in
      let is = ap length t.turned in
      omega (arith, same, few, left, right, parts, is)

  -- the first pair is gone with a fault of the dialer
  pub gone_dial : (d : DialFault) (xs : List (W × W)) → 0 < length xs → AreTurnedWith told is_joined (lost_by {T = Unit {0}} (Err (dial_fault d))) [] xs (remove xs 0)
  gone_dial dial_failed xs lt = gone_pair xs lt
  gone_dial no_dial_memory xs lt = gone_pair xs lt

  -- nothing was carried, all was, or more was behind what was
  pub first_none : (most : ℕ) (ls : List Load) (xs ys : List (W × W)) → AreTurnedWith told is_joined most [] xs ys → HaveCarriedFirst told is_joined most ls xs ys
  first_none most ls xs ys t = record { carried = []; first = (ls, refl); turned = t }

  pub first_whole : (most : ℕ) (ls : List Load) (xs ys : List (W × W)) → AreTurnedWith told is_joined 0 ls xs ys → HaveCarriedFirst told is_joined most ls xs ys
  first_whole most ls xs ys t = record { carried = ls; first = whole_front ls; turned = with_less most ls xs ys t }

  pub first_then : (most : ℕ) (ls ms all : List Load) (xs ys zs : List (W × W)) → IsPrefix (ls ++ ms) all → AreTurnedWith told is_joined 0 ls xs ys → HaveCarriedFirst told is_joined most ms ys zs → HaveCarriedFirst told is_joined most all xs zs
  first_then most ls ms all xs ys zs front a b = record { carried = ls ++ b.carried; first = part_front ls b.carried ms all b.first front; turned = with_then most ls b.carried xs ys zs a b.turned }

  -- a fault that is passed on
  pub carried_on : (r : Result (Unit {0}) PassFault) (e : PassFault) (ls : List Load) (xs ys : List (W × W)) → IsErrAnd r (λ x. x ≡ e) → HaveCarriedFirst told is_joined (lost_by {T = Unit {0}} (Err e)) ls xs ys
      → HaveCarried told is_joined ls xs ys r
  carried_on (Ok x) e ls xs ys h t = absurd h
  carried_on (Err x) e ls xs ys h t = subst (λ (f : PassFault). HaveCarriedFirst told is_joined (lost_by {T = Unit {0}} (Err f)) ls xs ys) (sym h) t

  -- pairs that have carried something were used in turn
  pub turned_any : (r : Result (Unit {0}) PassFault) (ls : List Load) (xs ys : List (W × W)) → HaveCarried told is_joined ls xs ys r → AreTurned told is_joined (lost_by r) xs ys
  turned_any (Ok x) ls xs ys t = (ls, t)
  turned_any (Err e) ls xs ys t = (t.carried, t.turned)
