-- In a run of token agents each event takes the one message under way.
use Rattle.std.proofs.Common.{◌≡◌, ℕ, zero, suc, ◌+◌, ◌<◌, ◌≤◌, Bool, true, false, cond, ◌&&◌, ◌==◌, not, nat_lt, nat_le, if◌then◌else◌, List, [], ◌∷◌, ◌++◌, map, length, take, drop, Option, Some, None, refl, sym, ap, ap₂, subst, ◌∙◌, inl, inr, arith}
use Rattle.std.specs.List.{slice_set, list_any}
use Rattle.std.proofs.lemmas.Bool.{cases_eq, and_parts, or_parts, eqb-true, eq-eqb, ltb-false, leb-true, leb-false, not-false, true≢false}
use Rattle.std.proofs.lemmas.Option.{none-some, same_Some, slice_get_within}
use Rattle.protocol_steps.specs.declared.message.Message.{Message}
use Rattle.protocol_steps.specs.declared.event.Take.{Take}
use Rattle.protocol_steps.specs.declared.event.Event.{Event}
use Rattle.protocol_steps.specs.declared.event.EventFault.{EventFault}
use Rattle.protocol_steps.specs.declared.event.EventFault.TheVariants.{TooMany, Nobody, Ended, Nothing, Order}
use Rattle.protocol_steps.specs.Agent.{Stepped}
use Rattle.protocol_steps.specs.View.{View, TokenKind, ended_of}
use Rattle.protocol_steps.specs.Step.{step_of}
use Rattle.protocol_steps.specs.Network.{Desk, Network, taken_from, takes_at, link, waiting, batch}
use Rattle.protocol_steps.specs.Effect.{desk_after, deliveries}
use Rattle.protocol_steps.specs.Run.{or_else, ascends_from, has_nothing, form_fault, too_many, run}
use Rattle.protocol_steps.proofs.EventLaws.{Happens, begins, not_then}
use Rattle.run_laws.proofs.Serial.{Flight, Serial, tick, tick_at, ticks}
use Rattle.run_laws.proofs.NetworkLaws.{message_on, IsSerial, one_letter, net_now, serial_step, delivered_now}

then_true : (b x : Bool) → cond b x false ≡ true → (b ≡ true) × (x ≡ true)
then_true true x h = (refl, h)
then_true false x h = absurd (true≢false (sym h))

-- takes of a lawful form: by agents below n, some, and in ascending order
form_all : (n : ℕ) (ended : Bool) (ts : List Take) → form_fault n ended ts ≡ None → (list_any (λ t. nat_le n t.from) ts ≡ false) × (has_nothing ts ≡ false) × (ascends_from 0 ts ≡ true)
form_all n ended ts h =
    let a = not_then (list_any (λ t. nat_le n t.from) ts) Nobody (if ended then Some Ended else (if has_nothing ts then Some Nothing else (if not (ascends_from 0 ts) then Some Order else None))) h in
    let b = not_then ended Ended (if has_nothing ts then Some Nothing else (if not (ascends_from 0 ts) then Some Order else None)) a.1 in
    let c = not_then (has_nothing ts) Nothing (if not (ascends_from 0 ts) then Some Order else None) b.1 in
    let d = not_then (not (ascends_from 0 ts)) Order None c.1 in
    (a.0, c.0, not-false (ascends_from 0 ts) d.0)

both_fine : (a b : Option EventFault) → or_else a b ≡ None → (a ≡ None) × (b ≡ None)
both_fine None b h = (refl, h)
both_fine (Some f) b h = absurd (none-some f (sym h))

-- the message under way is there for a take
record IsTaken (o : Option Flight) (i : ℕ) (t : Take) : Type 0 where
  flight : Flight
  is : o ≡ Some flight
  to : flight.to ≡ i
  from : flight.from ≡ t.from
  one : t.count ≡ 1

on_link : (f : Flight) (b : Bool) → 1 ≤ length {A = Message} (if b then f.message ∷ [] else []) → b ≡ true
on_link f true h = refl
on_link f false h = absurd (omega (arith, h))

taken_flight : (o : Option Flight) (i : ℕ) (t : Take) → (t.count == 0) ≡ false → t.count ≤ length (message_on o t.from i) → IsTaken o i t
taken_flight None i t some le = absurd (true≢false (sym (eq-eqb t.count 0 (omega (arith, le))) ∙ some))
taken_flight (Some f) i t some le =
    let least : 1 ≤ t.count = elim (cases_eq t.count 0) [
      | inl zero_one ↦ absurd (true≢false (sym (eq-eqb t.count 0 zero_one) ∙ some))
      | inr more ↦ omega (arith, more)
    ] in
    let on = on_link f (f.from == t.from && f.to == i) (omega (arith, least, le)) in
    let parts = and_parts (f.from == t.from) (f.to == i) on in
    let short : length (message_on (Some f) t.from i) ≡ 1 = ap (λ (b : Bool). length {A = Message} (if b then f.message ∷ [] else [])) on in
    record {
      flight = f;
      is = refl;
      to = eqb-true f.to i parts.1;
      from = eqb-true f.from t.from parts.0;
      one = omega (arith, least, le, short);
    }

-- lawful takes of what is on the links are the one take of the message under way
record IsSingle (o : Option Flight) (i : ℕ) (ts : List Take) : Type 0 where
  flight : Flight
  is : o ≡ Some flight
  to : flight.to ≡ i
  takes : ts ≡ (record { from = flight.from; count = 1 }) ∷ []

module _ (ds : List Desk) (i : ℕ) (o : Option Flight) (waits : (j : ℕ) → waiting ds i j ≡ message_on o j i) where
  first_taken : (t : Take) (ts : List Take) → list_any (λ u. u.count == 0) (t ∷ ts) ≡ false → too_many ds i (t ∷ ts) ≡ None → IsTaken o i t
  first_taken t ts some fine =
      let enough = not_then (nat_lt (length (waiting ds i t.from)) t.count) (TooMany t.from t.count (length (waiting ds i t.from))) (too_many ds i ts) fine in
      let le : t.count ≤ length (waiting ds i t.from) = ltb-false (length (waiting ds i t.from)) t.count enough.0 in
      taken_flight o i t (or_parts (t.count == 0) (list_any (λ u. u.count == 0) ts) some).0
      (subst (λ (ms : List Message). t.count ≤ length ms) (waits t.from) le)

  single : (ts : List Take) → has_nothing ts ≡ false → ascends_from 0 ts ≡ true → too_many ds i ts ≡ None → IsSingle o i ts
  single [] some asc fine = absurd (true≢false some)
  single (t ∷ []) some asc fine =
      let it = first_taken t [] (or_parts (length (t ∷ []) == 0) (list_any (λ u. u.count == 0) (t ∷ [])) some).1 fine in
      record {
        flight = it.flight;
        is = it.is;
        to = it.to;
        takes =
            ap (λ (k : ℕ). let u : Take = record { from = k; count = t.count } in u ∷ []) (sym it.from)
            ∙ ap (λ (k : ℕ). let u : Take = record { from = it.flight.from; count = k } in u ∷ []) it.one;
      }
  single (t ∷ u ∷ ts) some asc fine =
      let counts = (or_parts (length (t ∷ u ∷ ts) == 0) (list_any (λ x. x.count == 0) (t ∷ u ∷ ts)) some).1 in
      let later = (or_parts (t.count == 0) (list_any (λ x. x.count == 0) (u ∷ ts)) counts).1 in
      let enough = not_then (nat_lt (length (waiting ds i t.from)) t.count) (TooMany t.from t.count (length (waiting ds i t.from))) (too_many ds i (u ∷ ts)) fine in
      let one = first_taken t (u ∷ ts) counts fine in
      let two = first_taken u ts later enough.1 in
      let up = then_true (nat_le 0 t.from) (ascends_from (t.from + 1) (u ∷ ts)) asc in
      let more = then_true (nat_le (t.from + 1) u.from) (ascends_from (u.from + 1) ts) up.1 in
      let higher : t.from + 1 ≤ u.from = leb-true (t.from + 1) u.from more.0 in
      let same : one.flight.from ≡ two.flight.from = ap (λ (f : Flight). f.from) (same_Some one.flight two.flight (sym one.is ∙ two.is)) in
      absurd (omega (arith, higher, same, one.from, two.from))

drop_past : (xs ys : List Message) → drop (length xs) (xs ++ ys) ≡ ys
drop_past [] ys = refl
drop_past (x ∷ xs) ys = drop_past xs ys

-- what waits for an agent is the message under way to it
pub waits_for : (n : ℕ) (net : Network) (s : Serial) → (is : IsSerial n net s) → (i j : ℕ) → i < n → waiting net.desks i j ≡ message_on s.flight j i
waits_for n net s is i j lt =
    ap (λ (o : Option Desk). drop (taken_from j (takes_at o)) (link net.desks j i)) (is.desks i lt)
    ∙ ap (λ (k : ℕ). drop k (link net.desks j i)) (is.taken i j lt)
    ∙ ap (λ (ms : List Message). drop (length (is.past i j)) ms) (is.sent i j lt)
    ∙ drop_past (is.past i j) (message_on s.flight j i)

-- an event takes the message under way
pub record Advances (n : ℕ) (net next : Network) (s : Serial) : Type 0 where
  pub flight : Flight
  pub is : s.flight ≡ Some flight
  pub now : IsSerial n next (tick s)
  pub delivered : deliveries next ≡ deliveries net + 1

module _ (n : ℕ) (net next : Network) (s : Serial) (e : Event) (is : IsSerial n net s) (h : Happens net e next) where
  inside : e.agent < n
  inside = let within = slice_get_within net.desks e.agent h.desk h.desks in omega (arith, within, is.size)

  fine : (form_fault (length net.desks) (ended_of h.view) e.takes ≡ None) × (too_many net.desks e.agent e.takes ≡ None)
  fine = both_fine (form_fault (length net.desks) (ended_of h.view) e.takes) (too_many net.desks e.agent e.takes) h.fine

  form : (list_any (λ t. nat_le (length net.desks) t.from) e.takes ≡ false) × (has_nothing e.takes ≡ false) × (ascends_from 0 e.takes ≡ true)
  form = form_all (length net.desks) (ended_of h.view) e.takes fine.0

  it : IsSingle s.flight e.agent e.takes
  it = single net.desks e.agent s.flight (λ j. waits_for n net s is e.agent j inside) e.takes form.1 form.2 fine.1

  from_inside : it.flight.from < n
  from_inside =
      let known : list_any (λ (t : Take). nat_le (length net.desks) t.from) ((record { from = it.flight.from; count = 1 }) ∷ []) ≡ false =
      subst (λ (ts : List Take). list_any (λ t. nat_le (length net.desks) t.from) ts ≡ false) it.takes form.0 in
      let low : it.flight.from < length net.desks = leb-false (length net.desks) it.flight.from (or_parts (nat_le (length net.desks) it.flight.from) false known).0 in
      omega (arith, low, is.size)

  to_inside : it.flight.to < n
  to_inside = subst (λ (k : ℕ). k < n) (sym it.to) inside

  abbrev arrives : ℕ → List Take → View → Desk → List (ℕ × Message) → Network
  arrives k ts v x ls = record {
    views = slice_set net.views k (step_of v ls).view;
    desks = slice_set net.desks k (desk_after x (step_of v ls).sends ts);
  }

  letters : batch net.desks e.agent e.takes ≡ (it.flight.from, it.flight.message) ∷ []
  letters =
      ap (λ (ts : List Take). batch net.desks e.agent ts) it.takes
      ∙ ap (λ (ms : List Message). map (λ m. (it.flight.from, m)) (take 1 ms) ++ [])
      (waits_for n net s is e.agent it.flight.from inside
      ∙ ap (λ (o : Option Flight). message_on o it.flight.from e.agent) it.is
      ∙ ap₂ (λ (a : Bool) (b : Bool). if a && b then it.flight.message ∷ [] else []) (eq-eqb it.flight.from it.flight.from refl) (eq-eqb it.flight.to e.agent it.to))

  view_is : h.view ≡ TokenKind (s.views e.agent)
  view_is = same_Some h.view (TokenKind (s.views e.agent)) (sym h.views ∙ is.views e.agent inside)

  desk_is : h.desk ≡ is.desk e.agent
  desk_is = same_Some h.desk (is.desk e.agent) (sym h.desks ∙ is.desks e.agent inside)

  next_is : net_now n net s is it.flight it.is to_inside from_inside ≡ next
  next_is =
      sym (sym h.after
      ∙ ap (λ (v : View). arrives e.agent e.takes v h.desk (batch net.desks e.agent e.takes)) view_is
      ∙ ap (λ (x : Desk). arrives e.agent e.takes (TokenKind (s.views e.agent)) x (batch net.desks e.agent e.takes)) desk_is
      ∙ ap (λ (ls : List (ℕ × Message)). arrives e.agent e.takes (TokenKind (s.views e.agent)) (is.desk e.agent) ls) letters
      ∙ ap (λ (ts : List Take). arrives e.agent ts (TokenKind (s.views e.agent)) (is.desk e.agent) ((it.flight.from, it.flight.message) ∷ [])) it.takes
      ∙ ap (λ (k : ℕ). arrives k ((record { from = it.flight.from; count = 1 }) ∷ []) (TokenKind (s.views k)) (is.desk k) ((it.flight.from, it.flight.message) ∷ [])) (sym it.to)
      ∙ ap (λ (z : Stepped View). let now : Network = record {
        views = slice_set net.views it.flight.to z.view;
        desks = slice_set net.desks it.flight.to (desk_after (is.desk it.flight.to) z.sends ((record { from = it.flight.from; count = 1 }) ∷ []));
      } in now) (one_letter (s.views it.flight.to) it.flight.from it.flight.message))

  pub advances : Advances n net next s
  advances = record {
    flight = it.flight;
    is = it.is;
    now =
        subst (λ (z : Serial). IsSerial n next z) (ap (λ (o : Option Flight). tick_at s o) (sym it.is))
        (subst (λ (z : Network). IsSerial n z (tick_at s (Some it.flight))) next_is (serial_step n net s is it.flight it.is to_inside from_inside));
    delivered = subst (λ (z : Network). deliveries z ≡ deliveries net + 1) next_is (delivered_now n net s is it.flight it.is to_inside from_inside);
  }

-- a run is as many ticks as events
pub record RunsOn (n : ℕ) (net end : Network) (s : Serial) (count : ℕ) : Type 0 where
  pub now : IsSerial n end (ticks count s)
  pub delivered : deliveries end ≡ deliveries net + count
  pub flying : (k : ℕ) → k < count → (f : Flight) × ((ticks k s).flight ≡ Some f)

pub runs_on : (n : ℕ) (net end : Network) (s : Serial) (es : List Event) → IsSerial n net s → run net es ≡ Some end → RunsOn n net end s (length es)
runs_on n net end s [] is r = record {
  now = subst (λ (z : Network). IsSerial n z s) (same_Some net end r) is;
  delivered = let same : deliveries net ≡ deliveries end = ap (λ (z : Network). deliveries z) (same_Some net end r) in omega (arith, same);
  flying = λ k lt. absurd (omega (arith, lt));
}
runs_on n net end s (e ∷ es) is r =
    let b = begins net end e es r in
    let first = advances n net b.next s e is b.first in
    let rest = runs_on n b.next end (tick s) es first.now b.rest in
    record {
      now = rest.now;
      delivered = omega (arith, first.delivered, rest.delivered);
      flying = flies s (length es) first.flight first.is rest.flying;
    } where
      flies : (s : Serial) (m : ℕ) (f : Flight) → s.flight ≡ Some f → ((k : ℕ) → k < m → (g : Flight) × ((ticks k (tick s)).flight ≡ Some g)) → (k : ℕ) → k < suc m → (g : Flight) × ((ticks k s).flight ≡ Some g)
      flies s m f is later zero lt = (f, is)
      flies s m f is later (suc k) lt = later k (omega (arith, lt))
