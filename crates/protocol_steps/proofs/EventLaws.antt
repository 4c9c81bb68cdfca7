-- One lawful event in parts, and what it changes on the links.
use Rattle.std.proofs.Common.{◌≡◌, ◌≢◌, ℕ, zero, suc, ◌≤◌, Bool, true, false, cond, nat_lt, ◌==◌, if◌then◌else◌, List, [], ◌∷◌, ◌++◌, map, length, take, drop, Option, Some, None, refl, sym, ap, subst, ◌∙◌, inl, inr, arith}
use Rattle.std.specs.List.{slice_get, slice_set, fold}
use Rattle.std.proofs.lemmas.Bool.{cases_eq, ne_eqb, eq-eqb, ltb-false, le-ltb}
use Rattle.std.proofs.lemmas.Option.{none-some, same_Some}
use Rattle.std.proofs.lemmas.List.{append-nil, length-append, length-set, take-append-le, drop-append-le, length-drop}
use Rattle.std.proofs.lemmas.List.Concat.{flat_map-append}
use Rattle.protocol_steps.specs.declared.message.Message.{Message}
use Rattle.protocol_steps.specs.declared.event.Take.{Take}
use Rattle.protocol_steps.specs.declared.event.Event.{Event}
use Rattle.protocol_steps.specs.declared.event.EventFault.{EventFault}
use Rattle.protocol_steps.specs.declared.event.EventFault.TheVariants.{TooMany}
use Rattle.protocol_steps.specs.View.{View, ended_of}
use Rattle.protocol_steps.specs.Step.{step_of}
use Rattle.protocol_steps.specs.Network.{Desk, Network, message_to, messages_to, taken_from, sent_at, takes_at, link, waiting, next_letters, batch}
use Rattle.protocol_steps.specs.Effect.{desk_after, network_after, effect_at}
use Rattle.protocol_steps.specs.Run.{or_else, form_fault, too_many, takes_fault, fault_at, unless, happen, run}

-- one lawful event, which leads to another network
pub record Happens (net : Network) (e : Event) (one : Network) : Type 0 where
  pub view : View
  pub desk : Desk
  pub views : slice_get net.views e.agent ≡ Some view
  pub desks : slice_get net.desks e.agent ≡ Some desk
  pub fine : takes_fault net.desks e.agent (ended_of view) e.takes ≡ None
  pub after : network_after net e view desk (batch net.desks e.agent e.takes) ≡ one

pub happens_to : (net one : Network) (e : Event) → Happens net e one → happen (Some net) e ≡ Some one
happens_to net one e h = rw (h.views, h.desks, h.fine, h.after) refl

from_fine : (net one : Network) (e : Event) (v : View) (x : Desk) (f : Option EventFault) → slice_get net.views e.agent ≡ Some v → slice_get net.desks e.agent ≡ Some x
    → takes_fault net.desks e.agent (ended_of v) e.takes ≡ f
    → unless f (network_after net e v x (batch net.desks e.agent e.takes)) ≡ Some one → Happens net e one
from_fine net one e v x None p q r h = record { view = v; desk = x; views = p; desks = q; fine = r; after = same_Some _ _ h }
from_fine net one e v x (Some f) p q r h = absurd (none-some one h)

from_both : (net one : Network) (e : Event) (v : Option View) (x : Option Desk) → slice_get net.views e.agent ≡ v → slice_get net.desks e.agent ≡ x
    → unless (fault_at net.desks e v x) (effect_at net e v x) ≡ Some one → Happens net e one
from_both net one e None x p q h = absurd (none-some one h)
from_both net one e (Some v) None p q h = absurd (none-some one h)
from_both net one e (Some v) (Some x) p q h = from_fine net one e v x (takes_fault net.desks e.agent (ended_of v) e.takes) p q refl h

pub happens_from : (net one : Network) (e : Event) → happen (Some net) e ≡ Some one → Happens net e one
happens_from net one e h = from_both net one e (slice_get net.views e.agent) (slice_get net.desks e.agent) refl refl h

-- the first event of a run, and the rest
pub record Begins (net : Network) (e : Event) (es : List Event) (end : Network) : Type 0 where
  pub next : Network
  pub first : Happens net e next
  pub rest : run next es ≡ Some end

none_stays : (es : List Event) → fold happen None es ≡ None
none_stays [] = refl
none_stays (e ∷ es) = none_stays es

begins_at : (net end : Network) (e : Event) (es : List Event) (o : Option Network) → happen (Some net) e ≡ o → fold happen o es ≡ Some end → Begins net e es end
begins_at net end e es None p h = absurd (none-some end (sym (none_stays es) ∙ h))
begins_at net end e es (Some next) p h = record { next = next; first = happens_from net next e p; rest = h }

pub begins : (net end : Network) (e : Event) (es : List Event) → run net (e ∷ es) ≡ Some end → Begins net e es end
begins net end e es h = begins_at net end e es (happen (Some net) e) refl h

-- an element after one was set
pub get_same : {A : Type 0} (xs : List A) (k : ℕ) (x y : A) → slice_get xs k ≡ Some x → slice_get (slice_set xs k y) k ≡ Some y
get_same [] k x y h = absurd (none-some x h)
get_same (z ∷ xs) zero x y h = refl
get_same (z ∷ xs) (suc k) x y h = get_same xs k x y h

pub get_other : {A : Type 0} (xs : List A) (k j : ℕ) (y : A) → k ≢ j → slice_get (slice_set xs k y) j ≡ slice_get xs j
get_other [] k j y ne = refl
get_other (z ∷ xs) zero zero y ne = absurd (ne refl)
get_other (z ∷ xs) zero (suc j) y ne = refl
get_other (z ∷ xs) (suc k) zero y ne = refl
get_other (z ∷ xs) (suc k) (suc j) y ne = get_other xs k j y (λ e. ne (ap suc e))

-- what an event adds to the link to agent i from agent j, where its agent sends this
abbrev pub added : ℕ → ℕ → ℕ → List (ℕ × Message) → List Message
added agent j i sends = if agent == j then messages_to i sends else []

pub link_after : (net one : Network) (e : Event) (h : Happens net e one) (i j : ℕ)
    → link one.desks j i ≡ link net.desks j i ++ added e.agent j i (step_of h.view (batch net.desks e.agent e.takes)).sends
link_after net one e h i j =
    let ls : List (ℕ × Message) = batch net.desks e.agent e.takes in
    let sends : List (ℕ × Message) = (step_of h.view ls).sends in
    let y : Desk = desk_after h.desk sends e.takes in
    subst (λ (z : Network). link z.desks j i ≡ link net.desks j i ++ added e.agent j i sends) h.after (elim (cases_eq e.agent j) [
      | inl same ↦
          rw (eq-eqb e.agent j same)
          (ap (λ (o : Option Desk). messages_to i (sent_at o)) (subst (λ (k : ℕ). slice_get (slice_set net.desks e.agent y) k ≡ Some y) same (get_same net.desks e.agent h.desk y h.desks))
          ∙ flat_map-append (message_to i) h.desk.sent sends
          ∙ ap (λ (o : Option Desk). messages_to i (sent_at o) ++ messages_to i sends) (sym (subst (λ (k : ℕ). slice_get net.desks k ≡ Some h.desk) same h.desks)))
      | inr other ↦
          rw (ne_eqb e.agent j other)
          (ap (λ (o : Option Desk). messages_to i (sent_at o)) (get_other net.desks e.agent j y other)
          ∙ sym (append-nil (link net.desks j i)))
    ])

-- desks on which agent i has done nothing more, and others may have sent more
pub record Grows (ds later : List Desk) (i : ℕ) : Type 0 where
  pub same : length later ≡ length ds
  pub own : slice_get later i ≡ slice_get ds i
  pub more : ℕ → List Message
  pub grown : (j : ℕ) → link later j i ≡ link ds j i ++ more j

pub grows : (net one : Network) (e : Event) (i : ℕ) → Happens net e one → e.agent ≢ i → Grows net.desks one.desks i
grows net one e i h ne =
    let ls : List (ℕ × Message) = batch net.desks e.agent e.takes in
    let sends : List (ℕ × Message) = (step_of h.view ls).sends in
    record {
      same = subst (λ (z : Network). length z.desks ≡ length net.desks) h.after (length-set net.desks e.agent (desk_after h.desk sends e.takes));
      own = subst (λ (z : Network). slice_get z.desks i ≡ slice_get net.desks i) h.after (get_other net.desks e.agent i (desk_after h.desk sends e.takes) ne);
      more = λ j. added e.agent j i sends;
      grown = λ j. link_after net one e h i j;
    }

-- the next messages of a link stay where the link grows
longer : (k : ℕ) (xs ys : List Message) → length (drop k xs) ≤ length (drop k (xs ++ ys))
longer k xs ys = omega (arith, length-drop k xs, length-drop k (xs ++ ys), length-append xs ys)

next_same : (k c : ℕ) (xs ys : List Message) → c ≤ length (drop k xs) → take c (drop k (xs ++ ys)) ≡ take c (drop k xs)
next_same k zero xs ys h = refl
next_same k (suc c) xs ys h =
    let inside : k ≤ length xs = omega (arith, h, length-drop k xs) in
    ap (λ (zs : List Message). take (suc c) zs) (drop-append-le k xs ys inside) ∙ take-append-le (suc c) (drop k xs) ys h

-- what waits for agent i stays, and more may come
waits : (ds later : List Desk) (i j : ℕ) → (g : Grows ds later i) → waiting later i j ≡ drop (taken_from j (takes_at (slice_get ds i))) (link ds j i ++ g.more j)
waits ds later i j g =
    ap (λ (o : Option Desk). drop (taken_from j (takes_at o)) (link later j i)) g.own
    ∙ ap (λ (ms : List Message). drop (taken_from j (takes_at (slice_get ds i))) ms) (g.grown j)

pub not_then : {X : Type 0} (b : Bool) (f : X) (o : Option X) → cond b (Some f) o ≡ None → (b ≡ false) × (o ≡ None)
not_then true f o h = absurd (none-some f (sym h))
not_then false f o h = (refl, h)

pub both_none : (a b : Option EventFault) → or_else a b ≡ None → (a ≡ None) × (b ≡ None)
both_none None b h = (refl, h)
both_none (Some f) b h = absurd (none-some f (sym h))

abbrev is_short : List Desk → ℕ → Take → Bool
is_short ds i t = nat_lt (length (waiting ds i t.from)) t.count

abbrev told_short : List Desk → ℕ → Take → EventFault
told_short ds i t = TooMany t.from t.count (length (waiting ds i t.from))

-- a take of what is there stays one, and takes the same
there_still : (ds later : List Desk) (i : ℕ) (t : Take) → Grows ds later i → is_short ds i t ≡ false → (is_short later i t ≡ false) × (next_letters later i t ≡ next_letters ds i t)
there_still ds later i t g h =
    let k : ℕ = taken_from t.from (takes_at (slice_get ds i)) in
    let old : t.count ≤ length (drop k (link ds t.from i)) = ltb-false (length (waiting ds i t.from)) t.count h in
    let same = waits ds later i t.from g in
    let new : t.count ≤ length (waiting later i t.from) = rw same (omega (arith, old, longer k (link ds t.from i) (g.more t.from))) in (
      le-ltb (length (waiting later i t.from)) t.count new,
      ap (λ (ms : List Message). map (λ m. (t.from, m)) (take t.count ms)) same
          ∙ ap (λ (ms : List Message). map (λ m. (t.from, m)) ms) (next_same k t.count (link ds t.from i) (g.more t.from) old),
    )

pub enough_still : (ds later : List Desk) (i : ℕ) (ts : List Take) → Grows ds later i → too_many ds i ts ≡ None → (too_many later i ts ≡ None) × (batch later i ts ≡ batch ds i ts)
enough_still ds later i [] g h = (refl, refl)
enough_still ds later i (t ∷ ts) g h =
    let parts = not_then (is_short ds i t) (told_short ds i t) (too_many ds i ts) h in
    let now = there_still ds later i t g parts.0 in
    let rest = enough_still ds later i ts g parts.1 in (
      rw now.0 rest.0,
      ap (λ (ls : List (ℕ × Message)). ls ++ batch later i ts) now.1 ∙ ap (λ (ls : List (ℕ × Message)). next_letters ds i t ++ ls) rest.1,
    )

pub fine_still : (ds later : List Desk) (i : ℕ) (ended : Bool) (ts : List Take) → Grows ds later i → takes_fault ds i ended ts ≡ None
    → (takes_fault later i ended ts ≡ None) × (batch later i ts ≡ batch ds i ts)
fine_still ds later i ended ts g h =
    let parts = both_none (form_fault (length ds) ended ts) (too_many ds i ts) h in
    let rest = enough_still ds later i ts g parts.1 in
    let form : form_fault (length later) ended ts ≡ None = subst (λ (n : ℕ). form_fault n ended ts ≡ None) (sym g.same) parts.0 in
    (subst (λ (o : Option EventFault). or_else o (too_many later i ts) ≡ None) (sym form) rest.0, rest.1)
