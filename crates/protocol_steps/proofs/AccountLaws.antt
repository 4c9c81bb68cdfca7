-- What an agent's own account tells: what it sends later, what it took, and which messages come next on its links.
use Rattle.std.proofs.Common.{◌≡◌, ℕ, ◌+◌, ◌<◌, ◌≤◌, Bool, true, false, cond, not, max, nat_lt, nat_le, ◌==◌, if◌then◌else◌, List, [], ◌∷◌, ◌++◌, map, length, take, drop, Some, None, refl, sym, ap, subst, ◌∙◌, inl, inr, arith}
use Rattle.std.specs.List.{slice_get, fold, list_any}
use Rattle.std.proofs.lemmas.Bool.{cases_Bool, ne_eqb, eq-eqb, le-ltb, leb-true, leb-false, or_parts, false≢true, not-false}
use Rattle.std.proofs.lemmas.Option.{same_Some}
use Rattle.std.proofs.lemmas.List.{append-nil, append_assoc, length-append, length-map}
use Rattle.std.proofs.lemmas.List.Sums.{sum_by-cons}
use Rattle.protocol_steps.specs.declared.message.Message.{Message}
use Rattle.protocol_steps.specs.declared.event.Take.{Take}
use Rattle.protocol_steps.specs.declared.event.EventFault.TheVariants.{Nobody, Ended, Nothing, Order, TooMany}
use Rattle.protocol_steps.specs.Step.{step_of}
use Rattle.protocol_steps.specs.Network.{Desk, messages_to, taken_from, waiting, batch}
use Rattle.protocol_steps.specs.Run.{ascends_from, has_nothing, form_fault, too_many}
use Rattle.protocol_steps.specs.Stamps.{Gain, Deed, Posted, Account, post, letters_of, do_one}
use Rattle.protocol_steps.specs.Deeds.{takes_of, greatest_from, greatest_of, deeds_of, posted_to, gained_from}
use Rattle.protocol_steps.specs.StampLaw.{IsPrefix, ByStampFrom}
use Rattle.protocol_steps.proofs.EventLaws.{not_then}

-- P holds of each element
abbrev pub Each : {X : Type 0} → (X → Type 0) → List X → Type 0
Each P [] = Unit {0}
Each P (x ∷ xs) = P x × Each P xs

pub each_append : {X : Type 0} (P : X → Type 0) (xs ys : List X) → Each P xs → Each P ys → Each P (xs ++ ys)
each_append P [] ys h k = k
each_append P (x ∷ xs) ys h k = (h.0, each_append P xs ys h.1 k)

pub each_weaker : {X : Type 0} (P Q : X → Type 0) → ((x : X) → P x → Q x) → (xs : List X) → Each P xs → Each Q xs
each_weaker P Q f [] h = tt
each_weaker P Q f (x ∷ xs) h = (f x h.0, each_weaker P Q f xs h.1)

abbrev pub Below : ℕ → ℕ × Message → Type 0
Below k e = e.0 < k

abbrev pub AtLeast : ℕ → ℕ × Message → Type 0
AtLeast k e = k ≤ e.0

abbrev pub PostedFrom : ℕ → Posted → Type 0
PostedFrom k p = k ≤ p.envelope.0

-- where all of one part is below k and all of the other's rest is at least k, the one is a first part of the other
pub within : (k : ℕ) (ms more us later : List (ℕ × Message)) → ms ++ more ≡ us ++ later → Each (Below k) ms → Each (AtLeast k) later → IsPrefix ms us
within k [] more us later e low high = (us, refl)
within k (m ∷ ms) more [] later e low high =
    let high_m : Each (AtLeast k) (m ∷ (ms ++ more)) = subst (λ (xs : List (ℕ × Message)). Each (AtLeast k) xs) (sym e) high in
    let under : m.0 < k = low.0 in
    let over : k ≤ m.0 = high_m.0 in
    absurd (omega (arith, under, over))
within k (m ∷ ms) more (u ∷ us) later e low high =
    let heads : m ≡ u = same_Some m u (ap (λ (xs : List (ℕ × Message)). slice_get xs 0) e) in
    let tails : ms ++ more ≡ us ++ later = ap (λ (xs : List (ℕ × Message)). drop 1 xs) e in
    let rest = within k ms more us later tails low.1 high in
    (rest.0, ap (λ (x : ℕ × Message). x ∷ (ms ++ rest.0)) heads ∙ ap (λ (xs : List (ℕ × Message)). u ∷ xs) rest.1)

-- what is posted in a step has its stamp
posted_now : (b stamp : ℕ) (sends : List (ℕ × Message)) → b ≤ stamp → Each (PostedFrom b) (post stamp sends)
posted_now b stamp [] le = tt
posted_now b stamp (p ∷ ps) le = (le, posted_now b stamp ps le)

-- what an account sends later
pub record Later (old new : List Posted) (b : ℕ) : Type 0 where
  pub more : List Posted
  pub is : new ≡ old ++ more
  pub high : Each (PostedFrom b) more

raised_later : (old new : List Posted) (a b : ℕ) → a ≤ b → Later old new b → Later old new a
raised_later old new a b le l = record {
  more = l.more;
  is = l.is;
  high = each_weaker (PostedFrom b) (PostedFrom a) (λ p h. omega (arith, le, h)) l.more l.high;
}

pub sent_later : (ds : List Deed) (x : Account) (b j : ℕ) → ByStampFrom b ds → Later x.posted (fold do_one x (deeds_of j ds)).posted b
sent_later [] x b j h = record { more = []; is = sym (append-nil x.posted); high = tt }
sent_later (d ∷ ds) x b j h = elim (cases_Bool (d.agent == j)) [
  | inl mine ↦
      let sends : List (ℕ × Message) = (step_of x.view (letters_of d.gains)).sends in
      let now : List Posted = post d.stamp sends in
      let l = sent_later ds (do_one x d) d.stamp j h.1 in
      subst (λ (own : Bool). Later x.posted (fold do_one x ((if own then d ∷ [] else []) ++ deeds_of j ds)).posted b) (sym mine) (record {
        more = now ++ l.more;
        is = l.is ∙ append_assoc x.posted now l.more;
        high = each_append (PostedFrom b) now l.more (posted_now b d.stamp sends h.0)
            (each_weaker (PostedFrom d.stamp) (PostedFrom b) (λ p k. omega (arith, k, h.0)) l.more l.high);
      })
  | inr other ↦
      subst (λ (own : Bool). Later x.posted (fold do_one x ((if own then d ∷ [] else []) ++ deeds_of j ds)).posted b) (sym other)
      (raised_later x.posted (fold do_one x (deeds_of j ds)).posted b d.stamp h.0 (sent_later ds x d.stamp j h.1))
]

-- what an account takes later
pub record LaterGains (old new : List Gain) : Type 0 where
  pub more : List Gain
  pub is : new ≡ old ++ more

pub taken_later : (ds : List Deed) (x : Account) → LaterGains x.gains (fold do_one x ds).gains
taken_later [] x = record { more = []; is = sym (append-nil x.gains) }
taken_later (d ∷ ds) x =
    let l = taken_later ds (do_one x d) in
    record { more = d.gains ++ l.more; is = l.is ∙ append_assoc x.gains d.gains l.more }

pub high_posted : (i b : ℕ) (ps : List Posted) → Each (PostedFrom b) ps → Each (AtLeast b) (posted_to i ps)
high_posted i b [] h = tt
high_posted i b (p ∷ ps) h = elim (cases_Bool (p.to == i)) [
  | inl mine ↦ subst (λ (own : Bool). Each (AtLeast b) ((if own then p.envelope ∷ [] else []) ++ posted_to i ps)) (sym mine) (h.0, high_posted i b ps h.1)
  | inr other ↦ subst (λ (own : Bool). Each (AtLeast b) ((if own then p.envelope ∷ [] else []) ++ posted_to i ps)) (sym other) (high_posted i b ps h.1)
]

-- all that is taken is below each number above its greatest stamp
below_from : (es : List (ℕ × Message)) (m k : ℕ) → greatest_from m es < k → (m < k) × Each (Below k) es
below_from [] m k h = (h, tt)
below_from (e ∷ es) m k h =
    let r = below_from es (max m e.0) k h in
    let top : max m e.0 < k = r.0 in
    (omega (arith, top), (omega (arith, top), r.1))

abbrev GainBelow : ℕ → Gain → Type 0
GainBelow k g = Each (Below k) g.envelopes

below_all : (gs : List Gain) (m k : ℕ) → fold (λ n g. greatest_from n g.envelopes) m gs < k → (m < k) × Each (GainBelow k) gs
below_all [] m k h = (h, tt)
below_all (g ∷ gs) m k h =
    let r = below_all gs (greatest_from m g.envelopes) k h in
    let s = below_from g.envelopes m k r.0 in
    (s.0, (s.1, r.1))

below_gained : (j k : ℕ) (gs : List Gain) → Each (GainBelow k) gs → Each (Below k) (gained_from j gs)
below_gained j k [] h = tt
below_gained j k (g ∷ gs) h = elim (cases_Bool (g.from == j)) [
  | inl mine ↦ subst (λ (own : Bool). Each (Below k) ((if own then g.envelopes else []) ++ gained_from j gs)) (sym mine) (each_append (Below k) g.envelopes (gained_from j gs) h.0 (below_gained j k gs h.1))
  | inr other ↦ subst (λ (own : Bool). Each (Below k) ((if own then g.envelopes else []) ++ gained_from j gs)) (sym other) (below_gained j k gs h.1)
]

pub low_gained : (j k : ℕ) (gs : List Gain) → greatest_of gs < k → Each (Below k) (gained_from j gs)
low_gained j k gs h = below_gained j k gs (below_all gs 0 k h).1

-- messages without their stamps
abbrev pub plain : List (ℕ × Message) → List Message
plain es = map (λ e. e.1) es

plain_step : (own : Bool) (e : ℕ × Message) (ms : List Message) (es : List (ℕ × Message)) → ms ≡ plain es → (if own then e.1 ∷ [] else []) ++ ms ≡ plain ((if own then e ∷ [] else []) ++ es)
plain_step true e ms es h = ap (λ (xs : List Message). e.1 ∷ xs) h
plain_step false e ms es h = h

pub sent_plain : (i : ℕ) (ps : List Posted) → messages_to i (map (λ p. (p.to, p.envelope.1)) ps) ≡ plain (posted_to i ps)
sent_plain i [] = refl
sent_plain i (p ∷ ps) = plain_step (p.to == i) p.envelope (messages_to i (map (λ q. (q.to, q.envelope.1)) ps)) (posted_to i ps) (sent_plain i ps)

count_step : (own : Bool) (es rest : List (ℕ × Message)) (n : ℕ) → n ≡ length rest → (if own then length es else 0) + n ≡ length ((if own then es else []) ++ rest)
count_step true es rest n h = omega (arith, h, length-append es rest)
count_step false es rest n h = omega (arith, h)

pub taken_count : (j : ℕ) (gs : List Gain) → taken_from j (takes_of gs) ≡ length (gained_from j gs)
taken_count j [] = refl
taken_count j (g ∷ gs) =
    let t : Take = record { from = g.from; count = length g.envelopes } in
    sum_by-cons (λ (u : Take). if u.from == j then u.count else 0) t (takes_of gs)
    ∙ count_step (g.from == j) g.envelopes (gained_from j gs) (taken_from j (takes_of gs)) (taken_count j gs)

pub drop_front : (es us : List (ℕ × Message)) → drop (length es) (plain (es ++ us)) ≡ plain us
drop_front [] us = refl
drop_front (e ∷ es) us = drop_front es us

take_front : (es : List (ℕ × Message)) (ms : List Message) → take (length es) (plain es ++ ms) ≡ plain es
take_front [] ms = refl
take_front (e ∷ es) ms = ap (λ (xs : List Message). e.1 ∷ xs) (take_front es ms)

-- messages with a sender, in place of their stamps
abbrev signed : ℕ → List Message → List (ℕ × Message)
signed j ms = map (λ m. (j, m)) ms

abbrev unstamped : ℕ → List (ℕ × Message) → List (ℕ × Message)
unstamped j es = map (λ e. (j, e.1)) es

letters_plain : (j : ℕ) (es : List (ℕ × Message)) → signed j (plain es) ≡ unstamped j es
letters_plain j [] = refl
letters_plain j (e ∷ es) =
    let l : ℕ × Message = (j, e.1) in
    ap (λ (ls : List (ℕ × Message)). l ∷ ls) (letters_plain j es)

then_true : (b x : Bool) → cond b x false ≡ true → (b ≡ true) × (x ≡ true)
then_true true x h = (refl, h)
then_true false x h = absurd (false≢true h)

-- where the senders ascend, nothing is taken of a lower one
pub none_below : (gs : List Gain) (b j : ℕ) → ascends_from b (takes_of gs) ≡ true → j < b → gained_from j gs ≡ []
none_below [] b j h lt = refl
none_below (g ∷ gs) b j h lt =
    let parts = then_true (nat_le b g.from) (ascends_from (g.from + 1) (takes_of gs)) h in
    let low : b ≤ g.from = leb-true b g.from parts.0 in
    let rest = none_below gs (g.from + 1) j parts.1 (omega (arith, low, lt)) in
    subst (λ (own : Bool). (if own then g.envelopes else []) ++ gained_from j gs ≡ []) (sym (ne_eqb g.from j (λ e. omega (arith, e, low, lt)))) rest

-- what waits for agent i from j begins with what is to be taken
pub record Begun (ds : List Desk) (i j : ℕ) (gs : List Gain) : Type 0 where
  pub rest : List Message
  pub is : waiting ds i j ≡ plain (gained_from j gs) ++ rest

-- then the takes ask for no more than is there, and give the letters of what is taken
pub all_next : (n : ℕ) (ds : List Desk) (i b : ℕ) (gs : List Gain) → list_any (λ t. nat_le n t.from) (takes_of gs) ≡ false → ascends_from b (takes_of gs) ≡ true
    → ((j : ℕ) → b ≤ j → j < n → Begun ds i j gs) → (too_many ds i (takes_of gs) ≡ None) × (batch ds i (takes_of gs) ≡ letters_of gs)
all_next n ds i b [] known asc w = (refl, refl)
all_next n ds i b (g ∷ gs) known asc w =
    let these = or_parts (nat_le n g.from) (list_any (λ t. nat_le n t.from) (takes_of gs)) known in
    let parts = then_true (nat_le b g.from) (ascends_from (g.from + 1) (takes_of gs)) asc in
    let inside : g.from < n = leb-false n g.from these.0 in
    let low : b ≤ g.from = leb-true b g.from parts.0 in
    let here = w g.from low inside in
    let alone : gained_from g.from (g ∷ gs) ≡ g.envelopes =
    subst (λ (own : Bool). (if own then g.envelopes else []) ++ gained_from g.from gs ≡ g.envelopes) (sym (eq-eqb g.from g.from refl))
    (ap (λ (es : List (ℕ × Message)). g.envelopes ++ es) (none_below gs (g.from + 1) g.from parts.1 (omega arith)) ∙ append-nil g.envelopes) in
    let front : waiting ds i g.from ≡ plain g.envelopes ++ here.rest = here.is ∙ ap (λ (es : List (ℕ × Message)). plain es ++ here.rest) alone in
    let long : length (waiting ds i g.from) ≡ length g.envelopes + length here.rest =
    ap (λ (ms : List Message). length ms) front ∙ length-append (plain g.envelopes) here.rest ∙ ap (λ (k : ℕ). k + length here.rest) (length-map g.envelopes (λ e. e.1)) in
    let fits : nat_lt (length (waiting ds i g.from)) (length g.envelopes) ≡ false = le-ltb (length (waiting ds i g.from)) (length g.envelopes) (omega (arith, long)) in
    let letters : signed g.from (take (length g.envelopes) (waiting ds i g.from)) ≡ unstamped g.from g.envelopes =
    ap (λ (ms : List Message). signed g.from (take (length g.envelopes) ms)) front
    ∙ ap (λ (ms : List Message). signed g.from ms) (take_front g.envelopes here.rest)
    ∙ letters_plain g.from g.envelopes in
    let later = all_next n ds i (g.from + 1) gs these.1 parts.1 (λ j le lt.
    let r = w j (omega (arith, low, le)) lt in
    let apart : (g.from == j) ≡ false = ne_eqb g.from j (λ e. omega (arith, e, le)) in
    record { rest = r.rest; is = subst (λ (own : Bool). waiting ds i j ≡ plain ((if own then g.envelopes else []) ++ gained_from j gs) ++ r.rest) apart r.is }) in (
      subst (λ (short : Bool). cond short (Some (TooMany g.from (length g.envelopes) (length (waiting ds i g.from)))) (too_many ds i (takes_of gs)) ≡ None) (sym fits) later.0,
      ap (λ (ls : List (ℕ × Message)). ls ++ batch ds i (takes_of gs)) letters ∙ ap (λ (ls : List (ℕ × Message)). unstamped g.from g.envelopes ++ ls) later.1,
    )

-- takes of a lawful form
pub form_parts : (n : ℕ) (ended : Bool) (ts : List Take) → form_fault n ended ts ≡ None → (list_any (λ t. nat_le n t.from) ts ≡ false) × (ascends_from 0 ts ≡ true)
form_parts n ended ts h =
    let a = not_then (list_any (λ t. nat_le n t.from) ts) Nobody (if ended then Some Ended else (if has_nothing ts then Some Nothing else (if not (ascends_from 0 ts) then Some Order else None))) h in
    let b = not_then ended Ended (if has_nothing ts then Some Nothing else (if not (ascends_from 0 ts) then Some Order else None)) a.1 in
    let c = not_then (has_nothing ts) Nothing (if not (ascends_from 0 ts) then Some Order else None) b.1 in
    let d = not_then (not (ascends_from 0 ts)) Order None c.1 in
    (a.0, not-false (ascends_from 0 ts) d.0)
