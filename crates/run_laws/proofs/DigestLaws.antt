-- What the messages of its parent make of an ADOPT agent, whatever others send between them.
use Rattle.std.proofs.Common.{◌≡◌, ℕ, ◌+◌, ◌<◌, Bool, true, false, cond, not, ◌&&◌, ◌==◌, nat_lt, nat_le, if◌then◌else◌, map, take, List, [], ◌∷◌, ◌++◌, Option, Some, None, refl, sym, ap, ap₂, subst, ◌∙◌, inl, inr, arith}
use Rattle.std.specs.List.{fold, list_all, zip}
use Rattle.std.proofs.lemmas.Bool.{cases_eq, cond_both, cond-true, cond-false, and_parts, eq-eqb, ne_eqb, leb-true, true≢false, false≢true}
use Rattle.std.proofs.lemmas.List.{append-nil}
use Rattle.std.proofs.lemmas.List.Sums.{sum_by-cons}
use Rattle.std.proofs.lemmas.List.Concat.{flat_map-append}
use Rattle.dcop_base.specs.Table.{has}
use Rattle.pseudotree.specs.declared.agent.Place.{Place}
use Rattle.adopt_context.specs.Context.{Context, value_in, put, is_value, compatible}
use Rattle.adopt_context.specs.Bounds.{entry_at}
use Rattle.protocol_steps.specs.declared.message.Message.{Message}
use Rattle.protocol_steps.specs.declared.message.Message.TheVariants.{Token, Done, Util, ValueAll, Value, Cost, Threshold, Terminate}
use Rattle.protocol_steps.specs.declared.event.Take.{Take}
use Rattle.protocol_steps.specs.Agent.{last_of}
use Rattle.protocol_steps.specs.Adopt.{AdoptView}
use Rattle.protocol_steps.specs.AdoptBounds.{lower_of, best_lower, best_upper, upper_bound, restore, at_context}
use Rattle.protocol_steps.specs.AdoptRange.{is_within, in_range, fits, is_parent}
use Rattle.protocol_steps.specs.AdoptCost.{with_entry, may_store, stored, learned, learn, take_cost, without}
use Rattle.adopt_context.specs.Merge.{merged}
use Rattle.protocol_steps.specs.AdoptMessage.{take_threshold, take_end, takes_value, takes_from_parent, adopt_message}
use Rattle.protocol_steps.specs.AdoptStep.{choose, allotted, may_end, closed}
use Rattle.protocol_steps.specs.Network.{Desk, message_to, messages_to, taken_from, waiting, next_letters, batch}
use Rattle.protocol_steps.specs.Run.{ascends_from}
use Rattle.run_laws.proofs.AdoptAgentLaws.{place_of}

-- an agent that has not taken TERMINATE, with the last threshold received, or one that has, with its context
pub data Digest : Type 0 where
  Open : ℕ → Digest
  Ending : ℕ → Context → Digest

abbrev pub digest_by : Bool → ℕ → Context → Digest
digest_by true last known = Ending last known
digest_by false last known = Open last

abbrev pub digest : AdoptView → Digest
digest v = digest_by v.told v.last v.known

-- a THRESHOLD, where it fits
abbrev pub heard : Bool → Digest → ℕ → Digest
heard true (Open last) t = Open t
heard true (Ending last c) t = Ending last c
heard false g t = g

-- a TERMINATE, where it fits
abbrev pub ended_with : Bool → Digest → Context → Digest
ended_with true (Open last) c = Ending last c
ended_with true (Ending last x) c = Ending last x
ended_with false g c = g

-- whether a context fits an agent in this place
abbrev pub fits_place : Place → Context → Bool
fits_place place c = list_all (λ p. is_within (value_in (zip place.path place.path_sizes) p.0) p.1) c

-- one message of the parent
abbrev pub digest_step : Place → Digest → Message → Digest
digest_step place g (Threshold t c) = heard (fits_place place c) g t
digest_step place g (Terminate c) = ended_with (fits_place place c) g c
digest_step place g message = g

open_same : (b : Bool) (last : ℕ) (x y : Context) → b ≡ false → digest_by b last x ≡ digest_by b last y
open_same true last x y h = absurd (true≢false h)
open_same false last x y h = refl

learn_digest : (v : AdoptView) (r : Context) → digest (learn v r) ≡ digest v
learn_digest v r =
    let y : Context = fold (learned v) v.known r in
    cond_both v.told v (restore (at_context v y)) (λ w. digest w ≡ digest v) (λ _. refl) (λ e. open_same v.told v.last y v.known e)

stored_digest : (v : AdoptView) (d k : ℕ) (r : Context) (l : ℕ) (u : Option ℕ) → digest (stored v d k r l u) ≡ digest v
stored_digest v d k r l u = cond_both (may_store v d k r l u) (restore (with_entry v d k (merged (entry_at v.rows d k) r l u))) v (λ w. digest w ≡ digest v) (λ _. refl) (λ _. refl)

cost_digest : (v : AdoptView) (k d : Option ℕ) (r : Context) (l : ℕ) (u : Option ℕ) → digest (take_cost v k d r l u) ≡ digest v
cost_digest v None d r l u = refl
cost_digest v (Some k) None r l u = refl
cost_digest v (Some k) (Some d) r l u =
    cond_both (nat_lt d v.own.size && fits v r) (stored (learn v r) d k r l u) v (λ w. digest w ≡ digest v) (λ _. stored_digest (learn v r) d k r l u ∙ learn_digest v r) (λ _. refl)

value_digest : (v : AdoptView) (j d : ℕ) → digest (adopt_message v j (Value d)) ≡ digest v
value_digest v j d =
    cond_both (takes_value v j d) (restore (at_context v (put v.known j d))) v (λ w. digest w ≡ digest v)
    (λ takes. open_same v.told v.last (put v.known j d) v.known (untold v.told (and_parts (not v.told) (has v.own.neighbours j) (and_parts (not v.told && has v.own.neighbours j) (in_range v j d) takes).0).0))
    (λ _. refl)
  where
    untold : (b : Bool) → not b ≡ true → b ≡ false
    untold true h = absurd (false≢true h)
    untold false h = refl

threshold_digest : (v : AdoptView) (t : ℕ) (c : Context) → digest (take_threshold v t c) ≡ digest_by v.told t v.known
threshold_digest v t c = cond_both (compatible c v.known) (restore (record v { last = t; threshold = t })) (record v { last = t }) (λ w. digest w ≡ digest_by v.told t v.known) (λ _. refl) (λ _. refl)

-- messages of the parent by the tests that they pass
heard_takes : (b q f : Bool) (last t : ℕ) (x : Context) → ((not b && q) && f) ≡ true → digest_by b t x ≡ heard f (digest_by b last x) t
heard_takes true q f last t x h = absurd (false≢true h)
heard_takes false false f last t x h = absurd (false≢true h)
heard_takes false true false last t x h = absurd (false≢true h)
heard_takes false true true last t x h = refl

heard_passes : (b q f : Bool) (last t : ℕ) (x : Context) → q ≡ true → ((not b && q) && f) ≡ false → digest_by b last x ≡ heard f (digest_by b last x) t
heard_passes true q true last t x at h = refl
heard_passes true q false last t x at h = refl
heard_passes false q false last t x at h = refl
heard_passes false true true last t x at h = absurd (true≢false h)
heard_passes false false true last t x at h = absurd (false≢true at)

ended_takes : (b q f : Bool) (last : ℕ) (x c : Context) → ((not b && q) && f) ≡ true → Ending last c ≡ ended_with f (digest_by b last x) c
ended_takes true q f last x c h = absurd (false≢true h)
ended_takes false false f last x c h = absurd (false≢true h)
ended_takes false true false last x c h = absurd (false≢true h)
ended_takes false true true last x c h = refl

ended_passes : (b q f : Bool) (last : ℕ) (x c : Context) → q ≡ true → ((not b && q) && f) ≡ false → digest_by b last x ≡ ended_with f (digest_by b last x) c
ended_passes true q true last x c at h = refl
ended_passes true q false last x c at h = refl
ended_passes false q false last x c at h = refl
ended_passes false true true last x c at h = absurd (true≢false h)
ended_passes false false true last x c at h = absurd (false≢true at)

-- one message of the parent
message_parent : (v : AdoptView) (j : ℕ) (m : Message) → is_parent v j ≡ true → digest (adopt_message v j m) ≡ digest_step v.place (digest v) m
message_parent v j (Value d) at = value_digest v j d
message_parent v j (Threshold t c) at =
    cond_both (takes_from_parent v j c) (take_threshold v t c) v (λ w. digest w ≡ heard (fits v c) (digest v) t)
    (λ takes. threshold_digest v t c ∙ heard_takes v.told (is_parent v j) (fits v c) v.last t v.known takes)
    (λ passes. heard_passes v.told (is_parent v j) (fits v c) v.last t v.known at passes)
message_parent v j (Terminate c) at =
    cond_both (takes_from_parent v j c) (take_end v c) v (λ w. digest w ≡ ended_with (fits v c) (digest v) c)
    (λ takes. ended_takes v.told (is_parent v j) (fits v c) v.last v.known c takes)
    (λ passes. ended_passes v.told (is_parent v j) (fits v c) v.last v.known c at passes)
message_parent v j (Cost c l u) at = cost_digest v (place_of v.place j) (value_in c v.own.me) (without v.own.me c) l u
message_parent v j (Token path) at = refl
message_parent v j (Done visited) at = refl
message_parent v j (Util scope cells) at = refl
message_parent v j (ValueAll values) at = refl

not_taken : (b q f : Bool) → q ≡ false → ((not b && q) && f) ≡ false
not_taken b true f h = absurd (true≢false h)
not_taken true false f h = refl
not_taken false false f h = refl

-- one message of another agent
message_other : (v : AdoptView) (j : ℕ) (m : Message) → is_parent v j ≡ false → digest (adopt_message v j m) ≡ digest v
message_other v j (Value d) at = value_digest v j d
message_other v j (Threshold t c) at = ap digest (cond-false (takes_from_parent v j c) (take_threshold v t c) v (not_taken v.told (is_parent v j) (fits v c) at))
message_other v j (Terminate c) at = ap digest (cond-false (takes_from_parent v j c) (take_end v c) v (not_taken v.told (is_parent v j) (fits v c) at))
message_other v j (Cost c l u) at = cost_digest v (place_of v.place j) (value_in c v.own.me) (without v.own.me c) l u
message_other v j (Token path) at = refl
message_other v j (Done visited) at = refl
message_other v j (Util scope cells) at = refl
message_other v j (ValueAll values) at = refl

-- what no message changes
pub record IsStill (v w : AdoptView) : Type 0 where
  pub place : w.place ≡ v.place
  pub phase : w.phase ≡ v.phase

pub still : (v : AdoptView) → IsStill v v
still v = record { place = refl; phase = refl }

cost_still : (v : AdoptView) (k d : Option ℕ) (r : Context) (l : ℕ) (u : Option ℕ) → IsStill v (take_cost v k d r l u)
cost_still v None d r l u = still v
cost_still v (Some k) None r l u = still v
cost_still v (Some k) (Some d) r l u =
    let learns : IsStill v (learn v r) = cond_both v.told v (restore (at_context v (fold (learned v) v.known r))) (λ w. IsStill v w) (λ _. still v) (λ _. record { place = refl; phase = refl }) in
    cond_both (nat_lt d v.own.size && fits v r) (stored (learn v r) d k r l u) v (λ w. IsStill v w)
    (λ _. cond_both (may_store (learn v r) d k r l u) (restore (with_entry (learn v r) d k (merged (entry_at (learn v r).rows d k) r l u))) (learn v r) (λ w. IsStill v w)
    (λ _. record { place = learns.place; phase = learns.phase }) (λ _. learns))
    (λ _. still v)

pub message_still : (v : AdoptView) (j : ℕ) (m : Message) → IsStill v (adopt_message v j m)
message_still v j (Value d) = cond_both (takes_value v j d) (restore (at_context v (put v.known j d))) v (λ w. IsStill v w) (λ _. record { place = refl; phase = refl }) (λ _. still v)
message_still v j (Threshold t c) =
    cond_both (takes_from_parent v j c) (take_threshold v t c) v (λ w. IsStill v w)
    (λ _. cond_both (compatible c v.known) (restore (record v { last = t; threshold = t })) (record v { last = t }) (λ w. IsStill v w) (λ _. record { place = refl; phase = refl }) (λ _. record { place = refl; phase = refl }))
    (λ _. still v)
message_still v j (Terminate c) = cond_both (takes_from_parent v j c) (take_end v c) v (λ w. IsStill v w) (λ _. record { place = refl; phase = refl }) (λ _. still v)
message_still v j (Cost c l u) = cost_still v (place_of v.place j) (value_in c v.own.me) (without v.own.me c) l u
message_still v j (Token path) = still v
message_still v j (Done visited) = still v
message_still v j (Util scope cells) = still v
message_still v j (ValueAll values) = still v

abbrev pub handled : AdoptView → List (ℕ × Message) → AdoptView
handled v ls = fold (λ w l. adopt_message w l.0 l.1) v ls

pub batch_still : (ls : List (ℕ × Message)) (v : AdoptView) → IsStill v (handled v ls)
batch_still [] v = still v
batch_still (l ∷ ls) v =
    let one = message_still v l.0 l.1 in
    let rest = batch_still ls (adopt_message v l.0 l.1) in
    record { place = rest.place ∙ one.place; phase = rest.phase ∙ one.phase }

-- a batch: the digest goes through the messages of the parent
pub batch_digest : (place : Place) (q : ℕ) → last_of place.path ≡ Some q → (ls : List (ℕ × Message)) (v : AdoptView) → v.place ≡ place
    → digest (handled v ls) ≡ fold (digest_step place) (digest v) (messages_to q ls)
batch_digest place q last [] v at = refl
batch_digest place q last (l ∷ ls) v at =
    let parent : is_parent v l.0 ≡ (q == l.0) = ap (λ (x : Place). is_value (last_of x.path) l.0) at ∙ ap (λ (o : Option ℕ). is_value o l.0) last in
    let rest = batch_digest place q last ls (adopt_message v l.0 l.1) ((message_still v l.0 l.1).place ∙ at) in
    elim (cases_eq l.0 q) [
      | inl same ↦
          rest
          ∙ ap (λ (g : Digest). fold (digest_step place) g (messages_to q ls)) (message_parent v l.0 l.1 (parent ∙ eq-eqb q l.0 (sym same)) ∙ ap (λ (x : Place). digest_step x (digest v) l.1) at)
          ∙ sym (ap (λ (b : Bool). fold (digest_step place) (digest v) (cond b (l.1 ∷ []) [] ++ messages_to q ls)) (eq-eqb l.0 q same))
      | inr other ↦
          rest
          ∙ ap (λ (g : Digest). fold (digest_step place) g (messages_to q ls)) (message_other v l.0 l.1 (parent ∙ ne_eqb q l.0 (λ k. other (sym k))))
          ∙ sym (ap (λ (b : Bool). fold (digest_step place) (digest v) (cond b (l.1 ∷ []) [] ++ messages_to q ls)) (ne_eqb l.0 q other))
    ]

-- backTrack keeps the digest
pub closed_digest : (v : AdoptView) → digest (closed v) ≡ digest v
closed_digest v =
    let w : AdoptView = restore v in
    let u : AdoptView = allotted (choose w) in
    cond_both (may_end u) (record u { phase = record u.phase { ended = true } }) u (λ x. digest x ≡ digest v) (λ _. chosen) (λ _. chosen)
  where
    chosen : digest (choose (restore v)) ≡ digest v
    chosen =
        cond_both (is_value (upper_bound (restore v)) (restore v).threshold) (record (restore v) { value = best_upper (restore v) })
        (if nat_lt (restore v).threshold (lower_of (restore v) (restore v).value) then record (restore v) { value = best_lower (restore v) } else restore v) (λ x. digest x ≡ digest v)
        (λ _. refl)
        (λ _. cond_both (nat_lt (restore v).threshold (lower_of (restore v) (restore v).value)) (record (restore v) { value = best_lower (restore v) }) (restore v) (λ x. digest x ≡ digest v) (λ _. refl) (λ _. refl))

-- the letters of one sender in a batch
pub from_same : (q : ℕ) (ms : List Message) → messages_to q (map (λ m. (q, m)) ms) ≡ ms
from_same q [] = refl
from_same q (m ∷ ms) = ap (λ (b : Bool). cond b (m ∷ []) [] ++ messages_to q (map (λ m. (q, m)) ms)) (eq-eqb q q refl) ∙ ap (λ (xs : List Message). m ∷ xs) (from_same q ms)

pub from_else : (q j : ℕ) (ms : List Message) → (j ≡ q → ⊥) → messages_to q (map (λ m. (j, m)) ms) ≡ []
from_else q j [] ne = refl
from_else q j (m ∷ ms) ne = ap (λ (b : Bool). cond b (m ∷ []) [] ++ messages_to q (map (λ m. (j, m)) ms)) (ne_eqb j q ne) ∙ from_else q j ms ne

then_true : (b x : Bool) → cond b x false ≡ true → (b ≡ true) × (x ≡ true)
then_true true x h = (refl, h)
then_true false x h = absurd (false≢true h)

none_from : (ds : List Desk) (i b q : ℕ) (ts : List Take) → ascends_from b ts ≡ true → q < b → (messages_to q (batch ds i ts) ≡ []) × (taken_from q ts ≡ 0)
none_from ds i b q [] up low = (refl, refl)
none_from ds i b q (t ∷ ts) up low =
    let parts = then_true (nat_le b t.from) (ascends_from (t.from + 1) ts) up in
    let le = leb-true b t.from parts.0 in
    let differ : t.from ≡ q → ⊥ = λ (e : t.from ≡ q). omega (arith, le, low, e) in
    let rest = none_from ds i (t.from + 1) q ts parts.1 (omega (arith, le, low)) in (
      flat_map-append (message_to q) (next_letters ds i t) (batch ds i ts)
          ∙ ap₂ (λ (xs : List Message) (ys : List Message). xs ++ ys) (from_else q t.from (take t.count (waiting ds i t.from)) differ) rest.0,
      sum_by-cons (λ (x : Take). if x.from == q then x.count else 0) t ts ∙ ap₂ (λ (b : Bool) (n : ℕ). cond b t.count 0 + n) (ne_eqb t.from q differ) rest.1,
    )

pub batch_from : (ds : List Desk) (i b q : ℕ) (ts : List Take) → ascends_from b ts ≡ true → messages_to q (batch ds i ts) ≡ take (taken_from q ts) (waiting ds i q)
batch_from ds i b q [] up = refl
batch_from ds i b q (t ∷ ts) up =
    let parts = then_true (nat_le b t.from) (ascends_from (t.from + 1) ts) up in
    let split = flat_map-append (message_to q) (next_letters ds i t) (batch ds i ts) in
    let sum = sum_by-cons (λ (x : Take). if x.from == q then x.count else 0) t ts in
    elim (cases_eq t.from q) [
      | inl same ↦
          let rest = none_from ds i (t.from + 1) q ts parts.1 (omega (arith, same)) in
          let rest_none = rest.1 in
          let one : cond (t.from == q) t.count 0 ≡ t.count = cond-true (t.from == q) t.count 0 (eq-eqb t.from q same) in
          let count : taken_from q (t ∷ ts) ≡ t.count = omega (arith, sum, rest_none, one) in
          split
          ∙ ap₂ (λ (xs : List Message) (ys : List Message). xs ++ ys) (subst (λ (k : ℕ). messages_to q (map (λ m. (k, m)) (take t.count (waiting ds i k))) ≡ take t.count (waiting ds i q)) (sym same) (from_same q (take t.count (waiting ds i q)))) rest.0
          ∙ append-nil (take t.count (waiting ds i q))
          ∙ ap (λ (n : ℕ). take n (waiting ds i q)) (sym count)
      | inr other ↦
          let rest = batch_from ds i (t.from + 1) q ts parts.1 in
          let none : cond (t.from == q) t.count 0 ≡ 0 = cond-false (t.from == q) t.count 0 (ne_eqb t.from q other) in
          let count : taken_from q (t ∷ ts) ≡ taken_from q ts = omega (arith, sum, none) in
          split
          ∙ ap (λ (xs : List Message). xs ++ messages_to q (batch ds i ts)) (from_else q t.from (take t.count (waiting ds i t.from)) other)
          ∙ rest
          ∙ ap (λ (n : ℕ). take n (waiting ds i q)) (sym count)
    ]
