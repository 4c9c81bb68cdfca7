-- In a run with right stamps no stamp is above the number of events.
use Rattle.std.proofs.Common.{◌≡◌, ℕ, zero, suc, ◌+◌, ◌≤◌, ◌<◌, Bool, true, false, nat_le, ◌==◌, if◌then◌else◌, max, List, [], ◌∷◌, ◌++◌, length, refl, sym, subst, inl, inr, arith}
use Rattle.std.specs.List.{All, fold, list_any}
use Rattle.std.proofs.lemmas.Bool.{cases_eq, or_parts, eq-eqb, ne_eqb, leb-false}
use Rattle.std.proofs.lemmas.List.{length-append}
use Rattle.protocol_steps.specs.declared.message.Message.{Message}
use Rattle.protocol_steps.specs.View.{View}
use Rattle.protocol_steps.specs.Step.{start_of, step_of}
use Rattle.protocol_steps.specs.Stamps.{Gain, Deed, Posted, Account, post, letters_of, do_one}
use Rattle.protocol_steps.specs.Deeds.{takes_of, greatest_from, IsDeed, AreDeeds, deeds_of, after_all, envelope_to, posted_to, gained_from}
use Rattle.protocol_steps.specs.StampLaw.{TakenIsPrefix, ByStampFrom, ArePieces, all_of}
use Rattle.protocol_steps.specs.JournalStamps.{AreStarts}
use Rattle.protocol_steps.proofs.AccountLaws.{Each, each_append, each_weaker, form_parts}
use Rattle.protocol_steps.proofs.StampLaws.{after_one, same_after, next_prefix, still_prefix, longer_prefix, same_pieces, deeds_next, deed_now}
use Rattle.protocol_steps.proofs.JournalStampLaws.{starts_show}
use Rattle.worker_laws.specs.StampCounts.{StampsAreFew}
use Rattle.worker_laws.proofs.EachLaws.{there}

abbrev pub Within : ℕ → ℕ × Message → Type 0
Within k e = e.0 ≤ k

abbrev pub PostedWithin : ℕ → Posted → Type 0
PostedWithin k p = p.envelope.0 ≤ k

-- no stamp of an account is above k
pub record IsLow (k : ℕ) (x : Account) : Type 0 where
  pub last : x.stamp ≤ k
  pub sent : Each (PostedWithin k) x.posted

pub low_more : (k l : ℕ) (x : Account) → k ≤ l → IsLow k x → IsLow l x
low_more k l x le h = record {
  last = let low = h.last in omega (arith, low, le);
  sent = each_weaker (PostedWithin k) (PostedWithin l) (λ p low. omega (arith, low, le)) x.posted h.sent;
}

each_first : {X : Type 0} (P : X → Type 0) (xs ys : List X) → Each P (xs ++ ys) → Each P xs
each_first P [] ys h = tt
each_first P (x ∷ xs) ys h = (h.0, each_first P xs ys h.1)

each_second : {X : Type 0} (P : X → Type 0) (xs ys : List X) → Each P (xs ++ ys) → Each P ys
each_second P [] ys h = h
each_second P (x ∷ xs) ys h = each_second P xs ys h.1

module _ {X : Type 0} (P : X → Type 0) where
  at_all : (x : X) (xs : List X) → P x → All P xs → All P (x ∷ xs)
  at_all x xs h rest zero d lt = h
  at_all x xs h rest (suc k) d lt = rest k d (omega (arith, lt))

  pub all_from : (xs : List X) → Each P xs → All P xs
  all_from [] h = λ k d lt. absurd (omega (arith, lt))
  all_from (x ∷ xs) h = at_all x xs h.0 (all_from xs h.1)

-- what was sent to one agent
pub low_to : (i k : ℕ) (ps : List Posted) → Each (PostedWithin k) ps → Each (Within k) (posted_to i ps)
low_to i k [] h = tt
low_to i k (p ∷ ps) h = each_append (Within k) (envelope_to i p) (posted_to i ps) (one (p.to == i) p.envelope h.0) (low_to i k ps h.1)
  where
    one : (b : Bool) (e : ℕ × Message) → Within k e → Each (Within k) (if b then e ∷ [] else [])
    one true e low = (low, tt)
    one false e low = tt

post_within : (k stamp : ℕ) (sends : List (ℕ × Message)) → stamp ≤ k → Each (PostedWithin k) (post stamp sends)
post_within k stamp [] le = tt
post_within k stamp (p ∷ ps) le = (le, post_within k stamp ps le)

-- the greatest of stamps that are none above k
low_from : (m k : ℕ) (es : List (ℕ × Message)) → m ≤ k → Each (Within k) es → greatest_from m es ≤ k
low_from m k [] le h = le
low_from m k (e ∷ es) le h = let low = h.0 in low_from (max m e.0) k es (omega (arith, le, low)) h.1

low_gains : (m k : ℕ) (gs : List Gain) → m ≤ k → Each (λ (g : Gain). Each (Within k) g.envelopes) gs → fold (λ n g. greatest_from n g.envelopes) m gs ≤ k
low_gains m k [] le h = le
low_gains m k (g ∷ gs) le h = low_gains (greatest_from m g.envelopes) k gs (low_from m k g.envelopes le h.0) h.1

-- gains of agents, by sender and as they come
gains_each : (n k : ℕ) (gs : List Gain) → list_any (λ t. nat_le n t.from) (takes_of gs) ≡ false → ((j : ℕ) → j < n → Each (Within k) (gained_from j gs)) → Each (λ (g : Gain). Each (Within k) g.envelopes) gs
gains_each n k [] senders low = tt
gains_each n k (g ∷ gs) senders low =
    let parts = or_parts (nat_le n g.from) (list_any (λ t. nat_le n t.from) (takes_of gs)) senders in
    let lt : g.from < n = leb-false n g.from parts.0 in (
      each_first (Within k) g.envelopes (gained_from g.from gs) (subst (λ (b : Bool). Each (Within k) ((if b then g.envelopes else []) ++ gained_from g.from gs)) (eq-eqb g.from g.from refl) (low g.from lt)),
      gains_each n k gs parts.1 (λ j l. each_second (Within k) (if g.from == j then g.envelopes else []) (gained_from j gs) (low j l)),
    )

-- an activation adds at most 1
one_more : (n k : ℕ) (now : ℕ → Account) (d : Deed) (ds : List Deed) → TakenIsPrefix now → IsDeed n (now d.agent) d → ByStampFrom d.stamp ds → TakenIsPrefix (after_all now (d ∷ ds))
    → ((i : ℕ) → i < n → IsLow k (now i)) → (i : ℕ) → i < n → IsLow (suc k) (after_one now d i)
one_more n k now d ds before deed sorted after low i lt =
    let x : Account = now d.agent in
    let taken : (j : ℕ) → j < n → Each (Within k) (gained_from j d.gains) = λ j in_j.
    let p = before d.agent j in
    let next = next_prefix now d ds j p deed.right sorted after in
    let sent : Each (Within k) (posted_to d.agent (now j).posted) = low_to d.agent k (now j).posted (low j in_j).sent in
    let waiting : Each (Within k) p.0 = each_second (Within k) (gained_from j x.gains) p.0 (subst (λ (es : List (ℕ × Message)). Each (Within k) es) (sym p.1) sent) in
    each_first (Within k) (gained_from j d.gains) next.0 (subst (λ (es : List (ℕ × Message)). Each (Within k) es) (sym next.1) waiting) in
    let gains = low_gains 0 k d.gains (omega arith) (gains_each n k d.gains (form_parts n _ (takes_of d.gains) deed.form).0 taken) in
    let last = (low d.agent deed.known).last in
    let right = deed.right in
    let stamp : d.stamp ≤ suc k = omega (arith, gains, last, right) in
    let sends : List (ℕ × Message) = (step_of x.view (letters_of d.gains)).sends in
    elim (cases_eq d.agent i) [
      | inl same ↦
          let mine : IsLow (suc k) (do_one x d) = record {
            last = stamp;
            sent = each_append (PostedWithin (suc k)) x.posted (post d.stamp sends) (low_more k (suc k) x (omega arith) (low d.agent deed.known)).sent (post_within (suc k) d.stamp sends stamp);
          } in
          subst (λ (b : Bool). IsLow (suc k) (fold do_one (now i) (if b then d ∷ [] else []))) (sym (eq-eqb d.agent i same)) (subst (λ (j : ℕ). IsLow (suc k) (do_one (now j) d)) same mine)
      | inr other ↦
          subst (λ (b : Bool). IsLow (suc k) (fold do_one (now i) (if b then d ∷ [] else []))) (sym (ne_eqb d.agent i other)) (low_more k (suc k) (now i) (omega arith) (low i lt))
    ]

-- a piece adds at most its length
record Counted (n k : ℕ) (now : ℕ → Account) (ds more : List Deed) : Type 0 where
  low : (i : ℕ) → i < n → IsLow (k + length ds) (after_all now ds i)
  deeds : (i : ℕ) → AreDeeds n (after_all now ds i) (deeds_of i more)

piece_counts : (n k : ℕ) (ds more : List Deed) (b : ℕ) (now : ℕ → Account) → TakenIsPrefix now → ((i : ℕ) → AreDeeds n (now i) (deeds_of i (ds ++ more))) → ByStampFrom b ds → TakenIsPrefix (after_all now ds)
    → ((i : ℕ) → i < n → IsLow k (now i)) → Counted n k now ds more
piece_counts n k [] more b now before deeds sorted after low = record { low = λ i lt. low_more k (k + 0) (now i) (omega arith) (low i lt); deeds = deeds }
piece_counts n k (d ∷ ds) more b now before deeds sorted after low =
    let deed = deed_now n now d (ds ++ more) (deeds d.agent) in
    let i : ℕ = d.agent in
    let x : Account = now i in
    let taken : TakenIsPrefix (after_one now d) =
    still_prefix now d before (λ j. longer_prefix j x.gains d.gains (posted_to i (now j).posted) (before i j) (next_prefix now d ds j (before i j) deed.right sorted.1 after)) in
    let later : TakenIsPrefix (after_all (after_one now d) ds) = subst TakenIsPrefix (sym (same_after now d ds)) after in
    let rest = piece_counts n (suc k) ds more d.stamp (after_one now d) taken (λ i. deeds_next n now d (ds ++ more) i (deeds i)) sorted.1 later (one_more n k now d ds before deed sorted.1 after low) in
    record {
      low = λ i lt. low_more (suc k + length ds) (k + length (d ∷ ds)) (after_all now (d ∷ ds) i) (omega arith) (subst (λ (f : ℕ → Account). IsLow (suc k + length ds) (f i)) (same_after now d ds) (rest.low i lt));
      deeds = λ i. subst (λ (f : ℕ → Account). AreDeeds n (f i) (deeds_of i more)) (same_after now d ds) (rest.deeds i);
    }

pieces_count : (n k : ℕ) (now : ℕ → Account) (pieces : List (List Deed)) → TakenIsPrefix now → ((i : ℕ) → AreDeeds n (now i) (deeds_of i (all_of pieces))) → ArePieces now pieces
    → ((i : ℕ) → i < n → IsLow k (now i)) → (i : ℕ) → i < n → IsLow (k + length (all_of pieces)) (after_all now (all_of pieces) i)
pieces_count n k now [] before deeds pieced low i lt = low_more k (k + 0) (now i) (omega arith) (low i lt)
pieces_count n k now (ds ∷ pieces) before deeds pieced low i lt =
    let first = piece_counts n k ds (all_of pieces) 0 now before deeds pieced.0 pieced.1 low in
    let rest = pieces_count n (k + length ds) (after_all now ds) pieces pieced.1 first.deeds pieced.2 first.low i lt in
    let long = length-append ds (all_of pieces) in
    low_more (k + length ds + length (all_of pieces)) (k + length (ds ++ all_of pieces)) (after_all now (ds ++ all_of pieces) i) (omega (arith, long))
    (subst (λ (f : ℕ → Account). IsLow (k + length ds + length (all_of pieces)) (f i)) (same_pieces now ds (all_of pieces)) rest)

-- after the starts all stamps are 0
started_low : (made : List View) (now : ℕ → Account) → AreStarts made now → (i : ℕ) → i < length made → IsLow 0 (now i)
started_low made now s i lt =
    let v = there made i lt in
    subst (λ (x : Account). IsLow 0 x) (sym (s.started i v.0 v.1)) (record { last = omega arith; sent = post_within 0 0 (start_of v.0).sends (omega arith) })

pub low_stamps : (made : List View) (now : ℕ → Account) (pieces : List (List Deed)) → AreStarts made now → ((i : ℕ) → AreDeeds (length made) (now i) (deeds_of i (all_of pieces))) → ArePieces now pieces
    → (i : ℕ) → i < length made → IsLow (length (all_of pieces)) (after_all now (all_of pieces) i)
low_stamps made now pieces s deeds pieced i lt =
    low_more (0 + length (all_of pieces)) (length (all_of pieces)) (after_all now (all_of pieces) i) (omega arith)
    (pieces_count (length made) 0 now pieces (starts_show made now s).1 deeds pieced (started_low made now s) i lt)

pub stamps_are_few : StampsAreFew
stamps_are_few made now pieces s deeds pieced i lt =
    let low = low_stamps made now pieces s deeds pieced i lt in
    record { last = low.last; sent = all_from (PostedWithin (length (all_of pieces))) (after_all now (all_of pieces) i).posted low.sent }
