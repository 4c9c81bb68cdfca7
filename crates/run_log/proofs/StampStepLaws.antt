-- One activation, by the stamps on the links.
use Rattle.std.proofs.Common.{◌≡◌, ℕ, ◌+◌, ◌-◌, ◌<◌, Bool, true, false, max, nat_le, ◌==◌, if◌then◌else◌, List, [], ◌∷◌, ◌++◌, map, length, take, drop, replicate, Option, refl, sym, ap, ap₂, ◌∙◌, arith}
use Rattle.std.specs.List.{flat_map, list_any, fold}
use Rattle.std.proofs.Math.Seq.{drop-append_seam}
use Rattle.std.proofs.lemmas.Bool.{leb-false, or_parts}
use Rattle.std.proofs.lemmas.List.{append-nil, map-append, length-append, length-map, take-map}
use Rattle.std.proofs.lemmas.List.Concat.{flat_map-append}
use Rattle.std.proofs.lemmas.List.Sums.{fold-append}
use Rattle.protocol_steps.specs.declared.message.Message.{Message}
use Rattle.protocol_steps.specs.declared.event.Take.{Take}
use Rattle.protocol_steps.specs.Network.{Desk, Network, messages_to, taken_from, sent_at, takes_at, link}
use Rattle.protocol_steps.specs.Links.{taken_at}
use Rattle.protocol_steps.specs.Step.{step_of}
use Rattle.protocol_steps.specs.Stamps.{Gain, Deed, Posted, Account, post, letters_of, do_one}
use Rattle.protocol_steps.specs.Deeds.{takes_of, greatest_from, IsDeed, envelope_to, posted_to, gained_from}
use Rattle.protocol_steps.specs.StampLaw.{IsPrefix, TakenIsPrefix, Shows}
use Rattle.protocol_steps.specs.JournalStamps.{cut_off}
use Rattle.protocol_steps.proofs.AccountLaws.{sent_plain, taken_count, form_parts}
use Rattle.protocol_steps.proofs.StampLaws.{after_one}
use Rattle.run_log.specs.LogStamps.{LinkStamps, next_stamps, taken_stamps, right_stamp, stamps_after}
use Rattle.run_log.proofs.TakenLaws.{logged, cut_again}

-- the stamps of messages
abbrev pub stamps : List (ℕ × Message) → List ℕ
stamps es = map (λ e. e.0) es

-- the stamps in a network of n agents are those of their accounts
pub record Marks (n : ℕ) (now : ℕ → Account) (s : LinkStamps) : Type 0 where
  pub last : (i : ℕ) → i < n → s.last i ≡ (now i).stamp
  pub sent : (i j : ℕ) → i < n → j < n → s.sent i j ≡ stamps (posted_to i (now j).posted)

-- the links of a network by the accounts
pub link_long : (n : ℕ) (net : Network) (now : ℕ → Account) → Shows n net now → (i j : ℕ) → j < n → length (link net.desks j i) ≡ length (posted_to i (now j).posted)
link_long n net now shows i j lt =
    ap (λ (o : Option Desk). length (messages_to i (sent_at o))) (shows.desks j lt)
    ∙ ap (λ (ms : List Message). length ms) (sent_plain i (now j).posted)
    ∙ length-map (posted_to i (now j).posted) (λ (e : ℕ × Message). e.1)

taken_long : (n : ℕ) (net : Network) (now : ℕ → Account) → Shows n net now → (i j : ℕ) → i < n → taken_at net.desks i j ≡ length (gained_from j (now i).gains)
taken_long n net now shows i j lt = ap (λ (o : Option Desk). taken_from j (takes_at o)) (shows.desks i lt) ∙ taken_count j (now i).gains

-- the stamps of what waits on a link
waiting_stamps : (n : ℕ) (net : Network) (now : ℕ → Account) (s : LinkStamps) → Shows n net now → Marks n now s → (i j : ℕ) → i < n → j < n → (before : IsPrefix (gained_from j (now i).gains) (posted_to i (now j).posted))
    → drop (taken_at net.desks i j) (s.sent i j) ≡ stamps before.0
waiting_stamps n net now s shows marks i j in_i in_j before =
    let taken : List (ℕ × Message) = gained_from j (now i).gains in
    ap₂ (λ (k : ℕ) (ns : List ℕ). drop k ns) (taken_long n net now shows i j in_i ∙ sym (length-map taken (λ (e : ℕ × Message). e.0))) (marks.sent i j in_i in_j ∙ ap stamps (sym before.1) ∙ map-append (λ (e : ℕ × Message). e.0) taken before.0)
    ∙ drop-append_seam (stamps taken) (stamps before.0)

-- the stamps of all that is gained
abbrev gain_stamps : List Gain → List ℕ
gain_stamps gs = flat_map (λ g. stamps g.envelopes) gs

-- the stamps of what takes take, where their senders' lists are what waits
taken_are : (n : ℕ) (net : Network) (s : LinkStamps) (i : ℕ) (lists : ℕ → List (ℕ × Message)) (ts : List Take) → list_any (λ t. nat_le n t.from) ts ≡ false
    → ((j : ℕ) → j < n → drop (taken_at net.desks i j) (s.sent i j) ≡ stamps (lists j)) → taken_stamps net s i ts ≡ gain_stamps (map (cut_off lists) ts)
taken_are n net s i lists [] known waits = refl
taken_are n net s i lists (t ∷ ts) known waits =
    let parts = or_parts (nat_le n t.from) (list_any (λ u. nat_le n u.from) ts) known in
    let here : next_stamps net s i t ≡ stamps (take t.count (lists t.from)) =
    ap (λ (ns : List ℕ). take t.count ns) (waits t.from (leb-false n t.from parts.0)) ∙ take-map (λ (e : ℕ × Message). e.0) t.count (lists t.from) in
    ap₂ (λ (ms ns : List ℕ). ms ++ ns) here (taken_are n net s i lists ts parts.1 waits)

greatest_stamps : (m : ℕ) (es : List (ℕ × Message)) → fold max m (stamps es) ≡ greatest_from m es
greatest_stamps m [] = refl
greatest_stamps m (e ∷ es) = greatest_stamps (max m e.0) es

greatest_all : (m : ℕ) (gs : List Gain) → fold max m (gain_stamps gs) ≡ fold (λ k g. greatest_from k g.envelopes) m gs
greatest_all m [] = refl
greatest_all m (g ∷ gs) =
    fold-append max m (stamps g.envelopes) (gain_stamps gs)
    ∙ ap (λ (k : ℕ). fold max k (gain_stamps gs)) (greatest_stamps m g.envelopes)
    ∙ greatest_all (greatest_from m g.envelopes) gs

-- the right stamp of an activation's event is its own
pub right_is : (n : ℕ) (net : Network) (now : ℕ → Account) (s : LinkStamps) (d : Deed) → Shows n net now → Marks n now s → IsDeed n (now d.agent) d
    → (before : TakenIsPrefix now) → ((j : ℕ) → IsPrefix (gained_from j d.gains) (before d.agent j).0) → d.stamp ≡ right_stamp net s (logged d)
right_is n net now s d shows marks deed before next =
    let i : ℕ = d.agent in
    let ts : List Take = takes_of d.gains in
    let form = form_parts n _ ts deed.form in
    let lists : ℕ → List (ℕ × Message) = λ (j : ℕ). (before i j).0 in
    let taken : taken_stamps net s i ts ≡ gain_stamps d.gains =
    taken_are n net s i lists ts form.0 (λ j lt. waiting_stamps n net now s shows marks i j deed.known lt (before i j))
    ∙ ap gain_stamps (cut_again d.gains 0 lists (λ j. (next j).0) form.1 (λ j le. sym (next j).1)) in
    deed.right
    ∙ ap₂ (λ (k m : ℕ). max k m + 1) (sym (marks.last i deed.known)) (sym (ap (λ (ns : List ℕ). fold max 0 ns) taken ∙ greatest_all 0 d.gains))

-- the stamps of what is sent in one step
same_stamp : (i stamp : ℕ) (sends : List (ℕ × Message)) → stamps (posted_to i (post stamp sends)) ≡ replicate (length (posted_to i (post stamp sends))) stamp
same_stamp i stamp [] = refl
same_stamp i stamp (p ∷ ps) = step (p.0 == i) (stamp, p.1) (posted_to i (post stamp ps)) (same_stamp i stamp ps) refl
  where
    step : (b : Bool) (e : ℕ × Message) (es : List (ℕ × Message)) → stamps es ≡ replicate (length es) stamp → e.0 ≡ stamp → stamps ((if b then e ∷ [] else []) ++ es) ≡ replicate (length ((if b then e ∷ [] else []) ++ es)) stamp
    step true e es h same = ap₂ (λ (k : ℕ) (ns : List ℕ). k ∷ ns) same h
    step false e es h same = h

-- what one more activation sends to agent i
pub record More (i stamp : ℕ) (old new : List Posted) : Type 0 where
  pub more : List (ℕ × Message)
  pub is : posted_to i new ≡ posted_to i old ++ more
  pub same : stamps more ≡ replicate (length more) stamp

more_of : (i : ℕ) (b : Bool) (x : Account) (d : Deed) → More i d.stamp x.posted (fold do_one x (if b then d ∷ [] else [])).posted
more_of i true x d =
    let sends : List (ℕ × Message) = (step_of x.view (letters_of d.gains)).sends in
    record { more = posted_to i (post d.stamp sends); is = flat_map-append (envelope_to i) x.posted (post d.stamp sends); same = same_stamp i d.stamp sends }
more_of i false x d = record { more = []; is = sym (append-nil (posted_to i x.posted)); same = refl }

last_of : (b : Bool) (x : Account) (d : Deed) (last : ℕ) → last ≡ x.stamp → (if b then d.stamp else last) ≡ (fold do_one x (if b then d ∷ [] else [])).stamp
last_of true x d last h = refl
last_of false x d last h = h

-- the stamps after it
pub marks_after : (n : ℕ) (net after : Network) (now : ℕ → Account) (s : LinkStamps) (d : Deed) → Shows n net now → Shows n after (after_one now d) → Marks n now s
    → Marks n (after_one now d) (stamps_after net s (logged d) after)
marks_after n net after now s d shows later marks = record {
  last = λ i lt. last_of (d.agent == i) (now i) d (s.last i) (marks.last i lt);
  sent = λ i j in_i in_j.
      let m : More i d.stamp (now j).posted (after_one now d j).posted = more_of i (d.agent == j) (now j) d in
      let old = link_long n net now shows i j in_j in
      let new = link_long n after (after_one now d) later i j in_j in
      let long : length (posted_to i (after_one now d j).posted) ≡ length (posted_to i (now j).posted) + length m.more = ap (λ (es : List (ℕ × Message)). length es) m.is ∙ length-append (posted_to i (now j).posted) m.more in
      let count : length (link after.desks j i) - length (link net.desks j i) ≡ length m.more = omega (arith, old, new, long) in
      ap₂ (λ (ns : List ℕ) (k : ℕ). ns ++ replicate k d.stamp) (marks.sent i j in_i in_j) count
      ∙ ap (λ (ns : List ℕ). stamps (posted_to i (now j).posted) ++ ns) (sym m.same)
      ∙ sym (ap stamps m.is ∙ map-append (λ (e : ℕ × Message). e.0) (posted_to i (now j).posted) m.more);
}

-- in a start state
pub marks_start : (n : ℕ) (net : Network) (now : ℕ → Account) → Shows n net now → ((i : ℕ) → i < n → (now i).stamp ≡ 0) → ((i : ℕ) → i < n → (sends : List (ℕ × Message)) × ((now i).posted ≡ post 0 sends))
    → Marks n now (record { last = λ i. 0; sent = λ i j. replicate (length (link net.desks j i)) 0 })
marks_start n net now shows idle posted = record {
  last = λ i lt. sym (idle i lt);
  sent = λ i j in_i in_j.
      let p = posted j in_j in
      ap (λ (k : ℕ). replicate k 0) (link_long n net now shows i j in_j ∙ ap (λ (ps : List Posted). length (posted_to i ps)) p.1)
      ∙ sym (ap (λ (ps : List Posted). stamps (posted_to i ps)) p.1 ∙ same_stamp i 0 p.0);
}
