-- A session's end and its requests are those of its whole input.
use Rattle.std.proofs.Common.{◌≡◌, ◌≢◌, ℕ, ◌+◌, ◌<◌, ◌≤◌, min, Bool, true, false, List, [], ◌∷◌, ◌++◌, length, take, drop, All, Option, Some, None, refl, sym, ap, subst, ◌∙◌, append_assoc, append-nil, arith, length-append, nat_le}
use Rattle.std.proofs.lemmas.List.{drop_at, take_at, take-append-le}
use Rattle.std.proofs.lemmas.List.Concat.{flat_map-cons}
use Rattle.std.proofs.lemmas.List.Elements.{All-head, All-tail}
use Rattle.std.proofs.lemmas.Bool.{le-ltb, ltb-false, lt-leb, le-leb}
use Rattle.std.proofs.lemmas.Nat.{from_be_bytes-to_be_bytes_4}
use Rattle.std.specs.Prelude.{ltb, MatchOption, IfSome}
use Rattle.std.specs.List.{AllZip}
use Rattle.std.specs.Int.{w32, to_be_bytes, from_be_bytes}
use Rattle.std.specs.Io.KnownBytes.{prepend_known, IsAtEnd}
use Rattle.dcop_base.specs.Limits.{count_limit}
use Rattle.reply_cache.specs.Steps.{Step, Leads}
use Rattle.wire_frames.specs.Frame.{payload_limit, framed, framed_all, length_field, EndsAt, IsTooLong}
use Rattle.wire_frames.specs.Run.{Splits}
use Rattle.wire_frames.proofs.StreamLaws.{splits_once}
use Rattle.solve_serve.specs.Limits.{request_limit, session_limit}
use Rattle.solve_serve.specs.Session.{Outside, served_by, HasServed}
use Rattle.solve_serve.specs.Exact.{is_of_input, end_for, EndsExactly, AnswersFirst, RepliesAreOne}
use Rattle.solve_serve.specs.declared.end.SessionEnd.{SessionEnd}
use Rattle.solve_serve.specs.declared.end.SessionEnd.TheVariants as ends

front_field : (field rest : List ℕ) → length field ≡ 4 → length_field (field ++ rest) ≡ Some (from_be_bytes w32 field)
front_field field rest len =
    let long : ltb (length (field ++ rest)) 4 ≡ false = le-ltb _ _ (omega (arith, length-append field rest)) in
    rw (long, take_at field rest 4 len) refl

field_of : (payload rest : List ℕ) → length payload ≤ payload_limit → length_field (framed payload ++ rest) ≡ Some (length payload)
field_of payload rest le =
    ap length_field (append_assoc (to_be_bytes w32 (length payload)) payload rest) ∙ front_field (to_be_bytes w32 (length payload)) (payload ++ rest) refl
    ∙ ap Some (from_be_bytes-to_be_bytes_4 (length payload) (omega arith))

-- a whole frame within the limit is not at the place where whole frames end
no_frame : (limit : ℕ) (payload rest : List ℕ) (stuck : Bool) → limit ≤ payload_limit → length payload ≤ limit → EndsAt limit (framed payload ++ rest) stuck → ⊥
no_frame limit payload rest true most le ends =
    let over : limit < length payload = subst (λ (o : Option ℕ). MatchOption o ⊥ (λ n. limit < n)) (field_of payload rest (omega arith)) ends in
    absurd (omega arith)
no_frame limit payload rest false most le ends =
    let few : (length payload ≤ limit) × (length (framed payload ++ rest) < 4 + length payload) = subst (λ (o : Option ℕ). IfSome o (λ n. (n ≤ limit) × (length (framed payload ++ rest) < 4 + n))) (field_of payload rest (omega arith)) ends in
    let header : length (framed payload) ≡ 4 + length payload = length-append (to_be_bytes w32 (length payload)) payload in
    absurd (omega (arith, few.1, header, length-append (framed payload) rest))

some_is : (m n : ℕ) → Some m ≡ Some n → m ≡ n
some_is m n e = cc

-- two frames at the front of the same bytes are one
one_front : (p q x y : List ℕ) → length p ≤ payload_limit → length q ≤ payload_limit → framed p ++ x ≡ framed q ++ y → (p ≡ q) × (x ≡ y)
one_front p q x y short_p short_q e =
    let same : length p ≡ length q = some_is _ _ (sym (field_of p x short_p) ∙ ap length_field e ∙ field_of q y short_q) in
    let behind : p ++ x ≡ q ++ y =
    sym (drop_at (to_be_bytes w32 (length p)) (p ++ x) 4 refl) ∙ ap (drop 4) (sym (append_assoc (to_be_bytes w32 (length p)) p x) ∙ e ∙ append_assoc (to_be_bytes w32 (length q)) q y) ∙ drop_at (to_be_bytes w32 (length q)) (q ++ y) 4 refl in
    (sym (take_at p x (length p) refl) ∙ ap (take (length p)) behind ∙ take_at q y (length p) (sym same), sym (drop_at p x (length p) refl) ∙ ap (drop (length p)) behind ∙ drop_at q y (length p) (sym same))

first_apart : (p : List ℕ) (ps : List (List ℕ)) (r : List ℕ) → framed_all (p ∷ ps) ++ r ≡ framed p ++ (framed_all ps ++ r)
first_apart p ps r = ap (λ (x : List ℕ). x ++ r) (flat_map-cons framed p ps) ∙ append_assoc (framed p) (framed_all ps) r

-- frames at the front of a stream are its first
front_of : (limit : ℕ) (qs ps : List (List ℕ)) (more rest : List ℕ) (stuck : Bool) → limit ≤ payload_limit → All (λ p. length p ≤ limit) qs → All (λ p. length p ≤ limit) ps → EndsAt limit rest stuck
    → framed_all qs ++ more ≡ framed_all ps ++ rest → (others : List (List ℕ)) × (ps ≡ qs ++ others)
front_of limit [] ps more rest stuck most a b ends e = (ps, refl)
front_of limit (q ∷ qs) [] more rest stuck most a b ends e =
    absurd (no_frame limit q (framed_all qs ++ more) stuck most (All-head (λ p. length p ≤ limit) q qs a) (subst (λ (x : List ℕ). EndsAt limit x stuck) (sym e ∙ first_apart q qs more) ends))
front_of limit (q ∷ qs) (p ∷ ps) more rest stuck most a b ends e =
    let le_q : length q ≤ limit = All-head (λ p. length p ≤ limit) q qs a in
    let le_p : length p ≤ limit = All-head (λ p. length p ≤ limit) p ps b in
    let first = one_front q p (framed_all qs ++ more) (framed_all ps ++ rest) (omega arith) (omega arith) (sym (first_apart q qs more) ∙ e ∙ first_apart p ps rest) in
    let on = front_of limit qs ps more rest stuck most (All-tail (λ p. length p ≤ limit) q qs a) (All-tail (λ p. length p ≤ limit) p ps b) ends first.1 in
    (on.0, λ i. sym first.0 i ∷ on.1 i)

-- what a source whose bytes are known has left afterwards
told : (stream front : List ℕ) (after : Option (List ℕ)) → Some stream ≡ prepend_known front after → (left : List ℕ) × (after ≡ Some left) × (stream ≡ front ++ left)
told stream front None e = absurd cc
told stream front (Some left) e = (left, refl, cc)

at_end : (after : Option (List ℕ)) (left : List ℕ) → after ≡ Some left → IsAtEnd after → left ≡ []
at_end after left e at = subst (λ (o : Option (List ℕ)). IsAtEnd o) e at

-- a length field that is too long stays so, whatever follows
long_on : (limit : ℕ) (behind left : List ℕ) → IsTooLong limit behind → IsTooLong limit (behind ++ left)
long_on limit behind left long = by (ltb (length behind) 4) refl
  where
    by : (b : Bool) → ltb (length behind) 4 ≡ b → IsTooLong limit (behind ++ left)
    by true e = absurd (rw e at long)
    by false e =
        let four : 4 ≤ length behind = ltb-false _ _ e in
        let test : ltb (length (behind ++ left)) 4 ≡ false = le-ltb _ _ (omega (arith, length-append behind left, four)) in
        rw (test, take-append-le 4 behind left four) (rw e at long)

-- the end of the whole input, given equal parts
same_end : (end : SessionEnd) (qs ps : List (List ℕ)) (r s : List ℕ) (a b : Bool) → end ≡ end_for qs r a → (qs ≡ ps) × (r ≡ s) × (a ≡ b) → end ≡ end_for ps s b
same_end end qs ps r s a b is same = is ∙ (λ i. end_for (same.0 i) (same.1 i) (same.2 i))

few_test : (n : ℕ) → n < session_limit → nat_le session_limit n ≡ false
few_test n lt = lt-leb session_limit n lt

closed_for : (qs : List (List ℕ)) (served : ℕ) → length qs ≡ served → served < session_limit → ends.Closed served ≡ end_for qs [] false
closed_for qs served is lt = rw (few_test (length qs) (omega (arith, is, lt))) (ap ends.Closed (sym is))

cut_for : (qs : List (List ℕ)) (served : ℕ) (rest : List ℕ) → length qs ≡ served → served < session_limit → (rest ≢ []) → ends.Cut served ≡ end_for qs rest false
cut_for qs served [] is lt some = absurd (some refl)
cut_for qs served (b ∷ bs) is lt some = rw (few_test (length qs) (omega (arith, is, lt))) (ap ends.Cut (sym is))

long_for : (qs : List (List ℕ)) (served place : ℕ) (rest : List ℕ) → length qs ≡ served → served < session_limit → place ≡ min (length (framed_all qs)) count_limit → ends.Long served place ≡ end_for qs rest true
long_for qs served place rest is lt at = rw (few_test (length qs) (omega (arith, is, lt))) (λ i. ends.Long (sym is i) (at i))

limit_for : (ps : List (List ℕ)) (rest : List ℕ) (stuck : Bool) → session_limit ≤ length ps → ends.Limit session_limit ≡ end_for ps rest stuck
limit_for ps rest stuck many = rw (le-leb session_limit (length ps) many) refl

-- the whole input, if a session read it as far as these bytes after its requests
whole_input : (is_reply : List ℕ → List ℕ → Type 0) (went : List Step → Type 0) (end : SessionEnd) (before after : Outside) (stream : List ℕ) → before.left ≡ Some stream → (h : HasServed is_reply went end before after)
    → (left : List ℕ) × (after.left ≡ Some left) × (stream ≡ framed_all h.requests ++ (h.behind ++ left))
whole_input is_reply went end before after stream is h =
    let t = told stream (framed_all h.requests ++ h.behind) after.left (sym is ∙ h.read) in
    (t.0, t.1, t.2 ∙ append_assoc (framed_all h.requests) h.behind t.0)

none_behind : (behind left : List ℕ) → behind ≡ [] → left ≡ [] → behind ++ left ≡ []
none_behind behind left a b = rw (a, b) refl

none_left : (behind left : List ℕ) → left ≡ [] → behind ++ left ≡ behind
none_left behind left b = rw b (append-nil behind)

ends_so : (is_reply : List ℕ → List ℕ → Type 0) (went : List Step → Type 0) (end : SessionEnd) (before after : Outside) (stream : List ℕ) (payloads : List (List ℕ)) (rest : List ℕ) (stuck : Bool)
    → before.left ≡ Some stream → Splits request_limit stream payloads rest stuck → HasServed is_reply went end before after → is_of_input end ≡ true → end ≡ end_for payloads rest stuck
ends_so is_reply went (ends.Closed served) before after stream payloads rest stuck is split h own =
    let w = whole_input is_reply went (ends.Closed served) before after stream is h in
    let none = none_behind h.behind w.0 h.cause.2 (at_end after.left w.0 w.1 h.cause.3) in
    let here : Splits request_limit stream h.requests [] false = record { whole = subst (λ (x : List ℕ). stream ≡ framed_all h.requests ++ x) none w.2; within = h.within; ends = tt } in
    same_end (ends.Closed served) h.requests payloads [] rest false stuck (closed_for h.requests served h.count h.cause.0) (splits_once request_limit stream h.requests payloads [] rest false stuck (omega arith) here split)
ends_so is_reply went (ends.Cut served) before after stream payloads rest stuck is split h own =
    let w = whole_input is_reply went (ends.Cut served) before after stream is h in
    let none = none_left h.behind w.0 (at_end after.left w.0 w.1 h.cause.4) in
    let here : Splits request_limit stream h.requests h.behind false = record { whole = subst (λ (x : List ℕ). stream ≡ framed_all h.requests ++ x) none w.2; within = h.within; ends = h.cause.3 } in
    same_end (ends.Cut served) h.requests payloads h.behind rest false stuck (cut_for h.requests served h.behind h.count h.cause.0 h.cause.2) (splits_once request_limit stream h.requests payloads h.behind rest false stuck (omega arith) here split)
ends_so is_reply went (ends.Long served place) before after stream payloads rest stuck is split h own =
    let w = whole_input is_reply went (ends.Long served place) before after stream is h in
    let here : Splits request_limit stream h.requests (h.behind ++ w.0) true = record { whole = w.2; within = h.within; ends = long_on request_limit h.behind w.0 h.cause.2 } in
    same_end (ends.Long served place) h.requests payloads (h.behind ++ w.0) rest true stuck (long_for h.requests served place (h.behind ++ w.0) h.count h.cause.0 h.cause.3) (splits_once request_limit stream h.requests payloads (h.behind ++ w.0) rest true stuck (omega arith) here split)
ends_so is_reply went (ends.Limit served) before after stream payloads rest stuck is split h own =
    let w = whole_input is_reply went (ends.Limit served) before after stream is h in
    let front = front_of request_limit h.requests payloads (h.behind ++ w.0) rest stuck (omega arith) h.within split.within split.ends (sym w.2 ∙ split.whole) in
    let many : session_limit ≤ length payloads = omega (arith, h.count, h.cause.0, ap length front.1, length-append h.requests front.0) in
    ap ends.Limit h.cause.0 ∙ limit_for payloads rest stuck many
ends_so is_reply went (ends.Read served) before after stream payloads rest stuck is split h own = cc
ends_so is_reply went (ends.Write served) before after stream payloads rest stuck is split h own = cc
ends_so is_reply went (ends.Memory served) before after stream payloads rest stuck is split h own = cc

answers_so : (is_reply : List ℕ → List ℕ → Type 0) (went : List Step → Type 0) (end : SessionEnd) (before after : Outside) (stream : List ℕ) (payloads : List (List ℕ)) (rest : List ℕ) (stuck : Bool)
    → before.left ≡ Some stream → Splits request_limit stream payloads rest stuck → (h : HasServed is_reply went end before after) → h.requests ≡ take (served_by end) payloads
answers_so is_reply went end before after stream payloads rest stuck is split h =
    let w = whole_input is_reply went end before after stream is h in
    let front = front_of request_limit h.requests payloads (h.behind ++ w.0) rest stuck (omega arith) h.within split.within split.ends (sym w.2 ∙ split.whole) in
    sym (take_at h.requests front.0 (served_by end) h.count) ∙ ap (take (served_by end)) (sym front.1)

-- the same requests have the same replies
one_list : (is_reply : List ℕ → List ℕ → Type 0) → ((key reply other : List ℕ) → is_reply key reply → is_reply key other → reply ≡ other)
    → (keys replies others : List (List ℕ)) → AllZip is_reply keys replies → AllZip is_reply keys others → replies ≡ others
one_list is_reply one [] [] [] a b = refl
one_list is_reply one [] [] (o ∷ os) a b = absurd b
one_list is_reply one [] (r ∷ rs) os a b = absurd a
one_list is_reply one (k ∷ ks) [] os a b = absurd a
one_list is_reply one (k ∷ ks) (r ∷ rs) [] a b = absurd b
one_list is_reply one (k ∷ ks) (r ∷ rs) (o ∷ os) a b = λ i. one k r o a.0 b.0 i ∷ one_list is_reply one ks rs os a.1 b.1 i

module _ {S : Type 0} (does : S → Step → S → Type 0) (is_reply : List ℕ → List ℕ → Type 0) where
  pub ends_exactly : EndsExactly does is_reply
  ends_exactly a b end before after stream payloads rest stuck is split h own = ends_so is_reply (λ steps. Leads does steps a b) end before after stream payloads rest stuck is split h own

  pub answers_first : AnswersFirst does is_reply
  answers_first a b end before after stream payloads rest stuck is split h = answers_so is_reply (λ steps. Leads does steps a b) end before after stream payloads rest stuck is split h

  pub replies_are_one : ((key reply other : List ℕ) → is_reply key reply → is_reply key other → reply ≡ other) → RepliesAreOne does is_reply
  replies_are_one one a b a' b' end end' before after before' after' h h' same =
      one_list is_reply one h.requests h.replies h'.replies h.replied (subst (λ (ks : List (List ℕ)). AllZip is_reply ks h'.replies) (sym same) h'.replied)
