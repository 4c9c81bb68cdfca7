-- Whole streams, in whatever pieces.
use Rattle.std.proofs.Common.{◌≡◌, ℕ, ◌+◌, ◌<◌, ◌≤◌, min, Bool, true, false, List, [], ◌∷◌, ◌++◌, length, take, drop, All, Option, Some, None, Ok, Err, refl, sym, ap, subst, ◌∙◌, append_assoc, arith, length-append}
use Rattle.std.proofs.lemmas.List.{append-nil, drop_at, take_at}
use Rattle.std.proofs.lemmas.List.Concat.{flat_map-append, flat_map-cons}
use Rattle.std.proofs.lemmas.List.Elements.{All-nil, All-append, All-head, All-tail}
use Rattle.dcop_base.specs.Limits.{count_limit}
use Rattle.wire_frames.specs.declared.fault.FrameFault.TheVariants.{TooLong, NoMemory}
use Rattle.std.specs.Prelude.{ltb, MatchOption, IfSome}
use Rattle.std.specs.Int.{w32, to_be_bytes, from_be_bytes}
use Rattle.std.proofs.lemmas.Bool.{le-ltb}
use Rattle.std.proofs.lemmas.Nat.{from_be_bytes-to_be_bytes_4}
use Rattle.wire_frames.specs.Frame.{payload_limit, framed, framed_all, length_field, EndsAt}
use Rattle.wire_frames.specs.Reader.{Reader, fresh, Takes, Stops, Hands, first_of, after_first}
use Rattle.wire_frames.specs.Run.{Deed, fed, asked, Lead, stream_of, handed, HasRead, TakesOn, HandsOn, ReadsWhole, SplitsOnce}

framed_all-append : (ps qs : List (List ℕ)) → framed_all (ps ++ qs) ≡ framed_all ps ++ framed_all qs
framed_all-append ps qs = flat_map-append framed ps qs

-- a piece behind what was read
whole_more : (stream piece rest new_rest : List ℕ) (ps qs : List (List ℕ)) → stream ≡ framed_all ps ++ rest → rest ++ piece ≡ framed_all qs ++ new_rest → stream ++ piece ≡ framed_all (ps ++ qs) ++ new_rest
whole_more stream piece rest new_rest ps qs e f =
    ap (λ (x : List ℕ). x ++ piece) e ∙ append_assoc (framed_all ps) rest piece ∙ ap (λ (x : List ℕ). framed_all ps ++ x) f
    ∙ sym (append_assoc (framed_all ps) (framed_all qs) new_rest) ∙ ap (λ (x : List ℕ). x ++ new_rest) (sym (framed_all-append ps qs))

place_more : (a b c : ℕ) (place new : ℕ) → place ≡ min a count_limit → new ≡ min (place + b) count_limit → c ≡ a + b → new ≡ min c count_limit
place_more a b c place new e f g = omega arith

pub takes_on : TakesOn
takes_on stream piece out before after h t =
    let held : out ++ after.ready ≡ (out ++ before.ready) ++ t.payloads = ap (λ (x : List (List ℕ)). out ++ x) t.held ∙ sym (append_assoc out before.ready t.payloads) in
    let all : All (λ p. length p ≤ before.limit) ((out ++ before.ready) ++ t.payloads) = All-append (λ p. length p ≤ before.limit) (out ++ before.ready) t.payloads h.splits.within t.within in
    let whole : stream ++ piece ≡ framed_all ((out ++ before.ready) ++ t.payloads) ++ after.rest = whole_more stream piece before.rest after.rest (out ++ before.ready) t.payloads h.splits.whole t.whole in
    let long : length (framed_all ((out ++ before.ready) ++ t.payloads)) ≡ length (framed_all (out ++ before.ready)) + length (framed_all t.payloads) = ap length (framed_all-append (out ++ before.ready) t.payloads) ∙ length-append (framed_all (out ++ before.ready)) (framed_all t.payloads) in
    record {
      splits = record {
        whole = rw held whole;
        within = subst (λ (l : ℕ). All (λ p. length p ≤ l) (out ++ after.ready)) (sym t.limit) (rw held all);
        ends = t.ends;
      };
      place = rw held (place_more (length (framed_all (out ++ before.ready))) (length (framed_all t.payloads)) _ before.place after.place h.place t.place long);
    }

hands_nothing : (stream : List ℕ) (out : List (List ℕ)) (before after : Reader) → HasRead stream out before → Hands before None after → HasRead stream out after
hands_nothing stream out before after h hands = subst (λ (r : Reader). HasRead stream out r) (sym hands.left) (nothing_left before.ready hands.first h)
  where
    nothing_left : (ready : List (List ℕ)) → None ≡ first_of ready → HasRead stream out (record before { ready = ready }) → HasRead stream out (record before { ready = after_first ready })
    nothing_left [] e k = k
    nothing_left (p ∷ ps) e k = absurd cc

pub hands_on : HandsOn
hands_on stream payload out before after h hands = subst (λ (r : Reader). HasRead stream (out ++ payload ∷ []) r) (sym hands.left) (one_left before.ready hands.first h)
  where
    one_left : (ready : List (List ℕ)) → Some payload ≡ first_of ready → HasRead stream out (record before { ready = ready }) → HasRead stream (out ++ payload ∷ []) (record before { ready = after_first ready })
    one_left [] e k = absurd cc
    one_left (p ∷ ps) e k =
        let same : p ≡ payload = cc in
        let moved : out ++ p ∷ ps ≡ (out ++ payload ∷ []) ++ ps = rw same (sym (append_assoc out (payload ∷ []) ps)) in
        record {
          splits = record {
            whole = rw moved at k.splits.whole;
            within = rw moved at k.splits.within;
            ends = k.splits.ends;
          };
          place = rw moved at k.place;
        }

-- once a length field was too long, nothing more is read
lead_stuck : (ds : List Deed) (stream : List ℕ) (out : List (List ℕ)) (before after : Reader) → before.stuck ≡ true → HasRead stream out before → Lead ds before after → HasRead stream (out ++ handed ds) after × (after.limit ≡ before.limit)
lead_stuck [] stream out before after stuck h lead =
    (subst (λ (r : Reader). HasRead stream (out ++ []) r) (sym lead) (subst (λ (x : List (List ℕ)). HasRead stream x before) (sym (append-nil out)) h), ap (λ (r : Reader). r.limit) lead)
lead_stuck (fed piece (Ok done) ∷ ds) stream out before after stuck h lead = absurd (let e : before.stuck ≡ false = lead.1.0 in cc)
lead_stuck (fed piece (Err (TooLong place)) ∷ ds) stream out before after stuck h lead =
    let same : lead.0 ≡ before = subst (λ (b : Bool). Stops b before piece lead.0) stuck lead.1.2 in
    lead_stuck ds stream out before after stuck h (subst (λ (r : Reader). Lead ds r after) same lead.2)
lead_stuck (fed piece (Err NoMemory) ∷ ds) stream out before after stuck h lead = absurd (let e : before.stuck ≡ false = lead.1.0 in cc)
lead_stuck (asked None ∷ ds) stream out before after stuck h lead =
    let on = lead_stuck ds stream out lead.0 after (ap (λ (r : Reader). r.stuck) lead.1.left ∙ stuck) (hands_nothing stream out before lead.0 h lead.1) lead.2 in
    (on.0, on.1 ∙ ap (λ (r : Reader). r.limit) lead.1.left)
lead_stuck (asked (Some payload) ∷ ds) stream out before after stuck h lead =
    let on = lead_stuck ds stream (out ++ payload ∷ []) lead.0 after (ap (λ (r : Reader). r.stuck) lead.1.left ∙ stuck) (hands_on stream payload out before lead.0 h lead.1) lead.2 in
    (subst (λ (x : List (List ℕ)). HasRead stream x after) (append_assoc out (payload ∷ []) (handed ds)) on.0, on.1 ∙ ap (λ (r : Reader). r.limit) lead.1.left)

-- deeds from a reader on that stands after a stream
lead_on : (ds : List Deed) (stream : List ℕ) (out : List (List ℕ)) (before after : Reader) → before.stuck ≡ false → HasRead stream out before → Lead ds before after
    → HasRead (stream ++ stream_of ds) (out ++ handed ds) after × (after.limit ≡ before.limit)
lead_on [] stream out before after free h lead =
    (subst (λ (r : Reader). HasRead (stream ++ []) (out ++ []) r) (sym lead) (subst (λ (x : List (List ℕ)). HasRead (stream ++ []) x before) (sym (append-nil out)) (subst (λ (x : List ℕ). HasRead x out before) (sym (append-nil stream)) h)), ap (λ (r : Reader). r.limit) lead)
lead_on (fed piece (Ok done) ∷ ds) stream out before after free h lead =
    let on = lead_on ds (stream ++ piece) out lead.0 after lead.1.1 (takes_on stream piece out before lead.0 h lead.1.2) lead.2 in
    (subst (λ (x : List ℕ). HasRead x (out ++ handed ds) after) (append_assoc stream piece (stream_of ds)) on.0, on.1 ∙ lead.1.2.limit)
lead_on (fed piece (Err (TooLong place)) ∷ ds) stream out before after free h lead =
    let t : Takes before piece lead.0 = subst (λ (b : Bool). Stops b before piece lead.0) free lead.1.2 in
    let on = lead_stuck ds (stream ++ piece) out lead.0 after lead.1.1 (takes_on stream piece out before lead.0 h t) lead.2 in
    (on.0, on.1 ∙ t.limit)
lead_on (fed piece (Err NoMemory) ∷ ds) stream out before after free h lead =
    lead_on ds stream out before after free h (subst (λ (r : Reader). Lead ds r after) lead.1.1 lead.2)
lead_on (asked None ∷ ds) stream out before after free h lead =
    let on = lead_on ds stream out lead.0 after (ap (λ (r : Reader). r.stuck) lead.1.left ∙ free) (hands_nothing stream out before lead.0 h lead.1) lead.2 in
    (on.0, on.1 ∙ ap (λ (r : Reader). r.limit) lead.1.left)
lead_on (asked (Some payload) ∷ ds) stream out before after free h lead =
    let on = lead_on ds stream (out ++ payload ∷ []) lead.0 after (ap (λ (r : Reader). r.stuck) lead.1.left ∙ free) (hands_on stream payload out before lead.0 h lead.1) lead.2 in
    (subst (λ (x : List (List ℕ)). HasRead (stream ++ stream_of ds) x after) (append_assoc out (payload ∷ []) (handed ds)) on.0, on.1 ∙ ap (λ (r : Reader). r.limit) lead.1.left)

has_read_nothing : (limit : ℕ) → HasRead [] [] (fresh limit)
has_read_nothing limit = record { splits = record { whole = refl; within = All-nil (λ p. length p ≤ limit); ends = tt }; place = refl }

pub reads_whole : ReadsWhole
reads_whole limit ds r lead = lead_on ds [] [] (fresh limit) r refl (has_read_nothing limit) lead

-- ---- one split

front_field : (field rest : List ℕ) → length field ≡ 4 → length_field (field ++ rest) ≡ Some (from_be_bytes w32 field)
front_field field rest len =
    let long : ltb (length (field ++ rest)) 4 ≡ false = le-ltb _ _ (omega (arith, length-append field rest)) in
    rw (long, take_at field rest 4 len) refl

field_of : (payload rest : List ℕ) → length payload ≤ payload_limit → length_field (framed payload ++ rest) ≡ Some (length payload)
field_of payload rest le =
    ap length_field (append_assoc (to_be_bytes w32 (length payload)) payload rest) ∙ front_field (to_be_bytes w32 (length payload)) (payload ++ rest) refl
    ∙ ap Some (from_be_bytes-to_be_bytes_4 (length payload) (omega arith))

-- where bytes end, no whole frame within the limit stands
no_frame : (limit : ℕ) (payload rest : List ℕ) (stuck : Bool) → limit ≤ payload_limit → length payload ≤ limit → EndsAt limit (framed payload ++ rest) stuck → ⊥
no_frame limit payload rest true most le ends =
    let over : limit < length payload = subst (λ (o : Option ℕ). MatchOption o ⊥ (λ n. limit < n)) (field_of payload rest (omega arith)) ends in
    absurd (omega arith)
no_frame limit payload rest false most le ends =
    let few : (length payload ≤ limit) × (length (framed payload ++ rest) < 4 + length payload) = subst (λ (o : Option ℕ). IfSome o (λ n. (n ≤ limit) × (length (framed payload ++ rest) < 4 + n))) (field_of payload rest (omega arith)) ends in
    let header : length (framed payload) ≡ 4 + length payload = length-append (to_be_bytes w32 (length payload)) payload in
    absurd (omega (arith, few.1, header, length-append (framed payload) rest))

not_both : (limit : ℕ) (P : ℕ → Type 0) (o : Option ℕ) → MatchOption o ⊥ (λ n. limit < n) → IfSome o (λ n. (n ≤ limit) × P n) → ⊥
not_both limit P None p q = p
not_both limit P (Some n) p q = absurd (omega (arith, p, q.0))

-- bytes end in one way
one_end : (limit : ℕ) (rest : List ℕ) (a b : Bool) → EndsAt limit rest a → EndsAt limit rest b → a ≡ b
one_end limit rest true true p q = refl
one_end limit rest false false p q = refl
one_end limit rest true false p q = absurd (not_both limit (λ n. length rest < 4 + n) (length_field rest) p q)
one_end limit rest false true p q = absurd (not_both limit (λ n. length rest < 4 + n) (length_field rest) q p)

some_is : (m n : ℕ) → Some m ≡ Some n → m ≡ n
some_is m n e = cc

-- two frames at the front of the same bytes are one
one_front : (p q x y : List ℕ) → length p ≤ payload_limit → length q ≤ payload_limit → framed p ++ x ≡ framed q ++ y → (p ≡ q) × (x ≡ y)
one_front p q x y short_p short_q e =
    let same : length p ≡ length q = some_is _ _ (sym (field_of p x short_p) ∙ ap length_field e ∙ field_of q y short_q) in
    let behind : p ++ x ≡ q ++ y =
    sym (drop_at (to_be_bytes w32 (length p)) (p ++ x) 4 refl) ∙ ap (drop 4) (sym (append_assoc (to_be_bytes w32 (length p)) p x) ∙ e ∙ append_assoc (to_be_bytes w32 (length q)) q y) ∙ drop_at (to_be_bytes w32 (length q)) (q ++ y) 4 refl in
    (sym (take_at p x (length p) refl) ∙ ap (take (length p)) behind ∙ take_at q y (length p) (sym same), sym (drop_at p x (length p) refl) ∙ ap (drop (length p)) behind ∙ drop_at q y (length p) (sym same))

first_apart : (p : List ℕ) (ps : List (List ℕ)) (r : List ℕ) → framed_all (p ∷ ps) ++ r ≡ framed p ++ (framed_all ps ++ r)
first_apart p ps r = ap (λ (x : List ℕ). x ++ r) (flat_map-cons framed p ps) ∙ append_assoc (framed p) (framed_all ps) r

pub splits_once : SplitsOnce
splits_once limit stream [] [] r s a b most f g =
    let same : r ≡ s = sym f.whole ∙ g.whole in
    (refl, same, one_end limit s a b (subst (λ (x : List ℕ). EndsAt limit x a) same f.ends) g.ends)
splits_once limit stream [] (q ∷ qs) r s a b most f g =
    let begins : r ≡ framed q ++ (framed_all qs ++ s) = sym f.whole ∙ g.whole ∙ first_apart q qs s in
    absurd (no_frame limit q (framed_all qs ++ s) a most (All-head (λ p. length p ≤ limit) q qs g.within) (subst (λ (x : List ℕ). EndsAt limit x a) begins f.ends))
splits_once limit stream (p ∷ ps) [] r s a b most f g =
    let begins : s ≡ framed p ++ (framed_all ps ++ r) = sym g.whole ∙ f.whole ∙ first_apart p ps r in
    absurd (no_frame limit p (framed_all ps ++ r) b most (All-head (λ p. length p ≤ limit) p ps f.within) (subst (λ (x : List ℕ). EndsAt limit x b) begins g.ends))
splits_once limit stream (p ∷ ps) (q ∷ qs) r s a b most f g =
    let le_p : length p ≤ limit = All-head (λ p. length p ≤ limit) p ps f.within in
    let le_q : length q ≤ limit = All-head (λ p. length p ≤ limit) q qs g.within in
    let first = one_front p q (framed_all ps ++ r) (framed_all qs ++ s) (omega arith) (omega arith) (sym (first_apart p ps r) ∙ sym f.whole ∙ g.whole ∙ first_apart q qs s) in
    let others = splits_once limit (framed_all ps ++ r) ps qs r s a b most (record { whole = refl; within = All-tail (λ p. length p ≤ limit) p ps f.within; ends = f.ends }) (record { whole = first.1; within = All-tail (λ p. length p ≤ limit) q qs g.within; ends = g.ends }) in
    (rw (first.0, others.0) refl, others.1, others.2)
