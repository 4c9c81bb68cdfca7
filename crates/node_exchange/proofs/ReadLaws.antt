-- Reading the frames of letters.
use Rattle.std.proofs.Common.{◌≡◌, ℕ, ◌<◌, ◌≤◌, ◌^◌, false, List, [], ◌∷◌, ◌++◌, map, length, Some, None, Ok, Err, refl, sym, ap, subst, ◌∙◌, arith}
use Rattle.std.specs.List.{All}
use Rattle.std.proofs.lemmas.List.{append-nil, append_assoc}
use Rattle.std.proofs.lemmas.List.Folds.{flat_map-map}
use Rattle.std.proofs.lemmas.List.Elements.{All-nil, All-cons, All-head, All-tail}
use Rattle.std.proofs.lemmas.Option.{none-some, same_Some}
use Rattle.protocol_steps.specs.declared.message.Message.{Message}
use Rattle.message_code.specs.Decode.{IsEnvelope}
use Rattle.wire_frames.specs.Frame.{payload_limit, framed, framed_all, EndsAt}
use Rattle.wire_frames.specs.Reader.{Reader, fresh, Takes, Feeds, Hands, first_of, after_first}
use Rattle.wire_frames.specs.Run.{Splits}
use Rattle.wire_frames.specs.declared.fault.FrameFault.TheVariants.{TooLong}
use Rattle.std.proofs.lemmas.Bool.{true≢false}
use Rattle.wire_frames.proofs.StreamLaws.{splits_once}
use Rattle.node_exchange.specs.declared.payload.Addressed.{Addressed}
use Rattle.node_exchange.specs.Payloads.{payload_code, IsFoundAs}
use Rattle.node_exchange.specs.Letters.{letter_code, stream_of, IsLetter}
use Rattle.node_exchange.specs.Reads.{AreOpened}
use Rattle.node_exchange.proofs.PayloadLaws.{payload_short}

pub none_opened : (ls : List Addressed) (ready : List (List ℕ)) → All IsLetter ls → ready ≡ map letter_code ls → AreOpened ls [] ready
none_opened ls ready good is = record { rest = ls; whole = refl; ready_is = is; good = good }

same_letter : (l m : Addressed) → l.from ≡ m.from → l.to ≡ m.to → l.envelope ≡ m.envelope → l ≡ m
same_letter l m from to envelope =
    ap (λ (x : ℕ). let y : Addressed = record { from = x; to = l.to; envelope = l.envelope } in y) from
    ∙ ap (λ (x : ℕ). let y : Addressed = record { from = m.from; to = x; envelope = l.envelope } in y) to
    ∙ ap (λ (x : ℕ × Message). let y : Addressed = record { from = m.from; to = m.to; envelope = x } in y) envelope

-- what the payload that comes next is that of
record IsNext (ls opened : List Addressed) (payload : List ℕ) (ready : List (List ℕ)) : Type 0 where
  next : Addressed
  rest : List Addressed
  whole : ls ≡ (opened ++ next ∷ []) ++ rest
  is : payload ≡ letter_code next
  ready_is : ready ≡ map letter_code rest
  own : IsLetter next
  good : All IsLetter rest

next_of : (ls opened : List Addressed) (payload : List ℕ) (ready : List (List ℕ)) (rest : List Addressed) → ls ≡ opened ++ rest → payload ∷ ready ≡ map letter_code rest → All IsLetter rest → IsNext ls opened payload ready
next_of ls opened payload ready [] whole is good = absurd (none-some payload (sym (ap first_of is)))
next_of ls opened payload ready (l ∷ rest) whole is good = record {
  next = l;
  rest = rest;
  whole = whole ∙ sym (append_assoc opened (l ∷ []) rest);
  is = same_Some payload (letter_code l) (ap first_of is);
  ready_is = ap after_first is;
  own = All-head IsLetter l rest good;
  good = All-tail IsLetter l rest good;
}

-- a reader that hands out a payload
handed_next : (before after : Reader) (payload : List ℕ) → Hands before (Some payload) after → before.ready ≡ payload ∷ after.ready
handed_next before after payload h = front before.ready after.ready payload h.first (ap (λ (r : Reader). r.ready) h.left)
  where
    front : (ps qs : List (List ℕ)) (p : List ℕ) → Some p ≡ first_of ps → qs ≡ after_first ps → ps ≡ p ∷ qs
    front [] qs p e f = absurd (none-some p (sym e))
    front (x ∷ ps) qs p e f = ap (λ (y : List ℕ). y ∷ ps) (sym (same_Some p x e)) ∙ ap (λ (ys : List (List ℕ)). p ∷ ys) (sym f)

pub one_less : (before after : Reader) (payload : List ℕ) → Hands before (Some payload) after → length after.ready < length before.ready
one_less before after payload h = let long = ap length (handed_next before after payload h) in omega (arith, long)

pub opens_next : (ls opened : List Addressed) (before after : Reader) (payload : List ℕ) (found : Addressed) → AreOpened ls opened before.ready → Hands before (Some payload) after
    → ((from to : ℕ) (e : ℕ × Message) → from < 2 ^ 32 → to < 2 ^ 32 → IsEnvelope e → payload ≡ payload_code from to e → IsFoundAs (Some found) from to e)
    → AreOpened ls (opened ++ found ∷ []) after.ready
opens_next ls opened before after payload found o h only =
    let n = next_of ls opened payload after.ready o.rest o.whole (sym (handed_next before after payload h) ∙ o.ready_is) o.good in
    let f = only n.next.from n.next.to n.next.envelope n.own.from n.own.to n.own.envelope n.is in
    let same : n.next ≡ found = same_letter n.next found (sym f.0) (sym f.1) (sym f.2) in
    record { rest = n.rest; whole = n.whole ∙ ap (λ (l : Addressed). (opened ++ l ∷ []) ++ n.rest) same; ready_is = n.ready_is; good = n.good }

-- a payload that is none comes not
pub opens_none : (ls opened : List Addressed) (before after : Reader) (payload : List ℕ) → AreOpened ls opened before.ready → Hands before (Some payload) after
    → ((from to : ℕ) (e : ℕ × Message) → from < 2 ^ 32 → to < 2 ^ 32 → IsEnvelope e → payload ≡ payload_code from to e → IsFoundAs None from to e) → ⊥
opens_none ls opened before after payload o h only =
    let n = next_of ls opened payload after.ready o.rest o.whole (sym (handed_next before after payload h) ∙ o.ready_is) o.good in
    only n.next.from n.next.to n.next.envelope n.own.from n.own.to n.own.envelope n.is

-- behind the last one all are opened
pub opens_all : (ls opened : List Addressed) (before after : Reader) → AreOpened ls opened before.ready → Hands before None after → opened ≡ ls
opens_all ls opened before after o h = last o.rest (front before.ready h.first) o.ready_is o.whole
  where
    front : (ps : List (List ℕ)) → None ≡ first_of ps → ps ≡ []
    front [] e = refl
    front (p ∷ ps) e = absurd (none-some p e)

    last : (rest : List Addressed) → before.ready ≡ [] → before.ready ≡ map letter_code rest → ls ≡ opened ++ rest → opened ≡ ls
    last [] empty is whole = sym (whole ∙ append-nil opened)
    last (l ∷ rest) empty is whole = absurd (none-some (letter_code l) (ap first_of (sym empty ∙ is)))

-- the frames of letters, as a reader splits them
all_short : (ls : List Addressed) → All IsLetter ls → All (λ p. length p ≤ payload_limit) (map letter_code ls)
all_short [] good = All-nil (λ p. length p ≤ payload_limit)
all_short (l ∷ ls) good =
    All-cons (λ p. length p ≤ payload_limit) (letter_code l) (map letter_code ls) (payload_short l.from l.to l.envelope (All-head IsLetter l ls good).envelope) (all_short ls (All-tail IsLetter l ls good))

splits_so : (ls : List Addressed) (bytes : List ℕ) → All IsLetter ls → bytes ≡ stream_of ls → Splits payload_limit bytes (map letter_code ls) [] false
splits_so ls bytes good is = record {
  whole = is ∙ sym (flat_map-map framed letter_code ls) ∙ sym (append-nil (framed_all (map letter_code ls)));
  within = all_short ls good;
  ends = tt;
}

taken_splits : (bytes : List ℕ) (r : Reader) (t : Takes (fresh payload_limit) bytes r) → Splits payload_limit bytes t.payloads r.rest r.stuck
taken_splits bytes r t = record {
  whole = t.whole;
  within = t.within;
  ends = subst (λ (n : ℕ). EndsAt n r.rest r.stuck) t.limit t.ends;
}

-- what a reader holds of the frames of letters
pub record HoldsLetters (ls : List Addressed) (r : Reader) : Type 0 where
  pub ready : r.ready ≡ map letter_code ls
  pub rest : r.rest ≡ []
  pub stuck : r.stuck ≡ false

pub holds_letters : (ls : List Addressed) (bytes : List ℕ) (r : Reader) → All IsLetter ls → bytes ≡ stream_of ls → Takes (fresh payload_limit) bytes r → HoldsLetters ls r
holds_letters ls bytes r good is t =
    let once = splits_once payload_limit bytes t.payloads (map letter_code ls) r.rest [] r.stuck false (omega arith) (taken_splits bytes r t) (splits_so ls bytes good is) in
    record { ready = t.held ∙ once.0; rest = once.1; stuck = once.2 }

-- what feeding the frames of letters gives
module _ (ls : List Addressed) (bytes : List ℕ) (before after : Reader) (start : before ≡ fresh payload_limit) (good : All IsLetter ls) (is : bytes ≡ stream_of ls) where
  pub not_long : (place : ℕ) → Feeds before bytes (Err (TooLong place)) after → ⊥
  not_long place fed =
      let f : Feeds (fresh payload_limit) bytes (Err (TooLong place)) after = subst (λ (r : Reader). Feeds r bytes (Err (TooLong place)) after) start fed in
      true≢false (sym f.1 ∙ (holds_letters ls bytes after good is f.2).stuck)

  fed_all : Feeds before bytes (Ok tt) after → HoldsLetters ls after
  fed_all fed =
      let f : Feeds (fresh payload_limit) bytes (Ok tt) after = subst (λ (r : Reader). Feeds r bytes (Ok tt) after) start fed in
      holds_letters ls bytes after good is f.2

  pub no_rest : Feeds before bytes (Ok tt) after → 0 < length after.rest → ⊥
  no_rest fed some = let none = ap length (fed_all fed).rest in omega (arith, none, some)

  pub all_ready : Feeds before bytes (Ok tt) after → after.ready ≡ map letter_code ls
  all_ready fed = (fed_all fed).ready
