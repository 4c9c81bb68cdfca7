-- Settling one link of several.
use Rattle.std.proofs.Common.{◌≡◌, ℕ, zero, suc, ◌<◌, ◌==◌, Some, None, List, [], ◌∷◌, map, length, set, get_or, refl, sym, ap, subst, ◌∙◌, inl, inr, arith, length-set}
use Rattle.std.specs.List.{position}
use Rattle.std.specs.List.Sorted.{IsStrictlyIncreasing}
use Rattle.std.proofs.lemmas.Bool.{cases_eq, eq-eqb, eqb-true, true≢false}
use Rattle.std.proofs.lemmas.List.{get_or-map, get_or_default, get_or-set_same, get_or-set_other, length-map}
use Rattle.std.proofs.lemmas.List.Quantifiers.{position-Some}
use Rattle.std.proofs.Math.Seq.{map-set_same}
use Rattle.dcop_base.proofs.FaultLaws.{position-none}
use Rattle.dcop_base.proofs.UniqueLaws.{IsStrictlyIncreasing-tail, head_below}
use Rattle.protocol_steps.specs.declared.message.Message.{Message}
use Rattle.fifo_links.specs.declared.ends.LinkTail.{LinkTail}
use Rattle.fifo_links.specs.declared.ends.LinkHead.{LinkHead}
use Rattle.fifo_links.specs.Link.{AreEnds, IsSettled, SameTail, SameHead, sent_on, taken_from, known_to}
use Rattle.worker_laws.specs.Cells.{Lane, peers}
use Rattle.agent_cells.specs.Links.{Tail, Head, lanes_sent, lanes_taken}
use Rattle.agent_cells.specs.Settled.{StandsAt, TailJoins, HeadJoins, EndsJoin, SettlesTail, SettlesHead, TailIsSettled, HeadIsSettled, EndsAreSettled}
use Rattle.agent_cells.proofs.SameLaws.{same_tails, same_heads, tails_set, heads_set}

module _ {A : Type 0} (key : A → ℕ) where
  -- a key is there once if keys are in strictly ascending order
  unique : (xs : List A) (i k : ℕ) (d : A) → IsStrictlyIncreasing (map key xs) → i < length xs → k < length xs → key (get_or xs i d) ≡ key (get_or xs k d) → i ≡ k
  unique [] i k d up lt _ e = let no : i < 0 = lt in absurd (omega arith)
  unique (x ∷ xs) zero zero d up _ _ e = refl
  unique (x ∷ xs) zero (suc k) d up _ lt e =
      let short : k < length xs = omega (arith, lt) in
      let low : key x < key x = head_below (key x) (map key xs) (key x) up (k, omega (arith, short, length-map xs key), get_or-map key xs k d (key x) short ∙ sym e) in absurd (omega (arith, low))
  unique (x ∷ xs) (suc i) zero d up lt _ e =
      let short : i < length xs = omega (arith, lt) in
      let low : key x < key x = head_below (key x) (map key xs) (key x) up (i, omega (arith, short, length-map xs key), get_or-map key xs i d (key x) short ∙ e) in absurd (omega (arith, low))
  unique (x ∷ xs) (suc i) (suc k) d up lt lt' e = ap suc (unique xs i k d (IsStrictlyIncreasing-tail (key x) (map key xs) up) (omega (arith, lt)) (omega (arith, lt')) e)

  -- a key was found at this place
  found : (xs : List A) (j k : ℕ) (d : A) → Some k ≡ position (λ a. key a == j) xs → StandsAt xs k (get_or xs k d) × (key (get_or xs k d) ≡ j)
  found xs j k d is =
      let facts = position-Some (λ a. key a == j) xs k d (sym is) in
      (record { inside = facts.0; is = get_or_default xs k (get_or xs k d) d facts.0 }, eqb-true (key (get_or xs k d)) j facts.1)

  -- the key was not found
  nowhere : (xs : List A) (j k : ℕ) (x : A) → None ≡ position (λ a. key a == j) xs → StandsAt xs k x → key x ≡ j → ⊥
  nowhere xs j k x none at is =
      true≢false (sym (eq-eqb (key x) j is) ∙ sym (ap (λ a. key a == j) at.is) ∙ position-none (λ a. key a == j) xs (sym none) k x at.inside)

  -- the element with the key after an element was written at its place
  written_one : (xs : List A) (j k i : ℕ) (d y x : A) → IsStrictlyIncreasing (map key xs) → Some k ≡ position (λ a. key a == j) xs → StandsAt (set xs k y) i x → key x ≡ j → x ≡ y
  written_one xs j k i d y x up is at same =
      let f = found xs j k x is in
      let inside : i < length xs = let l = at.inside in omega (arith, l, length-set xs k y) in
      elim (cases_eq i k) [
        | inl e ↦ sym at.is ∙ ap (λ n. get_or (set xs k y) n x) e ∙ get_or-set_same xs k y x f.0.inside
        | inr ne ↦
            let here : get_or xs i x ≡ x = sym (get_or-set_other xs k i y x ne) ∙ at.is in
            absurd (ne (unique xs i k x up inside f.0.inside (ap key here ∙ same ∙ sym f.1)))
      ]

  -- an element with another key has not changed
  others_stand : (xs : List A) (j k i : ℕ) (y x : A) → Some k ≡ position (λ a. key a == j) xs → StandsAt xs i x → (key x ≡ j → ⊥) → StandsAt (set xs k y) i x
  others_stand xs j k i y x is at other =
      let f = found xs j k x is in
      record {
        inside = let l = at.inside in omega (arith, l, length-set xs k y);
        is = get_or-set_other xs k i y x (λ (e : i ≡ k). other (sym (ap key at.is) ∙ ap (λ n. key (get_or xs n x)) e ∙ f.1)) ∙ at.is;
      }

keys_of_tails : (ts : List Tail) → map (λ t. t.0) ts ≡ peers (lanes_sent ts)
keys_of_tails [] = refl
keys_of_tails (t ∷ ts) = ap (λ (ns : List ℕ). t.0 ∷ ns) (keys_of_tails ts)

keys_of_heads : (hs : List Head) → map (λ h. h.0) hs ≡ peers (lanes_taken hs)
keys_of_heads [] = refl
keys_of_heads (h ∷ hs) = ap (λ (ns : List ℕ). h.0 ∷ ns) (keys_of_heads hs)

-- ends ascend by their peers as their lanes do
pub tails_ascend : (ts : List Tail) → IsStrictlyIncreasing (peers (lanes_sent ts)) → IsStrictlyIncreasing (map (λ t. t.0) ts)
tails_ascend ts up = subst (λ (ns : List ℕ). IsStrictlyIncreasing ns) (sym (keys_of_tails ts)) up

pub heads_ascend : (hs : List Head) → IsStrictlyIncreasing (peers (lanes_taken hs)) → IsStrictlyIncreasing (map (λ h. h.0) hs)
heads_ascend hs up = subst (λ (ns : List ℕ). IsStrictlyIncreasing ns) (sym (keys_of_heads hs)) up

-- the ends that are settled are those of one link
pub tail_joins : (ts : List Tail) (to k : ℕ) (d : Tail) (head : LinkHead (ℕ × Message)) → TailJoins ts to head → Some k ≡ position (λ t. t.0 == to) ts → AreEnds (get_or ts k d).1 head
tail_joins ts to k d head j is = let f = found (λ (t : Tail). t.0) ts to k d is in j.each k (get_or ts k d) f.0 f.1

pub head_joins : (hs : List Head) (from k : ℕ) (d : Head) (tail : LinkTail (ℕ × Message)) → HeadJoins hs from tail → Some k ≡ position (λ h. h.0 == from) hs → AreEnds tail (get_or hs k d).1
head_joins hs from k d tail j is = let f = found (λ (h : Head). h.0) hs from k d is in j.each k (get_or hs k d) f.0 f.1

pub ends_join : (ts : List Tail) (hs : List Head) (to from k : ℕ) (d : Head) → EndsJoin ts to hs from → Some k ≡ position (λ h. h.0 == from) hs → TailJoins ts to (get_or hs k d).1
ends_join ts hs to from k d j is = let f = found (λ (h : Head). h.0) hs from k d is in j.each k (get_or hs k d) f.0 f.1

-- nothing is settled
pub tail_rests : (ts : List Tail) (to : ℕ) → SettlesTail ts to ts
tail_rests ts to = record { same = same_tails ts; sent = refl; others = λ k t at _. at }

pub head_rests : (hs : List Head) (from : ℕ) → SettlesHead hs from hs
head_rests hs from = record { same = same_heads hs; taken = refl; others = λ k h at _. at }

pub no_tail : (ts : List Tail) (to : ℕ) (head : LinkHead (ℕ × Message)) → None ≡ position (λ t. t.0 == to) ts → TailIsSettled ts to head 0
no_tail ts to head none = record {
  settled = λ k t at is. absurd (nowhere (λ (x : Tail). x.0) ts to k t none at is);
  counted = λ k t at is. absurd (nowhere (λ (x : Tail). x.0) ts to k t none at is);
}

pub no_head : (hs : List Head) (from : ℕ) (tail : LinkTail (ℕ × Message)) → None ≡ position (λ h. h.0 == from) hs → HeadIsSettled hs from tail 0
no_head hs from tail none = record {
  settled = λ k h at is. absurd (nowhere (λ (x : Head). x.0) hs from k h none at is);
  counted = λ k h at is. absurd (nowhere (λ (x : Head). x.0) hs from k h none at is);
}

pub no_ends : (ts : List Tail) (hs : List Head) (to from : ℕ) → None ≡ position (λ h. h.0 == from) hs → EndsAreSettled ts to hs from 0
no_ends ts hs to from none = record { each = λ k h at is. absurd (nowhere (λ (x : Head). x.0) hs from k h none at is) }

-- one tail is settled
pub tail_settles : (ts : List Tail) (to k : ℕ) (d : Tail) (after : LinkTail (ℕ × Message)) → Some k ≡ position (λ t. t.0 == to) ts → SameTail (get_or ts k d).1 after
    → sent_on after ≡ sent_on (get_or ts k d).1 → SettlesTail ts to (set ts k ((get_or ts k d).0, after))
tail_settles ts to k d after is same sent =
    let y : Tail = ((get_or ts k d).0, after) in
    let f = found (λ (t : Tail). t.0) ts to k d is in
    record {
      same = tails_set ts ts k d y (same_tails ts) f.0.inside (record { peer = refl; end = same });
      sent = map-set_same (λ (t : Tail). let l : Lane = record { peer = t.0; messages = sent_on t.1 } in l) ts k y d
          (ap (λ (es : List (ℕ × Message)). let l : Lane = record { peer = y.0; messages = es } in l) sent);
      others = λ i t at other. others_stand (λ (x : Tail). x.0) ts to k i y t is at other;
    }

pub tail_settled : (ts : List Tail) (to k : ℕ) (d : Tail) (after : LinkTail (ℕ × Message)) (head : LinkHead (ℕ × Message)) (count : ℕ) → IsStrictlyIncreasing (peers (lanes_sent ts))
    → Some k ≡ position (λ t. t.0 == to) ts → IsSettled after head → count ≡ length (known_to head) → TailIsSettled (set ts k ((get_or ts k d).0, after)) to head count
tail_settled ts to k d after head count up is settled counted =
    let y : Tail = ((get_or ts k d).0, after) in
    let up : IsStrictlyIncreasing (map (λ (t : Tail). t.0) ts) = subst (λ (ns : List ℕ). IsStrictlyIncreasing ns) (sym (keys_of_tails ts)) up in
    record {
      settled = λ i t at same. subst (λ (x : Tail). IsSettled x.1 head) (sym (written_one (λ (x : Tail). x.0) ts to k i d y t up is at same)) settled;
      counted = λ i t at same. counted;
    }

-- one head is settled
pub head_settles : (hs : List Head) (from k : ℕ) (d : Head) (after : LinkHead (ℕ × Message)) → Some k ≡ position (λ h. h.0 == from) hs → SameHead (get_or hs k d).1 after
    → taken_from after ≡ taken_from (get_or hs k d).1 → SettlesHead hs from (set hs k ((get_or hs k d).0, after))
head_settles hs from k d after is same taken =
    let y : Head = ((get_or hs k d).0, after) in
    let f = found (λ (h : Head). h.0) hs from k d is in
    record {
      same = heads_set hs hs k d y (same_heads hs) f.0.inside (record { peer = refl; end = same });
      taken = map-set_same (λ (h : Head). let l : Lane = record { peer = h.0; messages = taken_from h.1 } in l) hs k y d
          (ap (λ (es : List (ℕ × Message)). let l : Lane = record { peer = y.0; messages = es } in l) taken);
      others = λ i h at other. others_stand (λ (x : Head). x.0) hs from k i y h is at other;
    }

pub head_settled : (hs : List Head) (from k : ℕ) (d : Head) (after : LinkHead (ℕ × Message)) (tail : LinkTail (ℕ × Message)) (count : ℕ) → IsStrictlyIncreasing (peers (lanes_taken hs))
    → Some k ≡ position (λ h. h.0 == from) hs → IsSettled tail after → count ≡ length (known_to after) → HeadIsSettled (set hs k ((get_or hs k d).0, after)) from tail count
head_settled hs from k d after tail count up is settled counted =
    let y : Head = ((get_or hs k d).0, after) in
    let up : IsStrictlyIncreasing (map (λ (h : Head). h.0) hs) = subst (λ (ns : List ℕ). IsStrictlyIncreasing ns) (sym (keys_of_heads hs)) up in
    record {
      settled = λ i h at same. subst (λ (x : Head). IsSettled tail x.1) (sym (written_one (λ (x : Head). x.0) hs from k i d y h up is at same)) settled;
      counted = λ i h at same. subst (λ (x : Head). count ≡ length (known_to x.1)) (sym (written_one (λ (x : Head). x.0) hs from k i d y h up is at same)) counted;
    }

pub ends_settled : (ts : List Tail) (hs : List Head) (to from k : ℕ) (d : Head) (after : LinkHead (ℕ × Message)) (count : ℕ) → IsStrictlyIncreasing (peers (lanes_taken hs))
    → Some k ≡ position (λ h. h.0 == from) hs → TailIsSettled ts to after count → EndsAreSettled ts to (set hs k ((get_or hs k d).0, after)) from count
ends_settled ts hs to from k d after count up is settled =
    let y : Head = ((get_or hs k d).0, after) in
    let up : IsStrictlyIncreasing (map (λ (h : Head). h.0) hs) = subst (λ (ns : List ℕ). IsStrictlyIncreasing ns) (sym (keys_of_heads hs)) up in
    record { each = λ i h at same. subst (λ (x : Head). TailIsSettled ts to x.1 count) (sym (written_one (λ (x : Head). x.0) hs from k i d y h up is at same)) settled }
