-- Letters, their frames, and what they bring.
use Rattle.std.proofs.Common.{◌≡◌, ℕ, zero, suc, ◌+◌, ◌<◌, Bool, true, false, ◌==◌, ◌&&◌, if◌then◌else◌, List, [], ◌∷◌, ◌++◌, map, length, take, get_or, Some, refl, sym, ap, ap₂, subst, ◌∙◌, inl, inr, arith}
use Rattle.std.specs.List.{All, flat_map, slice_get}
use Rattle.std.proofs.lemmas.Bool.{cases_Bool, and_parts, eqb-true, eq-eqb}
use Rattle.std.proofs.lemmas.Grind.{flat_map-append}
use Rattle.std.proofs.lemmas.List.{append-nil, append_assoc}
use Rattle.std.proofs.lemmas.List.Folds.{flat_map-map}
use Rattle.std.proofs.lemmas.List.Elements.{All-nil, All-cons, All-head, All-tail}
use Rattle.std.proofs.lemmas.Option.{none-some, same_Some}
use Rattle.protocol_steps.specs.declared.message.Message.{Message}
use Rattle.wire_frames.specs.Frame.{framed}
use Rattle.worker_laws.specs.Cells.{EachAre}
use Rattle.node_exchange.specs.declared.payload.Addressed.{Addressed}
use Rattle.node_exchange.specs.Payloads.{payload_code}
use Rattle.node_exchange.specs.Letters.{letter, letter_code, stream_of, IsLetter, carried}
use Rattle.node_exchange.specs.Passings.{Passing, leads, letters_on, letters_of, frames_on, frames_of, SamePassing, LeadApart, IsOnLink}

-- one more element of a list
flat_suc : {X A : Type 0} (f : X → List A) (xs : List X) (k : ℕ) (x : X) → k < length xs → x ≡ get_or xs k x → flat_map f (take (suc k) xs) ≡ flat_map f (take k xs) ++ f x
flat_suc f [] k x lt is = absurd (omega (arith, lt))
flat_suc f (y ∷ xs) zero x lt is = append-nil (f y) ∙ ap f (sym is)
flat_suc f (y ∷ xs) (suc k) x lt is = ap (λ (zs : List _). f y ++ zs) (flat_suc f xs k x (omega (arith, lt)) is) ∙ sym (append_assoc (f y) (flat_map f (take k xs)) (f x))

pub flat_more : {X A : Type 0} (f : X → List A) (xs : List X) (k : ℕ) (x : X) → k < length xs → x ≡ get_or xs k x → flat_map f (take (k + 1) xs) ≡ flat_map f (take k xs) ++ f x
flat_more f xs k x lt is = let next : suc k ≡ k + 1 = omega arith in subst (λ (n : ℕ). flat_map f (take n xs) ≡ flat_map f (take k xs) ++ f x) next (flat_suc f xs k x lt is)

-- the frames of what was drained are those of its letters
on_frames : (a b : ℕ) (p : Passing) → frames_on a b p ≡ stream_of (letters_on a b p)
on_frames a b p = elim (cases_Bool (leads a b p)) [
  | inl holds ↦
      ap (λ (x : Bool). if x then flat_map (λ (e : ℕ × Message). framed (payload_code p.from p.to e)) p.drained else []) holds
      ∙ sym (flat_map-map (λ (l : Addressed). framed (letter_code l)) (letter p.from p.to) p.drained)
      ∙ sym (ap (λ (x : Bool). stream_of (if x then map (letter p.from p.to) p.drained else [])) holds)
  | inr fails ↦
      ap (λ (x : Bool). if x then flat_map (λ (e : ℕ × Message). framed (payload_code p.from p.to e)) p.drained else []) fails
      ∙ sym (ap (λ (x : Bool). stream_of (if x then map (letter p.from p.to) p.drained else [])) fails)
]

pub frames_are : (a b : ℕ) (ps : List Passing) → frames_of a b ps ≡ stream_of (letters_of a b ps)
frames_are a b [] = refl
frames_are a b (p ∷ ps) =
    ap₂ (λ (xs : List ℕ) (ys : List ℕ). xs ++ ys) (on_frames a b p) (frames_are a b ps)
    ∙ sym (flat_map-append (λ (l : Addressed). framed (letter_code l)) (letters_on a b p) (letters_of a b ps))

-- the same was drained of the same link
abbrev parts : ℕ → ℕ → ℕ → ℕ → ℕ → ℕ → List (ℕ × Message) → List Addressed
parts a b from_node to_node from to drained = if from_node == a && to_node == b then map (letter from to) drained else []

on_same : (a b : ℕ) (p q : Passing) → SamePassing p q → letters_on a b q ≡ letters_on a b p
on_same a b p q s =
    ap (λ (x : ℕ). parts a b x q.to_node q.from q.to q.drained) s.from_node
    ∙ ap (λ (x : ℕ). parts a b p.from_node x q.from q.to q.drained) s.to_node
    ∙ ap (λ (x : ℕ). parts a b p.from_node p.to_node x q.to q.drained) s.from
    ∙ ap (λ (x : ℕ). parts a b p.from_node p.to_node p.from x q.drained) s.to
    ∙ ap (λ (ds : List (ℕ × Message)). parts a b p.from_node p.to_node p.from p.to ds) s.drained

pub letters_same : (a b : ℕ) (ps qs : List Passing) → EachAre SamePassing ps qs → letters_of a b qs ≡ letters_of a b ps
letters_same a b [] [] s = refl
letters_same a b [] (q ∷ qs) s = absurd s
letters_same a b (p ∷ ps) [] s = absurd s
letters_same a b (p ∷ ps) (q ∷ qs) s = ap₂ (λ (xs : List Addressed) (ys : List Addressed). xs ++ ys) (on_same a b p q s.0) (letters_same a b ps qs s.1)

pub frames_same : (a b : ℕ) (ps qs : List Passing) → EachAre SamePassing ps qs → frames_of a b qs ≡ frames_of a b ps
frames_same a b ps qs s = frames_are a b qs ∙ ap stream_of (letters_same a b ps qs s) ∙ sym (frames_are a b ps)

pub same_none : (p : Passing) → SamePassing p p
same_none p = record { from = refl; to = refl; from_node = refl; to_node = refl; drained = refl }

pub same_then : (p q r : Passing) → SamePassing p q → SamePassing q r → SamePassing p r
same_then p q r s t = record {
  from = t.from ∙ s.from;
  to = t.to ∙ s.to;
  from_node = t.from_node ∙ s.from_node;
  to_node = t.to_node ∙ s.to_node;
  drained = t.drained ∙ s.drained;
}

pub all_same : (ps : List Passing) → EachAre SamePassing ps ps
all_same [] = tt
all_same (p ∷ ps) = (same_none p, all_same ps)

pub all_same_then : (ps qs rs : List Passing) → EachAre SamePassing ps qs → EachAre SamePassing qs rs → EachAre SamePassing ps rs
all_same_then [] [] [] s t = tt
all_same_then [] [] (r ∷ rs) s t = absurd t
all_same_then [] (q ∷ qs) rs s t = absurd s
all_same_then (p ∷ ps) [] rs s t = absurd s
all_same_then (p ∷ ps) (q ∷ qs) [] s t = absurd t
all_same_then (p ∷ ps) (q ∷ qs) (r ∷ rs) s t = (same_then p q r s.0 t.0, all_same_then ps qs rs s.1 t.1)

-- what one link's letters bring
carried_own : (from to : ℕ) (es : List (ℕ × Message)) → carried from to (map (letter from to) es) ≡ es
carried_own from to [] = refl
carried_own from to (e ∷ es) =
    ap (λ (x : Bool). (if x then e ∷ [] else []) ++ carried from to (map (letter from to) es)) (ap₂ (λ (x : Bool) (y : Bool). x && y) (eq-eqb from from refl) (eq-eqb to to refl))
    ∙ ap (λ (fs : List (ℕ × Message)). e ∷ fs) (carried_own from to es)

-- another link's letters bring nothing
other_test : (from to f t : ℕ) → (f ≡ from → t ≡ to → ⊥) → (f == from && t == to) ≡ false
other_test from to f t ne = elim (cases_Bool (f == from && t == to)) [
  | inl holds ↦ let both = and_parts (f == from) (t == to) holds in absurd (ne (eqb-true f from both.0) (eqb-true t to both.1))
  | inr fails ↦ fails
]

carried_other : (from to f t : ℕ) (es : List (ℕ × Message)) → (f ≡ from → t ≡ to → ⊥) → carried from to (map (letter f t) es) ≡ []
carried_other from to f t [] ne = refl
carried_other from to f t (e ∷ es) ne =
    ap (λ (x : Bool). (if x then e ∷ [] else []) ++ carried from to (map (letter f t) es)) (other_test from to f t ne)
    ∙ carried_other from to f t es ne

pub carried_append : (from to : ℕ) (ls ms : List Addressed) → carried from to (ls ++ ms) ≡ carried from to ls ++ carried from to ms
carried_append from to ls ms = flat_map-append (λ (l : Addressed). if l.from == from && l.to == to then l.envelope ∷ [] else []) ls ms

-- a link's own letters, by whether it leads there
own_on : (a b : ℕ) (p : Passing) → leads a b p ≡ true → carried p.from p.to (letters_on a b p) ≡ p.drained
own_on a b p holds = ap (λ (x : Bool). carried p.from p.to (if x then map (letter p.from p.to) p.drained else [])) holds ∙ carried_own p.from p.to p.drained

other_on : (a b from to : ℕ) (p : Passing) → (p.from ≡ from → p.to ≡ to → ⊥) → carried from to (letters_on a b p) ≡ []
other_on a b from to p ne = elim (cases_Bool (leads a b p)) [
  | inl holds ↦ ap (λ (x : Bool). carried from to (if x then map (letter p.from p.to) p.drained else [])) holds ∙ carried_other from to p.from p.to p.drained ne
  | inr fails ↦ ap (λ (x : Bool). carried from to (if x then map (letter p.from p.to) p.drained else [])) fails
]

none_there : (a b from to : ℕ) (ps : List Passing) → ((k : ℕ) (p : Passing) → slice_get ps k ≡ Some p → p.from ≡ from → p.to ≡ to → ⊥) → carried from to (letters_of a b ps) ≡ []
none_there a b from to [] none = refl
none_there a b from to (p ∷ ps) none =
    carried_append from to (letters_on a b p) (letters_of a b ps)
    ∙ ap₂ (λ (xs : List (ℕ × Message)) (ys : List (ℕ × Message)). xs ++ ys) (other_on a b from to p (none 0 p refl)) (none_there a b from to ps (λ k q e. none (suc k) q e))

-- all letters of links that lead apart bring to each link just what was drained of it
pub brings_own : (a b : ℕ) (ps : List Passing) → LeadApart ps → (k : ℕ) (p : Passing) → slice_get ps k ≡ Some p → leads a b p ≡ true → carried p.from p.to (letters_of a b ps) ≡ p.drained
brings_own a b [] apart k p e holds = absurd (none-some p e)
brings_own a b (q ∷ ps) apart zero p e holds =
    let same : q ≡ p = same_Some q p e in
    carried_append p.from p.to (letters_on a b q) (letters_of a b ps)
    ∙ ap₂ (λ (xs : List (ℕ × Message)) (ys : List (ℕ × Message)). xs ++ ys)
    (ap (λ (r : Passing). carried p.from p.to (letters_on a b r)) same ∙ own_on a b p holds)
    (none_there a b p.from p.to ps (λ l r f from to. let no = apart 0 (suc l) q r refl f (ap (λ (x : Passing). x.from) same ∙ sym from) (ap (λ (x : Passing). x.to) same ∙ sym to) in omega (arith, no)))
    ∙ append-nil p.drained
brings_own a b (q ∷ ps) apart (suc k) p e holds =
    carried_append p.from p.to (letters_on a b q) (letters_of a b ps)
    ∙ ap₂ (λ (xs : List (ℕ × Message)) (ys : List (ℕ × Message)). xs ++ ys)
    (other_on a b p.from p.to q (λ from to. let no = apart 0 (suc k) q p refl e from to in omega (arith, no)))
    (brings_own a b ps (λ i j x y f g from to. let same = apart (suc i) (suc j) x y f g from to in omega (arith, same)) k p e holds)

-- letters of links are on links
on_map : (P : Addressed → Type 0) (from to : ℕ) (es : List (ℕ × Message)) → ((e : ℕ × Message) → P (letter from to e)) → All P (map (letter from to) es)
on_map P from to [] h = All-nil P
on_map P from to (e ∷ es) h = All-cons P (letter from to e) (map (letter from to) es) (h e) (on_map P from to es h)

pub all_append : (P : Addressed → Type 0) (xs ys : List Addressed) → All P xs → All P ys → All P (xs ++ ys)
all_append P [] ys f g = g
all_append P (x ∷ xs) ys f g = All-cons P x (xs ++ ys) (All-head P x xs f) (all_append P xs ys (All-tail P x xs f) g)

on_link : (a b : ℕ) (all : List Passing) (k : ℕ) (p : Passing) → slice_get all k ≡ Some p → All (IsOnLink a b all) (letters_on a b p)
on_link a b all k p e = elim (cases_Bool (leads a b p)) [
  | inl holds ↦
      let both = and_parts (p.from_node == a) (p.to_node == b) holds in
      subst (λ (x : Bool). All (IsOnLink a b all) (if x then map (letter p.from p.to) p.drained else [])) (sym holds)
      (on_map (IsOnLink a b all) p.from p.to p.drained (λ d. record { place = k; passing = p; is = e; from_node_is = eqb-true p.from_node a both.0; to_node_is = eqb-true p.to_node b both.1; from_is = refl; to_is = refl }))
  | inr fails ↦ subst (λ (x : Bool). All (IsOnLink a b all) (if x then map (letter p.from p.to) p.drained else [])) (sym fails) (All-nil (IsOnLink a b all))
]

on_links : (a b : ℕ) (all ps : List Passing) → ((k : ℕ) (p : Passing) → slice_get ps k ≡ Some p → (l : ℕ) × (slice_get all l ≡ Some p)) → All (IsOnLink a b all) (letters_of a b ps)
on_links a b all [] h = All-nil (IsOnLink a b all)
on_links a b all (p ∷ ps) h =
    let own = h 0 p refl in
    all_append (IsOnLink a b all) (letters_on a b p) (letters_of a b ps) (on_link a b all own.0 p own.1) (on_links a b all ps (λ k q e. h (suc k) q e))

pub letters_on_links : (a b : ℕ) (ps : List Passing) → All (IsOnLink a b ps) (letters_of a b ps)
letters_on_links a b ps = on_links a b ps ps (λ k p e. (k, e))

-- letters, each of which is within its ranges
pub good_letters : (from to : ℕ) (es : List (ℕ × Message)) → All (λ e. IsLetter (letter from to e)) es → All IsLetter (map (letter from to) es)
good_letters from to [] h = All-nil IsLetter
good_letters from to (e ∷ es) h =
    All-cons IsLetter (letter from to e) (map (letter from to) es) (All-head (λ d. IsLetter (letter from to d)) e es h) (good_letters from to es (All-tail (λ d. IsLetter (letter from to d)) e es h))

pub good_on : (a b f t : ℕ) (p : Passing) → true ≡ leads a b p → f ≡ p.from → t ≡ p.to → All (λ e. IsLetter (letter f t e)) p.drained → All IsLetter (letters_on a b p)
good_on a b f t p holds from to h =
    subst (λ (x : Bool). All IsLetter (if x then map (letter p.from p.to) p.drained else [])) holds
    (good_letters p.from p.to p.drained (subst (λ (n : ℕ). All (λ e. IsLetter (letter n p.to e)) p.drained) from (subst (λ (n : ℕ). All (λ e. IsLetter (letter f n e)) p.drained) to h)))

-- parts of a list of which each is so
pub all_front : (P : Addressed → Type 0) (xs ys : List Addressed) → All P (xs ++ ys) → All P xs
all_front P [] ys h = All-nil P
all_front P (x ∷ xs) ys h = All-cons P x xs (All-head P x (xs ++ ys) h) (all_front P xs ys (All-tail P x (xs ++ ys) h))

pub all_last : (P : Addressed → Type 0) (xs : List Addressed) (x : Addressed) → All P (xs ++ x ∷ []) → P x
all_last P [] x h = All-head P x [] h
all_last P (y ∷ xs) x h = all_last P xs x (All-tail P y (xs ++ x ∷ []) h)

abbrev tail_of : {X : Type 0} → List X → List X
tail_of [] = []
tail_of (x ∷ xs) = xs

-- lists that are the same so far are the same one place further
same_suc : {X : Type 0} (xs ys : List X) (k : ℕ) → take k xs ≡ take k ys → slice_get xs k ≡ slice_get ys k → take (suc k) xs ≡ take (suc k) ys
same_suc [] [] k front at = refl
same_suc [] (y ∷ ys) zero front at = absurd (none-some y at)
same_suc [] (y ∷ ys) (suc k) front at = absurd (none-some y (ap (λ (zs : List _). slice_get zs 0) front))
same_suc (x ∷ xs) [] zero front at = absurd (none-some x (sym at))
same_suc (x ∷ xs) [] (suc k) front at = absurd (none-some x (sym (ap (λ (zs : List _). slice_get zs 0) front)))
same_suc (x ∷ xs) (y ∷ ys) zero front at = ap (λ (z : _). z ∷ []) (same_Some x y at)
same_suc (x ∷ xs) (y ∷ ys) (suc k) front at =
    ap₂ (λ (z : _) (zs : List _). z ∷ zs) (same_Some x y (ap (λ (zs : List _). slice_get zs 0) front)) (same_suc xs ys k (ap (λ (zs : List _). tail_of zs) front) at)

pub same_further : {X : Type 0} (xs ys : List X) (k : ℕ) → take k xs ≡ take k ys → slice_get xs k ≡ slice_get ys k → take (k + 1) xs ≡ take (k + 1) ys
same_further xs ys k front at = let next : suc k ≡ k + 1 = omega arith in subst (λ (n : ℕ). take n xs ≡ take n ys) next (same_suc xs ys k front at)
