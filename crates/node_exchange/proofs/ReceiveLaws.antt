-- Receiving letters.
use Rattle.std.proofs.Common.{◌≡◌, ◌≢◌, ℕ, zero, suc, ◌<◌, Bool, true, false, ◌==◌, ◌&&◌, if◌then◌else◌, List, [], ◌∷◌, ◌++◌, length, set, take, get_or, position, Some, None, Option, refl, sym, ap, ap₂, subst, ◌∙◌, inl, inr, arith}
use Rattle.std.specs.List.{slice_get, All}
use Rattle.std.proofs.lemmas.Bool.{cases_Bool, and_parts, eqb-true, eq-eqb, true≢false}
use Rattle.std.proofs.lemmas.List.{append-nil, append_assoc}
use Rattle.std.proofs.lemmas.List.Elements.{All-nil, All-cons, All-head, All-tail}
use Rattle.std.proofs.lemmas.List.Quantifiers.{position-Some}
use Rattle.std.proofs.lemmas.Option.{slice_get_within, slice_get-get_or, get_or_from_slice_get}
use Rattle.dcop_base.proofs.FaultLaws.{position-none}
use Rattle.protocol_steps.specs.declared.message.Message.{Message}
use Rattle.worker_laws.specs.Cells.{EachAre}
use Rattle.worker_laws.proofs.EachLaws.{each_back, each_on}
use Rattle.node_exchange.specs.declared.payload.Addressed.{Addressed}
use Rattle.node_exchange.specs.Letters.{carried}
use Rattle.node_exchange.specs.Passings.{Passing, leads, is_link, SamePassing, HasReceived, brought, LeadApart, AreAcross, IsOnLink, AreNoLetters, IsOtherByte}
use Rattle.node_exchange.proofs.LetterLaws.{frames_same, same_none, same_then, carried_append}

-- a list with one element written
each_self : {X : Type 0} (R : X → X → Type 0) (xs : List X) → ((k : ℕ) (x : X) → slice_get xs k ≡ Some x → R x x) → EachAre R xs xs
each_self R [] h = tt
each_self R (x ∷ xs) h = (h 0 x refl, each_self R xs (λ k y e. h (suc k) y e))

pub each_set : {X : Type 0} (R : X → X → Type 0) (xs : List X) (k : ℕ) (y d : X) → k < length xs → R (get_or xs k d) y → ((j : ℕ) (x : X) → slice_get xs j ≡ Some x → j ≢ k → R x x) → EachAre R xs (set xs k y)
each_set R [] k y d lt own others = absurd (omega (arith, lt))
each_set R (x ∷ xs) zero y d lt own others = (own, each_self R xs (λ j z e. others (suc j) z e (λ no. omega (arith, no))))
each_set R (x ∷ xs) (suc k) y d lt own others = (others 0 x refl (λ no. omega (arith, no)), each_set R xs k y d (omega (arith, lt)) own (λ j z e ne. others (suc j) z e (λ same. ne (omega (arith, same)))))

pub same_set : (ps : List Passing) (k : ℕ) (q d : Passing) → k < length ps → SamePassing (get_or ps k d) q → EachAre SamePassing ps (set ps k q)
same_set ps k q d lt s = each_set SamePassing ps k q d lt s (λ j x e ne. same_none x)

-- the tests of a link
record IsLink (a b from to : ℕ) (p : Passing) : Type 0 where
  leads_so : leads a b p ≡ true
  from_is : p.from ≡ from
  to_is : p.to ≡ to

link_so : (a b from to : ℕ) (p : Passing) → is_link a b from to p ≡ true → IsLink a b from to p
link_so a b from to p holds =
    let one = and_parts (leads a b p && p.from == from) (p.to == to) holds in
    let two = and_parts (leads a b p) (p.from == from) one.0 in
    record { leads_so = two.0; from_is = eqb-true p.from from two.1; to_is = eqb-true p.to to one.1 }

link_is : (a b from to : ℕ) (p : Passing) → p.from_node ≡ a → p.to_node ≡ b → p.from ≡ from → p.to ≡ to → is_link a b from to p ≡ true
link_is a b from to p fn tn f t =
    ap₂ (λ (x : Bool) (y : Bool). x && y) (ap₂ (λ (x : Bool) (y : Bool). x && y) (ap₂ (λ (x : Bool) (y : Bool). x && y) (eq-eqb p.from_node a fn) (eq-eqb p.to_node b tn)) (eq-eqb p.from from f)) (eq-eqb p.to to t)

-- what one letter brings
brought_one : (a b : ℕ) (l : Addressed) (p : Passing) → leads a b p ≡ true → p.from ≡ l.from → p.to ≡ l.to → brought a b (l ∷ []) p ≡ l.envelope ∷ []
brought_one a b l p holds f t =
    ap (λ (x : Bool). if x then carried p.from p.to (l ∷ []) else []) holds
    ∙ ap (λ (x : Bool). (if x then l.envelope ∷ [] else []) ++ []) (ap₂ (λ (x : Bool) (y : Bool). x && y) (eq-eqb l.from p.from (sym f)) (eq-eqb l.to p.to (sym t)))

brought_none : (a b : ℕ) (l : Addressed) (p : Passing) → (p.from ≡ l.from → p.to ≡ l.to → ⊥) → brought a b (l ∷ []) p ≡ []
brought_none a b l p ne = elim (cases_Bool (leads a b p)) [
  | inl holds ↦
      let nowhere : (l.from == p.from && l.to == p.to) ≡ false = elim (cases_Bool (l.from == p.from && l.to == p.to)) [
        | inl so ↦ let both = and_parts (l.from == p.from) (l.to == p.to) so in absurd (ne (sym (eqb-true l.from p.from both.0)) (sym (eqb-true l.to p.to both.1)))
        | inr not_so ↦ not_so
      ] in
      ap (λ (x : Bool). if x then carried p.from p.to (l ∷ []) else []) holds ∙ ap (λ (x : Bool). (if x then l.envelope ∷ [] else []) ++ []) nowhere
  | inr fails ↦ ap (λ (x : Bool). if x then carried p.from p.to (l ∷ []) else []) fails
]

brought_append : (a b : ℕ) (ls ms : List Addressed) (p : Passing) → brought a b (ls ++ ms) p ≡ brought a b ls p ++ brought a b ms p
brought_append a b ls ms p = elim (cases_Bool (leads a b p)) [
  | inl holds ↦
      ap (λ (x : Bool). if x then carried p.from p.to (ls ++ ms) else []) holds ∙ carried_append p.from p.to ls ms
      ∙ sym (ap (λ (x : Bool). (if x then carried p.from p.to ls else []) ++ (if x then carried p.from p.to ms else [])) holds)
  | inr fails ↦
      ap (λ (x : Bool). if x then carried p.from p.to (ls ++ ms) else []) fails
      ∙ sym (ap (λ (x : Bool). (if x then carried p.from p.to ls else []) ++ (if x then carried p.from p.to ms else [])) fails)
]

abbrev brings : ℕ → ℕ → List Addressed → ℕ → ℕ → ℕ → ℕ → List (ℕ × Message)
brings a b ls from_node to_node from to = if from_node == a && to_node == b then carried from to ls else []

pub brought_same : (a b : ℕ) (ls : List Addressed) (p q : Passing) → SamePassing p q → brought a b ls q ≡ brought a b ls p
brought_same a b ls p q s =
    ap (λ (x : ℕ). brings a b ls x q.to_node q.from q.to) s.from_node
    ∙ ap (λ (x : ℕ). brings a b ls p.from_node x q.from q.to) s.to_node
    ∙ ap (λ (x : ℕ). brings a b ls p.from_node p.to_node x q.to) s.from
    ∙ ap (λ (x : ℕ). brings a b ls p.from_node p.to_node p.from x) s.to

-- one letter was added to its link
pub received_one : (a b k : ℕ) (ps : List Passing) (l : Addressed) (q d : Passing) → LeadApart ps → Some k ≡ position (is_link a b l.from l.to) ps → SamePassing (get_or ps k d) q
    → q.arrived ≡ (get_or ps k d).arrived ++ l.envelope ∷ [] → EachAre (HasReceived a b (l ∷ [])) ps (set ps k q)
received_one a b k ps l q d apart found same arrived =
    let at = position-Some (is_link a b l.from l.to) ps k d (sym found) in
    let p : Passing = get_or ps k d in
    let here : slice_get ps k ≡ Some p = slice_get-get_or ps k d at.0 in
    let so = link_so a b l.from l.to p at.1 in
    each_set (HasReceived a b (l ∷ [])) ps k q d at.0
    (record { same = same; arrived = arrived ∙ ap (λ (es : List (ℕ × Message)). p.arrived ++ es) (sym (brought_one a b l p so.leads_so so.from_is so.to_is)) })
    (λ j x e ne. record {
      same = same_none x;
      arrived = sym (append-nil x.arrived) ∙ ap (λ (es : List (ℕ × Message)). x.arrived ++ es) (sym (brought_none a b l x (λ f t. ne (apart j k x p e here (f ∙ sym so.from_is) (t ∙ sym so.to_is)))));
    })

-- the place of a link is inside
pub inside_at : (a b from to k : ℕ) (ps : List Passing) (d : Passing) → Some k ≡ position (is_link a b from to) ps → k < length ps
inside_at a b from to k ps d found = (position-Some (is_link a b from to) ps k d (sym found)).0

pub found_nowhere : (a b : ℕ) (ps : List Passing) (l : Addressed) → None ≡ position (is_link a b l.from l.to) ps → IsOnLink a b ps l → ⊥
found_nowhere a b ps l none on =
    let lt = slice_get_within ps on.place on.passing on.is in
    true≢false (sym (link_is a b l.from l.to on.passing on.from_node_is on.to_node_is on.from_is on.to_is)
    ∙ ap (is_link a b l.from l.to) (sym (get_or_from_slice_get ps on.place on.passing on.passing on.is)) ∙ position-none (is_link a b l.from l.to) ps (sym none) on.place on.passing lt)

-- more letters behind some
received_then : (a b : ℕ) (ls ms : List Addressed) (p q r : Passing) → HasReceived a b ls p q → HasReceived a b ms q r → HasReceived a b (ls ++ ms) p r
received_then a b ls ms p q r f g = record {
  same = same_then p q r f.same g.same;
  arrived =
      g.arrived ∙ ap₂ (λ (xs : List (ℕ × Message)) (ys : List (ℕ × Message)). xs ++ ys) f.arrived (brought_same a b ms p q f.same)
      ∙ append_assoc p.arrived (brought a b ls p) (brought a b ms p) ∙ ap (λ (es : List (ℕ × Message)). p.arrived ++ es) (sym (brought_append a b ls ms p));
}

pub all_received_then : (a b : ℕ) (ls ms : List Addressed) (ps qs rs : List Passing) → EachAre (HasReceived a b ls) ps qs → EachAre (HasReceived a b ms) qs rs → EachAre (HasReceived a b (ls ++ ms)) ps rs
all_received_then a b ls ms [] [] [] s t = tt
all_received_then a b ls ms [] [] (r ∷ rs) s t = absurd t
all_received_then a b ls ms [] (q ∷ qs) rs s t = absurd s
all_received_then a b ls ms (p ∷ ps) [] rs s t = absurd s
all_received_then a b ls ms (p ∷ ps) (q ∷ qs) [] s t = absurd t
all_received_then a b ls ms (p ∷ ps) (q ∷ qs) (r ∷ rs) s t = (received_then a b ls ms p q r s.0 t.0, all_received_then a b ls ms ps qs rs s.1 t.1)

pub received_nothing : (a b : ℕ) (ps : List Passing) → EachAre (HasReceived a b []) ps ps
received_nothing a b ps = each_self (HasReceived a b []) ps (λ k p e. record { same = same_none p; arrived = sym (append-nil p.arrived) ∙ ap (λ (es : List (ℕ × Message)). p.arrived ++ es) (sym (nothing p)) })
  where
    nothing : (p : Passing) → brought a b [] p ≡ []
    nothing p = elim (cases_Bool (leads a b p)) [ inl holds ↦ ap (λ (x : Bool). if x then carried p.from p.to [] else []) holds | inr fails ↦ ap (λ (x : Bool). if x then carried p.from p.to [] else []) fails ]

-- links stay apart, and letters on them, where the same was drained of the same
pub still_apart : (ps qs : List Passing) → EachAre SamePassing ps qs → LeadApart ps → LeadApart qs
still_apart ps qs s apart k l x y e f from to =
    let u = each_back SamePassing ps qs s k x e in
    let v = each_back SamePassing ps qs s l y f in
    apart k l u.0 v.0 u.1 v.1 (sym u.2.from ∙ from ∙ v.2.from) (sym u.2.to ∙ to ∙ v.2.to)

pub still_on_link : (a b : ℕ) (ps qs : List Passing) (l : Addressed) → EachAre SamePassing ps qs → IsOnLink a b ps l → IsOnLink a b qs l
still_on_link a b ps qs l s on =
    let q = each_on SamePassing ps qs s on.place on.passing on.is in
    record {
      place = on.place;
      passing = q.0;
      is = q.1;
      from_node_is = q.2.from_node ∙ on.from_node_is;
      to_node_is = q.2.to_node ∙ on.to_node_is;
      from_is = q.2.from ∙ on.from_is;
      to_is = q.2.to ∙ on.to_is;
    }

pub still_across : (nodes : ℕ) (ps qs : List Passing) → EachAre SamePassing ps qs → AreAcross nodes ps → AreAcross nodes qs
still_across nodes ps qs s a = record {
  inside = λ k q e. let p = each_back SamePassing ps qs s k q e in let lt = a.inside k p.0 p.1 in (subst (λ (n : ℕ). n < nodes) (sym p.2.from_node) lt.0, subst (λ (n : ℕ). n < nodes) (sym p.2.to_node) lt.1);
  across = λ k q e same. let p = each_back SamePassing ps qs s k q e in a.across k p.0 p.1 (sym p.2.from_node ∙ same ∙ p.2.to_node);
  apart = still_apart ps qs s a.apart;
}

-- letters on such links are letters on those before, and bytes that are none are none there
back_on_link : (a b : ℕ) (ps qs : List Passing) (l : Addressed) → EachAre SamePassing ps qs → IsOnLink a b qs l → IsOnLink a b ps l
back_on_link a b ps qs l s on =
    let p = each_back SamePassing ps qs s on.place on.passing on.is in
    record {
      place = on.place;
      passing = p.0;
      is = p.1;
      from_node_is = sym p.2.from_node ∙ on.from_node_is;
      to_node_is = sym p.2.to_node ∙ on.to_node_is;
      from_is = sym p.2.from ∙ on.from_is;
      to_is = sym p.2.to ∙ on.to_is;
    }

all_weaker : {X : Type 0} (P Q : X → Type 0) (xs : List X) → ((x : X) → P x → Q x) → All P xs → All Q xs
all_weaker P Q [] f all = All-nil Q
all_weaker P Q (x ∷ xs) f all = All-cons Q x xs (f x (All-head P x xs all)) (all_weaker P Q xs f (All-tail P x xs all))

pub still_strange : (a b : ℕ) (came : List ℕ) (ps qs : List Passing) → EachAre SamePassing ps qs → AreNoLetters ps a b came → AreNoLetters qs a b came
still_strange a b came ps qs s none ls good on = none ls good (all_weaker (IsOnLink a b qs) (IsOnLink a b ps) ls (λ l. back_on_link a b ps qs l s) on)

pub back_strange : (a b : ℕ) (came : List ℕ) (ps qs : List Passing) → EachAre SamePassing ps qs → AreNoLetters qs a b came → AreNoLetters ps a b came
back_strange a b came ps qs s none ls good on = none ls good (all_weaker (IsOnLink a b ps) (IsOnLink a b qs) ls (λ l. still_on_link a b ps qs l s) on)

-- the first other byte is that of links of which the same was drained
pub other_still : (a b : ℕ) (came : List ℕ) (place : ℕ) (sent taken : Option ℕ) (ps qs : List Passing) → EachAre SamePassing ps qs → IsOtherByte qs a b came place sent taken → IsOtherByte ps a b came place sent taken
other_still a b came place sent taken ps qs s o = record {
  strange = back_strange a b came ps qs s o.strange;
  same = o.same ∙ ap (λ (bs : List ℕ). take place bs) (frames_same a b ps qs s);
  sent_is = o.sent_is ∙ ap (λ (bs : List ℕ). slice_get bs place) (frames_same a b ps qs s);
  taken_is = o.taken_is;
  apart = o.apart;
}
