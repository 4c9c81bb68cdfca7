-- What has come, pair of nodes by pair of nodes.
use Rattle.std.proofs.Common.{◌≡◌, ℕ, ◌+◌, ◌<◌, ◌≤◌, Bool, true, ◌==◌, ◌&&◌, if◌then◌else◌, List, [], ◌++◌, Some, sym, ap, ap₂, subst, ◌∙◌, inl, inr, arith}
use Rattle.std.specs.List.{slice_get}
use Rattle.std.proofs.lemmas.Bool.{cases_Bool, cases_eq, cases_order, and_parts, eqb-true, eq-eqb}
use Rattle.std.proofs.lemmas.List.{append-nil}
use Rattle.protocol_steps.specs.declared.message.Message.{Message}
use Rattle.worker_laws.specs.Cells.{EachAre}
use Rattle.worker_laws.proofs.EachLaws.{each_back}
use Rattle.node_exchange.specs.declared.payload.Addressed.{Addressed}
use Rattle.node_exchange.specs.Letters.{carried}
use Rattle.node_exchange.specs.Passings.{Passing, leads, letters_of, HasReceived, brought, LeadApart, AreAcross, HasComeOn, HaveCome, NothingCame, AllCame}
use Rattle.node_exchange.proofs.LetterLaws.{brings_own}
use Rattle.node_exchange.proofs.ReceiveLaws.{brought_same}

-- one link, where its pair of nodes had its turn, and where another had
step_same : (a b low high : ℕ) (p r : Passing) → HasComeOn a b low high p → r.drained ≡ p.drained → low ≡ a → high ≡ b → r.arrived ≡ p.arrived ++ p.drained → HasComeOn a (b + 1) low high r
step_same a b low high p r c same l h arrived = record {
  all = λ _.
      arrived ∙ ap (λ (es : List (ℕ × Message)). es ++ p.drained) (c.none (λ before. elim before [ inl lt ↦ omega (arith, lt, l) | inr at ↦ let lt = at.1 in omega (arith, lt, h) ])) ∙ sym same;
  none = λ no. absurd (no (inr (l, let lt : high < b + 1 = omega (arith, h) in lt)));
}

step_other : (a b low high : ℕ) (p r : Passing) → HasComeOn a b low high p → r.drained ≡ p.drained → (low ≡ a → high ≡ b → ⊥) → r.arrived ≡ p.arrived → HasComeOn a (b + 1) low high r
step_other a b low high p r c same ne arrived = record {
  all = λ before. arrived ∙ c.all (elim before [
    | inl lt ↦ inl lt
    | inr at ↦ inr (at.0, elim (cases_eq high b) [ inl h ↦ absurd (ne at.0 h) | inr other ↦ let lt = at.1 in omega (arith, lt, other) ])
  ]) ∙ sym same;
  none = λ no. arrived ∙ c.none (λ before. no (elim before [ inl lt ↦ inl lt | inr at ↦ inr (at.0, let lt = at.1 in omega (arith, lt)) ]));
}

-- what came on a link in both directions of a turn
module _ (a b : ℕ) (there back : List Addressed) (p q r : Passing) (f : HasReceived a b there p q) (g : HasReceived b a back q r) where
  drained_is : r.drained ≡ p.drained
  drained_is = g.same.drained ∙ f.same.drained

  both : r.arrived ≡ (p.arrived ++ brought a b there p) ++ brought b a back p
  both = g.arrived ∙ ap₂ (λ (xs : List (ℕ × Message)) (ys : List (ℕ × Message)). xs ++ ys) f.arrived (brought_same b a back p q f.same)

nothing_to : (a b : ℕ) (ls : List Addressed) (p : Passing) → (p.from_node ≡ a → p.to_node ≡ b → ⊥) → brought a b ls p ≡ []
nothing_to a b ls p ne = elim (cases_Bool (leads a b p)) [
  | inl holds ↦ let two = and_parts (p.from_node == a) (p.to_node == b) holds in absurd (ne (eqb-true p.from_node a two.0) (eqb-true p.to_node b two.1))
  | inr fails ↦ ap (λ (x : Bool). if x then carried p.from p.to ls else []) fails
]

all_to : (a b : ℕ) (ps : List Passing) (k : ℕ) (p : Passing) → LeadApart ps → slice_get ps k ≡ Some p → p.from_node ≡ a → p.to_node ≡ b → brought a b (letters_of a b ps) p ≡ p.drained
all_to a b ps k p apart e f t =
    let holds : leads a b p ≡ true = ap₂ (λ (x : Bool) (y : Bool). x && y) (eq-eqb p.from_node a f) (eq-eqb p.to_node b t) in
    ap (λ (x : Bool). if x then carried p.from p.to (letters_of a b ps) else []) holds ∙ brings_own a b ps apart k p e holds

-- a turn of two nodes
pub come_on : (a b nodes : ℕ) (ps qs rs : List Passing) → a < b → AreAcross nodes ps → HaveCome a b ps → EachAre (HasReceived a b (letters_of a b ps)) ps qs → EachAre (HasReceived b a (letters_of b a ps)) qs rs
    → HaveCome a (b + 1) rs
come_on a b nodes ps qs rs order across come f g = record {
  there = λ k r e up.
      let q = each_back (HasReceived b a (letters_of b a ps)) qs rs g k r e in
      let p = each_back (HasReceived a b (letters_of a b ps)) ps qs f k q.0 q.1 in
      let up_p : p.0.from_node < p.0.to_node = let s = q.2.same.from_node in let t = q.2.same.to_node in let u = p.2.same.from_node in let v = p.2.same.to_node in omega (arith, s, t, u, v, up) in
      let old = come.there k p.0 p.1 up_p in
      let is = both a b (letters_of a b ps) (letters_of b a ps) p.0 q.0 r p.2 q.2 in
      let same = drained_is a b (letters_of a b ps) (letters_of b a ps) p.0 q.0 r p.2 q.2 in
      let none = nothing_to b a (letters_of b a ps) p.0 (λ x y. omega (arith, x, y, order, up_p)) in
      let done : HasComeOn a (b + 1) p.0.from_node p.0.to_node r = elim (cases_eq p.0.from_node a) [
        | inl x ↦ elim (cases_eq p.0.to_node b) [
          | inl y ↦ step_same a b p.0.from_node p.0.to_node p.0 r old same x y
              (is ∙ ap₂ (λ (xs : List (ℕ × Message)) (ys : List (ℕ × Message)). (p.0.arrived ++ xs) ++ ys) (all_to a b ps k p.0 across.apart p.1 x y) none ∙ append-nil (p.0.arrived ++ p.0.drained))
          | inr y ↦ step_other a b p.0.from_node p.0.to_node p.0 r old same (λ _ t. y t)
              (is ∙ ap₂ (λ (xs : List (ℕ × Message)) (ys : List (ℕ × Message)). (p.0.arrived ++ xs) ++ ys) (nothing_to a b (letters_of a b ps) p.0 (λ _ t. y t)) none ∙ append-nil (p.0.arrived ++ []) ∙ append-nil p.0.arrived)
        ]
        | inr x ↦ step_other a b p.0.from_node p.0.to_node p.0 r old same (λ s _. x s)
            (is ∙ ap₂ (λ (xs : List (ℕ × Message)) (ys : List (ℕ × Message)). (p.0.arrived ++ xs) ++ ys) (nothing_to a b (letters_of a b ps) p.0 (λ s _. x s)) none ∙ append-nil (p.0.arrived ++ []) ∙ append-nil p.0.arrived)
      ] in
      subst (λ (n : ℕ). HasComeOn a (b + 1) n r.to_node r) (sym (q.2.same.from_node ∙ p.2.same.from_node)) (subst (λ (n : ℕ). HasComeOn a (b + 1) p.0.from_node n r) (sym (q.2.same.to_node ∙ p.2.same.to_node)) done);
  back = λ k r e down.
      let q = each_back (HasReceived b a (letters_of b a ps)) qs rs g k r e in
      let p = each_back (HasReceived a b (letters_of a b ps)) ps qs f k q.0 q.1 in
      let down_p : p.0.to_node < p.0.from_node = let s = q.2.same.from_node in let t = q.2.same.to_node in let u = p.2.same.from_node in let v = p.2.same.to_node in omega (arith, s, t, u, v, down) in
      let old = come.back k p.0 p.1 down_p in
      let is = both a b (letters_of a b ps) (letters_of b a ps) p.0 q.0 r p.2 q.2 in
      let same = drained_is a b (letters_of a b ps) (letters_of b a ps) p.0 q.0 r p.2 q.2 in
      let none = nothing_to a b (letters_of a b ps) p.0 (λ x y. omega (arith, x, y, order, down_p)) in
      let done : HasComeOn a (b + 1) p.0.to_node p.0.from_node r = elim (cases_eq p.0.to_node a) [
        | inl x ↦ elim (cases_eq p.0.from_node b) [
          | inl y ↦ step_same a b p.0.to_node p.0.from_node p.0 r old same x y
              (is ∙ ap₂ (λ (xs : List (ℕ × Message)) (ys : List (ℕ × Message)). (p.0.arrived ++ xs) ++ ys) none (all_to b a ps k p.0 across.apart p.1 y x) ∙ ap (λ (es : List (ℕ × Message)). es ++ p.0.drained) (append-nil p.0.arrived))
          | inr y ↦ step_other a b p.0.to_node p.0.from_node p.0 r old same (λ _ t. y t)
              (is ∙ ap₂ (λ (xs : List (ℕ × Message)) (ys : List (ℕ × Message)). (p.0.arrived ++ xs) ++ ys) none (nothing_to b a (letters_of b a ps) p.0 (λ t _. y t)) ∙ append-nil (p.0.arrived ++ []) ∙ append-nil p.0.arrived)
        ]
        | inr x ↦ step_other a b p.0.to_node p.0.from_node p.0 r old same (λ s _. x s)
            (is ∙ ap₂ (λ (xs : List (ℕ × Message)) (ys : List (ℕ × Message)). (p.0.arrived ++ xs) ++ ys) none (nothing_to b a (letters_of b a ps) p.0 (λ _ s. x s)) ∙ append-nil (p.0.arrived ++ []) ∙ append-nil p.0.arrived)
      ] in
      subst (λ (n : ℕ). HasComeOn a (b + 1) n r.from_node r) (sym (q.2.same.to_node ∙ p.2.same.to_node)) (subst (λ (n : ℕ). HasComeOn a (b + 1) p.0.to_node n r) (sym (q.2.same.from_node ∙ p.2.same.from_node)) done);
}

-- the turns of one node with all later ones are done
row_on : (a n low high : ℕ) (p : Passing) → low < high → high < n → HasComeOn a n low high p → HasComeOn (a + 1) (a + 2) low high p
row_on a n low high p order inside c = record {
  all = λ before. c.all (elim before [
    | inl lt ↦ elim (cases_eq low a) [ inl at ↦ inr (at, inside) | inr other ↦ inl (let l : low < a = omega (arith, lt, other) in l) ]
    | inr at ↦ let is = at.0 in let lt = at.1 in absurd (omega (arith, is, lt, order))
  ]);
  none = λ no. c.none (λ before. no (inl (elim before [ inl lt ↦ let l : low < a + 1 = omega (arith, lt) in l | inr at ↦ let is = at.0 in let l : low < a + 1 = omega (arith, is) in l ])));
}

pub next_row : (a n nodes : ℕ) (ps : List Passing) → nodes ≤ n → AreAcross nodes ps → HaveCome a n ps → HaveCome (a + 1) (a + 2) ps
next_row a n nodes ps le across c = record {
  there = λ k p e up. let lt = (across.inside k p e).1 in row_on a n p.from_node p.to_node p up (omega (arith, lt, le)) (c.there k p e up);
  back = λ k p e down. let lt = (across.inside k p e).0 in row_on a n p.to_node p.from_node p down (omega (arith, lt, le)) (c.back k p e down);
}

-- at first nothing has come
pub none_come : (ps : List Passing) → NothingCame ps → HaveCome 0 1 ps
none_come ps none = record {
  there = λ k p e up. record { all = λ before. elim before [ inl lt ↦ absurd (omega (arith, lt)) | inr at ↦ let is = at.0 in let lt = at.1 in absurd (omega (arith, is, lt, up)) ]; none = λ _. none k p e };
  back = λ k p e down. record { all = λ before. elim before [ inl lt ↦ absurd (omega (arith, lt)) | inr at ↦ let is = at.0 in let lt = at.1 in absurd (omega (arith, is, lt, down)) ]; none = λ _. none k p e };
}

-- at last all has
pub all_come : (n nodes : ℕ) (ps : List Passing) → nodes ≤ n → AreAcross nodes ps → HaveCome n (n + 1) ps → AllCame ps
all_come n nodes ps le across come k p e =
    let lt = across.inside k p e in
    let from : p.from_node < n = let one = lt.0 in omega (arith, one, le) in
    let to : p.to_node < n = let two = lt.1 in omega (arith, two, le) in
    elim (cases_order p.from_node p.to_node) [
      | inl same ↦ absurd (across.across k p e same)
      | inr (inl up) ↦ (come.there k p e up).all (inl from)
      | inr (inr down) ↦ (come.back k p e down).all (inl to)
    ]
