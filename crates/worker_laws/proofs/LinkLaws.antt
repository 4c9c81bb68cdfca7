-- An exchange, link by link.
use Rattle.std.proofs.Common.{◌≡◌, ℕ, zero, suc, ◌≤◌, ◌⊎◌, Bool, true, false, ◌==◌, ◌&&◌, if◌then◌else◌, List, [], ◌∷◌, ◌++◌, length, min, Some, refl, sym, ap, ap₂, subst, ◌∙◌, inl, inr, arith}
use Rattle.std.specs.List.{slice_get, flat_map}
use Rattle.std.proofs.lemmas.Bool.{cases_Bool, and_parts, eqb-true, eq-eqb, true≢false}
use Rattle.std.proofs.lemmas.Option.{none-some, same_Some}
use Rattle.std.proofs.lemmas.List.{append-nil}
use Rattle.protocol_steps.specs.declared.message.Message.{Message}
use Rattle.protocol_steps.specs.Rounds.{link_share}
use Rattle.worker_laws.specs.Cells.{lane, known_from}
use Rattle.worker_laws.specs.Wires.{Passage, Wire, AreApart}
use Rattle.worker_laws.specs.Links.{LeadsNone, LinksAreExchanged}

-- whether a link leads to agent i from agent j
abbrev leads : ℕ → ℕ → Wire → Bool
leads i j w = w.receiver == i && w.sender == j

leads_so : (i j : ℕ) (w : Wire) → w.receiver ≡ i → w.sender ≡ j → leads i j w ≡ true
leads_so i j w r s = ap₂ (λ (a : Bool) (b : Bool). a && b) (eq-eqb w.receiver i r) (eq-eqb w.sender j s)

-- a link to agent i from agent j
record HasLink (ws : List Wire) (i j : ℕ) : Type 0 where
  place : ℕ
  wire : Wire
  is : slice_get ws place ≡ Some wire
  receiver : wire.receiver ≡ i
  sender : wire.sender ≡ j

-- what does not lead there at the head, and in the rest, does not at all
none_there : (i j : ℕ) (v : Wire) (ws : List Wire) → leads i j v ≡ false → LeadsNone ws i j → LeadsNone (v ∷ ws) i j
none_there i j v ws not_so none zero w e r s =
    let same : v ≡ w = same_Some v w e in
    true≢false (sym (leads_so i j v (ap (λ (u : Wire). u.receiver) same ∙ r) (ap (λ (u : Wire). u.sender) same ∙ s)) ∙ not_so)
none_there i j v ws not_so none (suc k) w e r s = none k w e r s

find_link : (i j : ℕ) (ws : List Wire) → HasLink ws i j ⊎ LeadsNone ws i j
find_link i j [] = inr (λ k w e r s. none-some w e)
find_link i j (v ∷ ws) = elim (cases_Bool (leads i j v)) [
  | inl so ↦
      let parts = and_parts (v.receiver == i) (v.sender == j) so in
      inl (record { place = 0; wire = v; is = refl; receiver = eqb-true v.receiver i parts.0; sender = eqb-true v.sender j parts.1 })
  | inr not_so ↦ elim (find_link i j ws) [
    | inl found ↦ inl (record { place = suc found.place; wire = found.wire; is = found.is; receiver = found.receiver; sender = found.sender })
    | inr none ↦ inr (none_there i j v ws not_so none)
  ]
]

module _ (f : Wire → List (ℕ × Message)) (i j : ℕ) where
  abbrev picked : List Wire → List (ℕ × Message)
  picked ws = flat_map (λ w. if w.receiver == i && w.sender == j then f w else []) ws

  picked_none : (ws : List Wire) → LeadsNone ws i j → picked ws ≡ []
  picked_none [] none = refl
  picked_none (v ∷ ws) none = elim (cases_Bool (leads i j v)) [
    | inl so ↦ let parts = and_parts (v.receiver == i) (v.sender == j) so in absurd (none 0 v refl (eqb-true v.receiver i parts.0) (eqb-true v.sender j parts.1))
    | inr not_so ↦ ap (λ (b : Bool). (if b then f v else []) ++ picked ws) not_so ∙ picked_none ws (λ k w e. none (suc k) w e)
  ]

  picked_one : (ws : List Wire) → AreApart ws → (k : ℕ) (w : Wire) → slice_get ws k ≡ Some w → w.receiver ≡ i → w.sender ≡ j → picked ws ≡ f w
  picked_one [] apart k w e r s = absurd (none-some w e)
  picked_one (v ∷ ws) apart zero w e r s =
      let same : v ≡ w = same_Some v w e in
      let to : v.receiver ≡ i = ap (λ (u : Wire). u.receiver) same ∙ r in
      let from : v.sender ≡ j = ap (λ (u : Wire). u.sender) same ∙ s in
      ap (λ (b : Bool). (if b then f v else []) ++ picked ws) (leads_so i j v to from)
      ∙ ap (λ (es : List (ℕ × Message)). f v ++ es) (picked_none ws (λ l u at ru su. let no = apart 0 (suc l) v u refl at (to ∙ sym ru) (from ∙ sym su) in omega (arith, no)))
      ∙ append-nil (f v) ∙ ap f same
  picked_one (v ∷ ws) apart (suc k) w e r s = elim (cases_Bool (leads i j v)) [
    | inl so ↦
        let parts = and_parts (v.receiver == i) (v.sender == j) so in
        let no = apart 0 (suc k) v w refl e (eqb-true v.receiver i parts.0 ∙ sym r) (eqb-true v.sender j parts.1 ∙ sym s) in
        absurd (omega (arith, no))
    | inr not_so ↦
        ap (λ (b : Bool). (if b then f v else []) ++ picked ws) not_so
        ∙ picked_one ws (λ a b x y at_x at_y rx sx. let same = apart (suc a) (suc b) x y at_x at_y rx sx in omega (arith, same)) k w e r s
  ]

abbrev all_drained : Wire → List (ℕ × Message)
all_drained w = flat_map (λ (p : Passage). p.drained) w.passages

abbrev all_arrived : Wire → List (ℕ × Message)
all_arrived w = flat_map (λ (p : Passage). p.arrived) w.passages

pub links_are_exchanged : LinksAreExchanged
links_are_exchanged node wires cells apart each nothing i j to from e f differ = elim (find_link i j wires) [
  | inl l ↦
      let to_at : slice_get cells l.wire.receiver ≡ Some to = ap (slice_get cells) l.receiver ∙ e in
      let from_at : slice_get cells l.wire.sender ≡ Some from = ap (slice_get cells) l.sender ∙ f in
      let on = each l.place l.wire to from l.is to_at from_at in
      record {
        drained = picked_one all_drained i j wires apart l.place l.wire l.is l.receiver l.sender ∙ on.drained ∙ ap (λ (k : ℕ). lane k from.sent) l.receiver;
        waiting = on.waiting;
        arrived =
            ap (λ (k : ℕ). lane k to.taken ++ on.waiting) (sym l.sender) ∙ on.arrived
            ∙ sym (picked_one all_arrived i j wires apart l.place l.wire l.is l.receiver l.sender);
        known = subst (λ (k : ℕ). min link_share (length on.waiting) ≤ known_from k to.known) l.sender on.known;
      }
  | inr none ↦
      let empty = nothing i j to from e f differ none in
      record {
        drained = picked_none all_drained i j wires none ∙ sym empty.0;
        waiting = [];
        arrived = append-nil (lane j to.taken) ∙ empty.1 ∙ sym (picked_none all_arrived i j wires none);
        known = omega arith;
      }
]
