-- The start state of token agents: the root looks for its first child, and the others wait.
use Rattle.std.proofs.Common.{◌≡◌, ℕ, zero, suc, ◌+◌, ◌<◌, ◌≤◌, Bool, ◌==◌, zero-add, if◌then◌else◌, List, [], ◌∷◌, map, length, Option, Some, None, refl, sym, ap, subst, ◌∙◌, inl, inr, arith}
use Rattle.std.specs.List.{slice_get, sum_by, range_with_len}
use Rattle.std.proofs.lemmas.Bool.{cases_eq, cases_lt, eq-eqb, ne_eqb}
use Rattle.std.proofs.lemmas.Option.{none-some, same_Some, slice_get_past}
use Rattle.std.proofs.lemmas.List.{length-map}
use Rattle.std.proofs.lemmas.List.FromFn.{length-range_with_len}
use Rattle.std.proofs.lemmas.List.Sums.{sum_by-cons}
use Rattle.dcop_base.specs.Problem.{Dcop}
use Rattle.dcop_base.specs.Knowledge.{acquaintance_of}
use Rattle.protocol_steps.specs.declared.event.Take.{Take}
use Rattle.protocol_steps.specs.Agent.{Stepped, quiet}
use Rattle.protocol_steps.specs.Token.{TokenView, new_token}
use Rattle.protocol_steps.specs.TokenStep.{look, open_with, token_start}
use Rattle.protocol_steps.specs.View.{View, TokenKind}
use Rattle.protocol_steps.specs.Step.{as_kind, start_of}
use Rattle.protocol_steps.specs.Network.{Desk, Network, start_state, messages_to, sent_at, link}
use Rattle.protocol_steps.specs.Effect.{deliveries}
use Rattle.protocol_steps.specs.TreeAgents.{token_agents}
use Rattle.run_laws.proofs.Serial.{Serial, stepped}
use Rattle.run_laws.proofs.Visits.{fresh, open_view}
use Rattle.protocol_steps.proofs.TallyLaws.{tally}
use Rattle.run_laws.proofs.NetworkLaws.{message_on, IsSerial, one_parcel, no_parcel, look_few}

get-range : (a n k : ℕ) → k < n → slice_get (range_with_len a n) k ≡ Some (a + k)
get-range a zero k lt = absurd (omega (arith, lt))
get-range a (suc n) zero lt = ap (λ (x : ℕ). Some x) (omega arith)
get-range a (suc n) (suc k) lt = get-range (a + 1) n k (omega (arith, lt)) ∙ ap (λ (x : ℕ). Some x) (omega arith)

get-map : {A : Type 0} {B : Type 0} (f : A → B) (xs : List A) (k : ℕ) (x : A) → slice_get xs k ≡ Some x → slice_get (map f xs) k ≡ Some (f x)
get-map f [] k x h = absurd (none-some x h)
get-map f (y ∷ ys) zero x h = ap (λ (z : _). Some (f z)) (same_Some y x h)
get-map f (y ∷ ys) (suc k) x h = get-map f ys k x h

-- the view with which the search begins, and the state
abbrev pub root_looks : Dcop → Stepped TokenView
root_looks p = look (open_view p 0 [] [] None)

abbrev pub first_state : Dcop → Serial
first_state p = stepped (fresh p) 0 0 0 (root_looks p)

-- the start of one agent
abbrev pub started : Dcop → ℕ → Stepped TokenView
started p i = if i == 0 then root_looks p else quiet (fresh p i)

start_root : (p : Dcop) → token_start (new_token (acquaintance_of p 0)) ≡ root_looks p
start_root p = refl

start_other : (p : Dcop) (i : ℕ) → (i ≡ 0 → ⊥) → token_start (new_token (acquaintance_of p i)) ≡ quiet (fresh p i)
start_other p i ne = ap (λ (b : Bool). if b then open_with (fresh p i) [] else quiet (fresh p i)) (ne_eqb i 0 ne)

pub start_is : (p : Dcop) (i : ℕ) → start_of (TokenKind (new_token (acquaintance_of p i))) ≡ as_kind TokenKind (started p i)
unfolding start_of
start_is p i = ap (λ (s : Stepped TokenView). as_kind TokenKind s) (elim (cases_eq i 0) [
  | inl same ↦
      subst (λ (k : ℕ). token_start (new_token (acquaintance_of p k)) ≡ started p k) (sym same) (start_root p)
  | inr other ↦
      start_other p i other ∙ ap (λ (b : Bool). if b then root_looks p else quiet (fresh p i)) (sym (ne_eqb i 0 other))
])

module _ (p : Dcop) (some : 1 ≤ length p.sizes) where
  abbrev start : Network
  start = start_state (token_agents p)

  made_at : (i : ℕ) → i < length p.sizes → slice_get (token_agents p) i ≡ Some (TokenKind (new_token (acquaintance_of p i)))
  made_at i lt =
      get-map (λ (k : ℕ). TokenKind (new_token (acquaintance_of p k))) (range_with_len 0 (length p.sizes)) i i
      (get-range 0 (length p.sizes) i lt ∙ ap (λ (x : ℕ). Some x) (zero-add i))

  abbrev first_desk : ℕ → Desk
  first_desk i = record { sent = (started p i).sends; takes = [] }

  agents : length (token_agents p) ≡ length p.sizes
  agents = length-map (range_with_len 0 (length p.sizes)) (λ (k : ℕ). TokenKind (new_token (acquaintance_of p k))) ∙ length-range_with_len 0 (length p.sizes)

  view_at : (i : ℕ) → i < length p.sizes → slice_get start.views i ≡ Some (TokenKind ((first_state p).views i))
  view_at i lt =
      get-map (λ (v : View). (start_of v).view) (token_agents p) i (TokenKind (new_token (acquaintance_of p i))) (made_at i lt)
      ∙ ap (λ (s : Stepped View). Some s.view) (start_is p i)
      ∙ elim (cases_eq i 0) [
        | inl same ↦
            ap (λ (b : Bool). Some (TokenKind (if b then root_looks p else quiet (fresh p i)).view)) (eq-eqb i 0 same)
            ∙ ap (λ (b : Bool). Some (TokenKind (if b then (root_looks p).view else fresh p i))) (sym (eq-eqb i 0 same))
        | inr other ↦
            ap (λ (b : Bool). Some (TokenKind (if b then root_looks p else quiet (fresh p i)).view)) (ne_eqb i 0 other)
            ∙ ap (λ (b : Bool). Some (TokenKind (if b then (root_looks p).view else fresh p i))) (sym (ne_eqb i 0 other))
      ]

  desk_at : (i : ℕ) → i < length p.sizes → slice_get start.desks i ≡ Some (first_desk i)
  desk_at i lt =
      get-map (λ (v : View). let x : Desk = record { sent = (start_of v).sends; takes = [] } in x) (token_agents p) i (TokenKind (new_token (acquaintance_of p i))) (made_at i lt)
      ∙ ap (λ (s : Stepped View). let x : Desk = record { sent = s.sends; takes = [] } in Some x) (start_is p i)

  desks_count : length start.desks ≡ length p.sizes
  desks_count = length-map (token_agents p) (λ (v : View). let x : Desk = record { sent = (start_of v).sends; takes = [] } in x) ∙ agents

  sent_first : (i j : ℕ) → i < length p.sizes → link start.desks j i ≡ message_on (first_state p).flight j i
  sent_first i j lt = elim (cases_eq j 0) [
    | inl same ↦
        subst (λ (k : ℕ). link start.desks k i ≡ message_on (first_state p).flight k i) (sym same)
        (ap (λ (o : Option Desk). messages_to i (sent_at o)) (desk_at 0 (omega (arith, some)))
        ∙ one_parcel 0 i (root_looks p).sends (look_few (open_view p 0 [] [] None)))
    | inr other ↦ elim (cases_lt j (length p.sizes)) [
      | inl known ↦
          ap (λ (o : Option Desk). messages_to i (sent_at o)) (desk_at j known)
          ∙ ap (λ (b : Bool). messages_to i (if b then root_looks p else quiet (fresh p j)).sends) (ne_eqb j 0 other)
          ∙ sym (no_parcel 0 j i (root_looks p).sends other)
      | inr past ↦
          ap (λ (o : Option Desk). messages_to i (sent_at o)) (slice_get_past start.desks j (omega (arith, past, desks_count)))
          ∙ sym (no_parcel 0 j i (root_looks p).sends other)
    ]
  ]

  none_taken : (f : ℕ → ℕ) (n : ℕ) → ((i : ℕ) → f i ≡ 0) → tally f n ≡ 0
  none_taken f zero h = refl
  none_taken f (suc n) h = let rest = none_taken f n h in let last = h n in omega (arith, rest, last)

  pub starts : IsSerial (length p.sizes) start (first_state p)
  starts = record {
    size = desks_count;
    count = length-map (token_agents p) (λ (v : View). (start_of v).view) ∙ agents;
    views = view_at;
    desk = first_desk;
    desks = desk_at;
    past = λ i j. [];
    sent = sent_first;
    taken = λ i j lt. refl;
    tokens = none_taken (λ i. tally (λ j. 0) (length p.sizes)) (length p.sizes) (λ i. none_taken (λ j. 0) (length p.sizes) (λ j. refl));
    dones = none_taken (λ i. tally (λ j. 0) (length p.sizes)) (length p.sizes) (λ i. none_taken (λ j. 0) (length p.sizes) (λ j. refl));
  }

  nothing_yet : (vs : List View) → sum_by (λ (x : Desk). sum_by (λ (t : Take). t.count) x.takes) (map (λ v. let x : Desk = record { sent = (start_of v).sends; takes = [] } in x) vs) ≡ 0
  nothing_yet [] = refl
  nothing_yet (v ∷ vs) =
      let x : Desk = record { sent = (start_of v).sends; takes = [] } in
      sum_by-cons (λ (y : Desk). sum_by (λ (t : Take). t.count) y.takes) x (map (λ w. let y : Desk = record { sent = (start_of w).sends; takes = [] } in y) vs)
      ∙ zero-add (sum_by (λ (y : Desk). sum_by (λ (t : Take). t.count) y.takes) (map (λ w. let y : Desk = record { sent = (start_of w).sends; takes = [] } in y) vs)) ∙ nothing_yet vs

  pub none_delivered : deliveries start ≡ 0
  none_delivered = nothing_yet (token_agents p)
