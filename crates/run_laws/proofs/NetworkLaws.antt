-- One message at a time in a network: what its views, its links and its counts are.
use Rattle.std.proofs.Common.{◌≡◌, ℕ, ◌+◌, ◌<◌, ◌≤◌, Bool, true, false, cond, ◌&&◌, eqb, ◌==◌, zero-add, if◌then◌else◌, List, [], ◌∷◌, ◌++◌, length, Option, Some, None, refl, sym, ap, ap₂, subst, ◌∙◌, inl, inr, arith}
use Rattle.std.specs.List.{concat, slice_get, slice_set, sum_by, count_by}
use Rattle.std.proofs.lemmas.Bool.{cases_Bool, cases_eq, and_parts, eqb-true, eq-eqb, ne_eqb}
use Rattle.std.proofs.lemmas.List.{append-nil, length-append, length-set}
use Rattle.std.proofs.lemmas.List.Concat.{flat_map-append}
use Rattle.std.proofs.lemmas.List.Sums.{sum_by-append}
use Rattle.protocol_steps.specs.declared.message.Message.{Message}
use Rattle.protocol_steps.specs.declared.message.Message.TheVariants.{Token, Done, Util, ValueAll, Value, Cost, Threshold, Terminate}
use Rattle.protocol_steps.specs.declared.event.Take.{Take}
use Rattle.protocol_steps.specs.Agent.{Stepped, quiet, last_of}
use Rattle.protocol_steps.specs.Token.{TokenView, next_child}
use Rattle.protocol_steps.specs.TokenStep.{done_for, pass_on, look, open_with, takes_token, takes_done, token_message}
use Rattle.protocol_steps.specs.View.{TokenKind}
use Rattle.protocol_steps.specs.Step.{as_kind, step_of}
use Rattle.protocol_steps.specs.Network.{Desk, Network, message_to, messages_to, taken_from, sent_at, link}
use Rattle.protocol_steps.specs.Effect.{desk_after, deliveries}
use Rattle.protocol_steps.proofs.EventLaws.{get_same, get_other}
use Rattle.run_laws.specs.TokenRun.{is_token, is_done}
use Rattle.run_laws.proofs.Serial.{Flight, Serial, put, flight_of, one_if, tick_at}
use Rattle.protocol_steps.proofs.TallyLaws.{tally_pair, sum-set}
use Rattle.protocol_steps.proofs.DeliveredLaws.{total}
use Rattle.run_laws.proofs.CallLaws.{put_same, put_other}

-- the message under way, on the link from j to i
abbrev pub message_on : Option Flight → ℕ → ℕ → List Message
message_on None j i = []
message_on (Some f) j i = if f.from == j && f.to == i then f.message ∷ [] else []

-- a network of n token agents with one message under way
pub record IsSerial (n : ℕ) (net : Network) (s : Serial) : Type 0 where
  pub size : length net.desks ≡ n
  pub count : length net.views ≡ n
  pub views : (i : ℕ) → i < n → slice_get net.views i ≡ Some (TokenKind (s.views i))
  pub desk : ℕ → Desk
  pub desks : (i : ℕ) → i < n → slice_get net.desks i ≡ Some (desk i)
  pub past : ℕ → ℕ → List Message
  pub sent : (i j : ℕ) → i < n → link net.desks j i ≡ past i j ++ message_on s.flight j i
  pub taken : (i j : ℕ) → i < n → taken_from j (desk i).takes ≡ length (past i j)
  pub tokens : total is_token n past ≡ s.tokens
  pub dones : total is_done n past ≡ s.dones

-- one parcel at most
pub one_parcel : (i u : ℕ) (sends : List (ℕ × Message)) → length sends ≤ 1 → messages_to u sends ≡ message_on (flight_of i sends) i u
one_parcel i u [] le = refl
one_parcel i u (x ∷ []) le =
    append-nil (message_to u x) ∙ ap (λ (b : Bool). if b && x.0 == u then x.1 ∷ [] else []) (sym (eq-eqb i i refl))
one_parcel i u (x ∷ y ∷ rest) le = absurd (omega (arith, le))

pub no_parcel : (i j u : ℕ) (sends : List (ℕ × Message)) → (j ≡ i → ⊥) → message_on (flight_of i sends) j u ≡ []
no_parcel i j u [] ne = refl
no_parcel i j u (x ∷ rest) ne = ap (λ (b : Bool). if b && x.0 == u then x.1 ∷ [] else []) (ne_eqb i j (λ e. ne (sym e)))

done_few : (o : Option ℕ) (visited : List ℕ) → length (done_for o visited) ≤ 1
done_few None visited = omega arith
done_few (Some parent) visited = omega arith

pass_few : (v : TokenView) (o : Option ℕ) → length (pass_on v o).sends ≤ 1
pass_few v (Some child) = omega arith
pass_few v None = done_few (last_of v.path) (v.own.me ∷ concat v.kept)

pub look_few : (v : TokenView) → length (look v).sends ≤ 1
look_few v = pass_few v (next_child v)

quiet_few : (v : TokenView) → length (quiet v).sends ≤ 1
quiet_few v = omega arith

either_few : (b : Bool) (x y : Stepped TokenView) → length x.sends ≤ 1 → length y.sends ≤ 1 → length (cond b x y).sends ≤ 1
either_few true x y h k = h
either_few false x y h k = k

token_few : (v : TokenView) (j : ℕ) (m : Message) → length (token_message v j m).sends ≤ 1
token_few v j (Token path) = either_few (takes_token v j path) (open_with v path) (quiet v) (look_few (record v { opened = true; path = path })) (quiet_few v)
token_few v j (Done visited) = either_few (takes_done v j visited) (look (record v { kept = v.kept ++ (visited ∷ []) })) (quiet v) (look_few (record v { kept = v.kept ++ (visited ∷ []) })) (quiet_few v)
token_few v j (Util scope cells) = quiet_few v
token_few v j (ValueAll values) = quiet_few v
token_few v j (Value d) = quiet_few v
token_few v j (Cost c l u) = quiet_few v
token_few v j (Threshold t c) = quiet_few v
token_few v j (Terminate c) = quiet_few v

pub one_letter : (v : TokenView) (j : ℕ) (m : Message) → step_of (TokenKind v) ((j, m) ∷ []) ≡ as_kind TokenKind (token_message v j m)
unfolding step_of
one_letter v j m = refl

-- the message under way is taken by its receiver
module _ (n : ℕ) (net : Network) (s : Serial) (is : IsSerial n net s) (f : Flight) (fly : s.flight ≡ Some f) (to : f.to < n) (from : f.from < n) where
  abbrev step : Stepped TokenView
  step = token_message (s.views f.to) f.from f.message

  abbrev one_take : Take
  one_take = record { from = f.from; count = 1 }

  abbrev desk_now : Desk
  desk_now = desk_after (is.desk f.to) step.sends (one_take ∷ [])

  abbrev pub net_now : Network
  net_now = record { views = slice_set net.views f.to (TokenKind step.view); desks = slice_set net.desks f.to desk_now }

  abbrev past_now : ℕ → ℕ → List Message
  past_now u j = is.past u j ++ message_on s.flight j u

  flying : (u j : ℕ) → message_on s.flight j u ≡ message_on (Some f) j u
  flying u j = ap (λ (o : Option Flight). message_on o j u) fly

  -- the message under way is on one link alone
  here : message_on s.flight f.from f.to ≡ f.message ∷ []
  here = flying f.to f.from ∙ ap₂ (λ (a : Bool) (b : Bool). if a && b then f.message ∷ [] else []) (eq-eqb f.from f.from refl) (eq-eqb f.to f.to refl)

  elsewhere : (u j : ℕ) → ((u ≡ f.to) × (j ≡ f.from) → ⊥) → message_on s.flight j u ≡ []
  elsewhere u j ne = flying u j ∙ elim (cases_Bool (f.from == j && f.to == u)) [
    | inl both ↦
        let parts = and_parts (f.from == j) (f.to == u) both in
        absurd (ne (sym (eqb-true f.to u parts.1), sym (eqb-true f.from j parts.0)))
    | inr apart ↦ ap (λ (b : Bool). if b then f.message ∷ [] else []) apart
  ]

  views_now : (u : ℕ) → u < n → slice_get net_now.views u ≡ Some (TokenKind (put s.views f.to step.view u))
  views_now u lt = elim (cases_eq u f.to) [
    | inl same ↦
        subst (λ (k : ℕ). slice_get net_now.views k ≡ Some (TokenKind (put s.views f.to step.view k))) (sym same)
        (get_same net.views f.to (TokenKind (s.views f.to)) (TokenKind step.view) (is.views f.to to) ∙ ap (λ (x : TokenView). Some (TokenKind x)) (sym (put_same s.views f.to step.view)))
    | inr other ↦
        get_other net.views f.to u (TokenKind step.view) (λ e. other (sym e)) ∙ is.views u lt
        ∙ ap (λ (x : TokenView). Some (TokenKind x)) (sym (put_other s.views f.to u step.view other))
  ]

  abbrev desk_of : ℕ → Desk
  desk_of u = if u == f.to then desk_now else is.desk u

  desks_now : (u : ℕ) → u < n → slice_get net_now.desks u ≡ Some (desk_of u)
  desks_now u lt = elim (cases_eq u f.to) [
    | inl same ↦
        subst (λ (k : ℕ). slice_get net_now.desks k ≡ Some desk_now) (sym same) (get_same net.desks f.to (is.desk f.to) desk_now (is.desks f.to to))
        ∙ ap (λ (b : Bool). Some (if b then desk_now else is.desk u)) (sym (eq-eqb u f.to same))
    | inr other ↦
        get_other net.desks f.to u desk_now (λ e. other (sym e)) ∙ is.desks u lt
        ∙ ap (λ (b : Bool). Some (if b then desk_now else is.desk u)) (sym (ne_eqb u f.to other))
  ]

  sent_now : (u j : ℕ) → u < n → link net_now.desks j u ≡ past_now u j ++ message_on (flight_of f.to step.sends) j u
  sent_now u j lt = elim (cases_eq j f.to) [
    | inl same ↦
        subst (λ (k : ℕ). link net_now.desks k u ≡ past_now u k ++ message_on (flight_of f.to step.sends) k u) (sym same)
        (ap (λ (o : Option Desk). messages_to u (sent_at o)) (get_same net.desks f.to (is.desk f.to) desk_now (is.desks f.to to))
        ∙ flat_map-append (message_to u) (is.desk f.to).sent step.sends
        ∙ ap₂ (λ (xs : List Message) (ys : List Message). xs ++ ys)
        (ap (λ (o : Option Desk). messages_to u (sent_at o)) (sym (is.desks f.to to)) ∙ is.sent u f.to lt)
        (one_parcel f.to u step.sends (token_few (s.views f.to) f.from f.message)))
    | inr other ↦
        ap (λ (o : Option Desk). messages_to u (sent_at o)) (get_other net.desks f.to j desk_now (λ e. other (sym e)))
        ∙ is.sent u j lt ∙ sym (append-nil (past_now u j))
        ∙ ap (λ (ms : List Message). past_now u j ++ ms) (sym (no_parcel f.to j u step.sends other))
  ]

  counted : (j : ℕ) → taken_from j (one_take ∷ []) ≡ length (message_on s.flight j f.to)
  counted j = elim (cases_eq j f.from) [
    | inl same ↦
        zero-add (cond {A = ℕ} (eqb f.from j) 1 0) ∙ ap (λ (b : Bool). cond {A = ℕ} b 1 0) (eq-eqb f.from j (sym same))
        ∙ sym (subst (λ (k : ℕ). length (message_on s.flight k f.to) ≡ 1) (sym same) (ap (λ (ms : List Message). length ms) here))
    | inr other ↦
        zero-add (cond {A = ℕ} (eqb f.from j) 1 0) ∙ ap (λ (b : Bool). cond {A = ℕ} b 1 0) (ne_eqb f.from j (λ e. other (sym e)))
        ∙ sym (ap (λ (ms : List Message). length ms) (elsewhere f.to j (λ q. other q.1)))
  ]

  taken_now : (u j : ℕ) → u < n → taken_from j (desk_of u).takes ≡ length (past_now u j)
  taken_now u j lt = elim (cases_eq u f.to) [
    | inl same ↦
        ap (λ (b : Bool). taken_from j (if b then desk_now else is.desk u).takes) (eq-eqb u f.to same)
        ∙ sum_by-append (λ (t : Take). if t.from == j then t.count else 0) (is.desk f.to).takes (one_take ∷ [])
        ∙ ap₂ (λ (a : ℕ) (b : ℕ). a + b) (is.taken f.to j to) (counted j)
        ∙ sym (length-append (is.past f.to j) (message_on s.flight j f.to))
        ∙ ap (λ (k : ℕ). length (past_now k j)) (sym same)
    | inr other ↦
        ap (λ (b : Bool). taken_from j (if b then desk_now else is.desk u).takes) (ne_eqb u f.to other)
        ∙ is.taken u j lt
        ∙ ap (λ (ms : List Message). length ms) (sym (append-nil (is.past u j)) ∙ ap (λ (ms : List Message). is.past u j ++ ms) (sym (elsewhere u j (λ q. other q.0))))
  ]

  total_now : (test : Message → Bool) → total test n past_now ≡ total test n is.past + one_if (test f.message)
  total_now test =
      tally_pair (λ i j. count_by test (is.past i j)) (λ i j. count_by test (past_now i j)) n f.to f.from (one_if (test f.message)) to from
      (sum_by-append (λ (m : Message). if test m then 1 else 0) (is.past f.to f.from) (message_on s.flight f.from f.to)
      ∙ ap (λ (ms : List Message). count_by test (is.past f.to f.from) + count_by test ms) here
      ∙ ap (λ (k : ℕ). count_by test (is.past f.to f.from) + k) (zero-add (one_if (test f.message))))
      (λ i j ne. ap (λ (ms : List Message). count_by test (is.past i j ++ ms)) (elsewhere i j ne) ∙ ap (λ (ms : List Message). count_by test ms) (append-nil (is.past i j)))

  pub serial_step : IsSerial n net_now (tick_at s (Some f))
  serial_step = record {
    size = length-set net.desks f.to desk_now ∙ is.size;
    count = length-set net.views f.to (TokenKind step.view) ∙ is.count;
    views = views_now;
    desk = desk_of;
    desks = desks_now;
    past = past_now;
    sent = sent_now;
    taken = taken_now;
    tokens = total_now is_token ∙ ap (λ (k : ℕ). k + one_if (is_token f.message)) is.tokens;
    dones = total_now is_done ∙ ap (λ (k : ℕ). k + one_if (is_done f.message)) is.dones;
  }

  pub delivered_now : deliveries net_now ≡ deliveries net + 1
  delivered_now =
      sum-set (λ (x : Desk). sum_by (λ (t : Take). t.count) x.takes) net.desks f.to 1 (is.desk f.to) desk_now (is.desks f.to to)
      (sum_by-append (λ (t : Take). t.count) (is.desk f.to).takes (one_take ∷ []))
