-- What each agent keeps in a run: what it was made from, its parent among its neighbours, and no failure.
use Rattle.std.proofs.Common.{◌≡◌, ℕ, zero, suc, ◌+◌, ◌<◌, ◌≤◌, Bool, true, false, cond, eqb, List, [], ◌∷◌, ◌++◌, length, Option, Some, None, refl, sym, ap, subst, ◌∙◌, inl, inr, arith}
use Rattle.std.specs.List.{All, Contains}
use Rattle.std.proofs.lemmas.Bool.{cases_eq, or_cases, or_left, eqb-true, eq-eqb}
use Rattle.std.proofs.lemmas.Option.{none-some, same_Some}
use Rattle.std.proofs.lemmas.List.Elements.{All-head, All-cons, All-nil}
use Rattle.dcop_base.specs.Table.{has}
use Rattle.dcop_base.specs.Problem.{Dcop}
use Rattle.dcop_base.specs.Graph.{neighbours}
use Rattle.dcop_base.specs.Knowledge.{acquaintance_of}
use Rattle.dcop_base.specs.declared.knowledge.Private.{Private}
use Rattle.dcop_base.proofs.FirstLaws.{Contains-cases, Contains-head, Contains-tail, Contains-none}
use Rattle.dcop_base.proofs.JointLaws.{are_neighbours-sym}
use Rattle.protocol_steps.specs.declared.message.Message.{Message}
use Rattle.protocol_steps.specs.declared.message.Message.TheVariants.{Token, Done, Util, ValueAll, Value, Cost, Threshold, Terminate}
use Rattle.protocol_steps.specs.Agent.{Stepped, quiet}
use Rattle.protocol_steps.specs.Token.{TokenView, next_child, new_token}
use Rattle.protocol_steps.specs.TokenStep.{pass_on, look, open_with, takes_token, takes_done, token_message}
use Rattle.protocol_steps.specs.View.{View, TokenKind}
use Rattle.protocol_steps.specs.Step.{as_kind}
use Rattle.protocol_steps.specs.Machine.{IsToNeighbour}
use Rattle.protocol_steps.specs.Laws.{IsBeside, ReachesNeighbours}
use Rattle.protocol_steps.proofs.ParcelLaws.{parcels_go_to_neighbours}
use Rattle.run_laws.specs.TokenRun.{is_token, is_done}
use Rattle.run_laws.proofs.MemberLaws.{in_right}
use Rattle.run_laws.proofs.Serial.{Flight, Serial, put, flight_of, one_if, stepped, tick, tick_at, ticks}
use Rattle.run_laws.proofs.Visits.{fresh, open_view}
use Rattle.run_laws.proofs.CallLaws.{put_same, put_other, neighbour_in, in_neighbours}
use Rattle.run_laws.proofs.NetworkLaws.{one_letter}
use Rattle.run_laws.proofs.TokenStartLaws.{root_looks, first_state, start_is}

member : (xs : List ℕ) (u : ℕ) → Contains xs u → has xs u ≡ true
member [] u h = absurd (Contains-none u h)
member (x ∷ xs) u h = elim (Contains-cases x xs u h) [
  | inl same ↦ or_left (eqb x u) (has xs u) (eq-eqb x u same)
  | inr later ↦ in_right (x ∷ []) xs u (member xs u later)
]

contained : (xs : List ℕ) (u : ℕ) → has xs u ≡ true → Contains xs u
contained [] u h = absurd (cc)
contained (x ∷ xs) u h = elim (or_cases (eqb x u) (has xs u) h) [
  | inl same ↦ subst (λ (y : ℕ). Contains (x ∷ xs) y) (eqb-true x u same) (Contains-head x xs)
  | inr later ↦ Contains-tail x xs u (contained xs u later)
]

-- what no message changes
abbrev pub lasting : TokenView → Private × Bool × Bool
lasting v = (v.own, v.phase.started, v.phase.failed)

passed_on : (v : TokenView) (o : Option ℕ) → lasting (pass_on v o).view ≡ lasting v
passed_on v (Some child) = refl
passed_on v None = refl

either : (b : Bool) (x y : Stepped TokenView) (v : TokenView) → lasting x.view ≡ lasting v → lasting y.view ≡ lasting v → lasting (cond b x y).view ≡ lasting v
either true x y v h k = h
either false x y v h k = k

token_lasts : (v : TokenView) (j : ℕ) (m : Message) → lasting (token_message v j m).view ≡ lasting v
token_lasts v j (Token path) =
    either (takes_token v j path) (open_with v path) (quiet v) v (passed_on (record v { opened = true; path = path }) (next_child (record v { opened = true; path = path }))) refl
token_lasts v j (Done visited) =
    either (takes_done v j visited) (look (record v { kept = v.kept ++ (visited ∷ []) })) (quiet v) v
    (passed_on (record v { kept = v.kept ++ (visited ∷ []) }) (next_child (record v { kept = v.kept ++ (visited ∷ []) }))) refl
token_lasts v j (Util scope cells) = refl
token_lasts v j (ValueAll values) = refl
token_lasts v j (Value d) = refl
token_lasts v j (Cost c l u) = refl
token_lasts v j (Threshold t c) = refl
token_lasts v j (Terminate c) = refl

-- an agent as it is at each moment of a run
pub record IsSoundAt (p : Dcop) (u : ℕ) (v : TokenView) : Type 0 where
  pub lasts : lasting v ≡ lasting (fresh p u)
  pub beside : IsBeside (TokenKind v)

-- the message under way goes between neighbours
pub record IsBetween (p : Dcop) (f : Flight) : Type 0 where
  pub sender : has (neighbours p f.to) f.from ≡ true
  pub receiver : has (neighbours p f.from) f.to ≡ true

pub record IsSound (p : Dcop) (s : Serial) : Type 0 where
  pub agents : (u : ℕ) → IsSoundAt p u (s.views u)
  pub between : (f : Flight) → s.flight ≡ Some f → IsBetween p f

module _ (p : Dcop) where
  near_is : (u : ℕ) (v : TokenView) → lasting v ≡ lasting (fresh p u) → v.own.neighbours ≡ neighbours p u
  near_is u v h = ap (λ (x : Private × Bool × Bool). (x.0).neighbours) h

  turned : (u w : ℕ) → u < length p.sizes → has (neighbours p u) w ≡ true → has (neighbours p w) u ≡ true
  turned u w lt h = in_neighbours p w u lt (are_neighbours-sym p u w (neighbour_in p u w h).0)

  -- a parcel that an agent sends goes to a neighbour
  sent_between : (i : ℕ) (near : List ℕ) (sends : List (ℕ × Message)) → i < length p.sizes → near ≡ neighbours p i → All (λ (x : ℕ × Message). Contains near x.0) sends
      → (f : Flight) → flight_of i sends ≡ Some f → IsBetween p f
  sent_between i near [] lt same all f e = absurd (none-some f e)
  sent_between i near (x ∷ xs) lt same all f e =
      let there : has (neighbours p i) x.0 ≡ true = subst (λ (ys : List ℕ). has ys x.0 ≡ true) same (member near x.0 (All-head (λ (y : ℕ × Message). Contains near y.0) x xs all)) in
      let now : Flight = record { from = i; to = x.0; message = x.1 } in
      let is : now ≡ f = same_Some now f e in
      subst (λ (g : Flight). IsBetween p g) is (record { sender = turned i x.0 lt there; receiver = there })

  stepped_sound : (s : Serial) (t d i : ℕ) (x : Stepped TokenView) → ((u : ℕ) → IsSoundAt p u (s.views u)) → i < length p.sizes → lasting x.view ≡ lasting (fresh p i)
      → (near : List ℕ) → near ≡ neighbours p i → IsBeside (TokenKind x.view) → All (λ (y : ℕ × Message). Contains near y.0) x.sends → IsSound p (stepped s.views t d i x)
  stepped_sound s t d i x old lt lasts near same beside all = record {
    agents = λ u. elim (cases_eq u i) [
      | inl here ↦
          subst (λ (k : ℕ). IsSoundAt p k (put s.views i x.view k)) (sym here)
          (subst (λ (v : TokenView). IsSoundAt p i v) (sym (put_same s.views i x.view)) (record { lasts = lasts; beside = beside }))
      | inr other ↦ subst (λ (v : TokenView). IsSoundAt p u v) (sym (put_other s.views i u x.view other)) (old u)
    ];
    between = sent_between i near x.sends lt same all;
  }

  -- a tick keeps it
  sound_tick : (s : Serial) → IsSound p s → IsSound p (tick s)
  sound_tick s is =
      elim s.flight as (λ (o : Option Flight). s.flight ≡ o → IsSound p (tick_at s o)) [
        | None ↦ λ e. is
        | Some f ↦ λ e.
            let v : TokenView = s.views f.to in
            let at = is.agents f.to in
            let way = is.between f e in
            let near : v.own.neighbours ≡ neighbours p f.to = near_is f.to v at.lasts in
            let inside = (neighbour_in p f.from f.to way.receiver).1 in
            let known : Contains v.own.neighbours f.from = contained v.own.neighbours f.from (ap (λ (xs : List ℕ). has xs f.from) near ∙ way.sender) in
            let l : ℕ × Message = (f.from, f.message) in
            let reaches : ReachesNeighbours (TokenKind v) (as_kind TokenKind (token_message v f.from f.message)) =
            subst (λ (z : Stepped View). ReachesNeighbours (TokenKind v) z) (one_letter v f.from f.message)
            (parcels_go_to_neighbours.stepped (TokenKind v) (l ∷ []) at.beside (All-cons (IsToNeighbour (TokenKind v)) l [] known (All-nil (IsToNeighbour (TokenKind v))))) in
            stepped_sound s (s.tokens + one_if (is_token f.message)) (s.dones + one_if (is_done f.message)) f.to (token_message v f.from f.message) is.agents inside
            (token_lasts v f.from f.message ∙ at.lasts) v.own.neighbours near reaches.beside reaches.receivers
      ] refl

  pub sound_ticks : (k : ℕ) (s : Serial) → IsSound p s → IsSound p (ticks k s)
  sound_ticks zero s is = is
  sound_ticks (suc k) s is = sound_ticks k (tick s) (sound_tick s is)

  no_parent : (u : ℕ) → IsBeside (TokenKind (fresh p u))
  no_parent u = λ parent e. absurd (none-some parent e)

  pub sound_first : 1 ≤ length p.sizes → IsSound p (first_state p)
  sound_first some =
      let made : View = TokenKind (new_token (acquaintance_of p 0)) in
      let reaches : ReachesNeighbours made (as_kind TokenKind (root_looks p)) =
      subst (λ (z : Stepped View). ReachesNeighbours made z) (start_is p 0) (parcels_go_to_neighbours.started made (λ parent e. absurd (none-some parent e))) in
      let before : Serial = record { views = fresh p; flight = None; tokens = 0; dones = 0 } in
      stepped_sound before 0 0 0 (root_looks p) (λ u. record { lasts = refl; beside = no_parent u }) (omega (arith, some))
      (passed_on (open_view p 0 [] [] None) (next_child (open_view p 0 [] [] None))) (neighbours p 0) refl reaches.beside reaches.receivers
