-- Each parcel of a start and of a step goes to a neighbour.
use Rattle.std.proofs.Common.{◌≡◌, ℕ, ◌==◌, Bool, true, false, cond, not, ◌&&◌, List, [], ◌∷◌, ◌++◌, map, Option, Some, None, refl, sym, ap, subst, ◌∙◌, inl, inr, arith}
use Rattle.std.specs.List.{All, Contains, fold, find, flat_map, zip, position}
use Rattle.std.proofs.lemmas.Bool.{cases_Bool, cond_both, eqb-true, false≢true}
use Rattle.std.proofs.lemmas.Option.{none-some, same_Some}
use Rattle.std.proofs.lemmas.List.Elements.{All-nil, All-cons, All-head, All-tail, All-append, All-contains_itself, Contains-get_or, Contains-append_right}
use Rattle.dcop_base.specs.Table.{CostTable}
use Rattle.adopt_context.specs.Context.{Context, is_value}
use Rattle.protocol_steps.specs.declared.message.Message.{Message}
use Rattle.protocol_steps.specs.declared.message.Message.TheVariants.{Token, Done, Util, ValueAll, Value, Cost, Threshold, Terminate}
use Rattle.protocol_steps.specs.Agent.{Stepped, quiet, next_letter, last_of}
use Rattle.dcop_base.specs.Values.{with_own}
use Rattle.protocol_steps.specs.Values.{context_of, valued}
use Rattle.protocol_steps.specs.Token.{TokenView, next_child, is_visited}
use Rattle.protocol_steps.specs.TokenStep.{token_start, token_step, done_for, pass_on, look, open_with, takes_token, takes_done, token_message}
use Rattle.protocol_steps.specs.Dpop.{DpopView, util_table, there, best_value}
use Rattle.protocol_steps.specs.DpopStep.{dpop_message, dpop_start, dpop_step, with_table, take_util, takes_util, takes_values}
use Rattle.protocol_steps.specs.DpopJoin.{can_join, join, decide, send_up}
use Rattle.protocol_steps.specs.Adopt.{AdoptView}
use Rattle.protocol_steps.specs.AdoptBounds.{best_lower}
use Rattle.protocol_steps.specs.AdoptMessage.{adopt_message}
use Rattle.protocol_steps.specs.Machine.{IsToNeighbour}
use Rattle.protocol_steps.proofs.StepLaws.{closed_kept, adopt_batch}
use Rattle.protocol_steps.specs.AdoptStep.{adopt_sends, messages_for, closed}
use Rattle.protocol_steps.specs.View.{View, Origin, OfToken, OfDpop, OfAdopt, TokenKind, DpopKind, AdoptKind}
use Rattle.protocol_steps.specs.Step.{as_kind, start_of, step_of}
use Rattle.protocol_steps.specs.Laws.{IsParentBeside, IsBeside, ReachesNeighbours, ParcelsGoToNeighbours}

-- a parcel for one of these agents
abbrev pub IsFor : List ℕ → ℕ × Message → Type 0
IsFor near p = Contains near p.0

one_for : (near : List ℕ) (j : ℕ) (m : Message) → Contains near j → All (IsFor near) ((j, m) ∷ [])
one_for near j m h = All-cons (IsFor near) (j, m) [] h (All-nil (IsFor near))

found_in : (test : ℕ → Bool) (xs : List ℕ) (y : ℕ) → find test xs ≡ Some y → Contains xs y
found_in test [] y h = absurd (none-some y h)
found_in test (x ∷ xs) y h = elim (cases_Bool (test x)) [
  | inl passes ↦
      let same : Some x ≡ Some y = subst (λ (b : Bool). cond b (Some x) (find test xs) ≡ Some y) passes h in
      subst (λ (z : ℕ). Contains (x ∷ xs) z) (same_Some x y same) (Contains-get_or (x ∷ xs) 0 x (omega arith))
  | inr fails ↦ Contains-append_right (x ∷ []) xs y (found_in test xs y (subst (λ (b : Bool). cond b (Some x) (find test xs) ≡ Some y) fails h))
]

is_there : (o : Option ℕ) (a : ℕ) → is_value o a ≡ true → o ≡ Some a
is_there None a h = absurd (false≢true h)
is_there (Some b) a h = ap (λ (x : ℕ). Some x) (eqb-true b a h)

-- what each message keeps and where it sends, a batch does
module _ {V : Type 0} (near : List ℕ) (Good : V → Type 0) (handle : V → ℕ → Message → Stepped V) where
  abbrev Reaches : Stepped V → Type 0
  Reaches s = Good s.view × All (IsFor near) s.sends

  each_reaches : ((v : V) (j : ℕ) (m : Message) → Good v → Contains near j → Reaches (handle v j m))
      → (s : Stepped V) (ls : List (ℕ × Message)) → Reaches s → All (IsFor near) ls → Reaches (fold (next_letter handle) s ls)
  each_reaches one s [] good letters = good
  each_reaches one s (l ∷ ls) good letters =
      let now = one s.view l.0 l.1 good.0 (All-head (IsFor near) l ls letters) in
      each_reaches one (next_letter handle s l) ls (now.0, All-append (IsFor near) s.sends (handle s.view l.0 l.1).sends good.1 now.1) (All-tail (IsFor near) l ls letters)

-- a token agent among these neighbours, beside its parent
abbrev TokenGood : List ℕ → TokenView → Type 0
TokenGood near v = (v.own.neighbours ≡ near) × IsParentBeside near v.path

abbrev TokenReaches : List ℕ → Stepped TokenView → Type 0
TokenReaches near s = TokenGood near s.view × All (IsFor near) s.sends

done_sent : (near path visited : List ℕ) (o : Option ℕ) → last_of path ≡ o → IsParentBeside near path → All (IsFor near) (done_for o visited)
done_sent near path visited None e h = All-nil (IsFor near)
done_sent near path visited (Some parent) e h = one_for near parent (Done visited) (h parent e)

passed : (near : List ℕ) (v : TokenView) (o : Option ℕ) → next_child v ≡ o → TokenGood near v → TokenReaches near (pass_on v o)
passed near v (Some child) e good =
    (good, one_for near child (Token (v.path ++ (v.own.me ∷ []))) (subst (λ (xs : List ℕ). Contains xs child) good.0 (found_in (λ u. not (is_visited v u)) v.own.neighbours child e)))
passed near v None e good = (good, done_sent near v.path _ (last_of v.path) refl good.1)

looked : (near : List ℕ) (v : TokenView) → TokenGood near v → TokenReaches near (look v)
looked near v good = passed near v (next_child v) refl good

quiet_token : (near : List ℕ) (v : TokenView) → TokenGood near v → TokenReaches near (quiet v)
quiet_token near v good = (good, All-nil (IsFor near))

parent_taken : (near : List ℕ) (v : TokenView) (j : ℕ) (path : List ℕ) → Contains near j → is_value (last_of path) j ≡ true → IsParentBeside near path
parent_taken near v j path from h = λ parent e. subst (λ (x : ℕ). Contains near x) (same_Some j parent (sym (is_there (last_of path) j h) ∙ e)) from

-- the first two tests of five
second_of : (a b c d e : Bool) → (a && b && c && d && e) ≡ true → b ≡ true
second_of true true c d e h = refl
second_of true false c d e h = h
second_of false b c d e h = absurd (false≢true h)

token_one : (near : List ℕ) (v : TokenView) (j : ℕ) (m : Message) → TokenGood near v → Contains near j → TokenReaches near (token_message v j m)
token_one near v j (Token path) good from =
    cond_both (takes_token v j path) (open_with v path) (quiet v) (TokenReaches near)
    (λ h. looked near (record v { opened = true; path = path }) (good.0, parent_taken near v j path from (second_of _ _ _ _ _ h)))
    (λ _. quiet_token near v good)
token_one near v j (Done visited) good from =
    cond_both (takes_done v j visited) (look (record v { kept = v.kept ++ (visited ∷ []) })) (quiet v) (TokenReaches near)
    (λ _. looked near (record v { kept = v.kept ++ (visited ∷ []) }) good) (λ _. quiet_token near v good)
token_one near v j (Util scope cells) good from = quiet_token near v good
token_one near v j (ValueAll values) good from = quiet_token near v good
token_one near v j (Value d) good from = quiet_token near v good
token_one near v j (Cost c l u) good from = quiet_token near v good
token_one near v j (Threshold t c) good from = quiet_token near v good
token_one near v j (Terminate c) good from = quiet_token near v good

-- a DPOP agent among these neighbours, beside its parent and its children
abbrev DpopGood : List ℕ → DpopView → Type 0
DpopGood near v = (v.own.neighbours ≡ near) × IsParentBeside near v.place.path × (All (Contains near) v.place.children)

abbrev DpopReaches : List ℕ → Stepped DpopView → Type 0
DpopReaches near s = DpopGood near s.view × All (IsFor near) s.sends

quiet_dpop : (near : List ℕ) (v : DpopView) → DpopGood near v → DpopReaches near (quiet v)
quiet_dpop near v good = (good, All-nil (IsFor near))

-- what goes to the child of a table that is there
abbrev to_child : (ℕ → ℕ) → ℕ × Option CostTable → List (ℕ × Message)
to_child value kept = map (λ t. (kept.0, ValueAll (context_of t.scope value))) (there kept.1)

child_for : (near : List ℕ) (value : ℕ → ℕ) (c : ℕ) (o : Option CostTable) → Contains near c → All (IsFor near) (to_child value (c, o))
child_for near value c None h = All-nil (IsFor near)
child_for near value c (Some t) h = one_for near c (ValueAll (context_of t.scope value)) h

values_sent : (near : List ℕ) (value : ℕ → ℕ) (cs : List ℕ) (kept : List (Option CostTable)) → All (Contains near) cs → All (IsFor near) (flat_map (to_child value) (zip cs kept))
values_sent near value [] kept h = All-nil (IsFor near)
values_sent near value (c ∷ cs) [] h = All-nil (IsFor near)
values_sent near value (c ∷ cs) (o ∷ os) h =
    All-append (IsFor near) (to_child value (c, o)) (flat_map (to_child value) (zip cs os))
    (child_for near value c o (All-head (Contains near) c cs h)) (values_sent near value cs os (All-tail (Contains near) c cs h))

decided : (near : List ℕ) (v : DpopView) (c : Context) → DpopGood near v → DpopReaches near (decide v c)
decided near v c good = (good, values_sent near (with_own v.own.me (best_value v (valued c)) (valued c)) v.place.children v.kept good.2)

up_sent : (near : List ℕ) (v : DpopView) (t : CostTable) (o : Option ℕ) → last_of v.place.path ≡ o → DpopGood near v → DpopReaches near (send_up v t o)
up_sent near v t (Some parent) e good = (good, one_for near parent (Util t.scope t.cells) (good.1 parent e))
up_sent near v t None e good = decided near v [] good

joined : (near : List ℕ) (v : DpopView) → DpopGood near v → DpopReaches near (join v)
joined near v good =
    cond_both (can_join v) (send_up (record v { made = Some (util_table v) }) (util_table v) (last_of v.place.path)) (quiet v) (DpopReaches near)
    (λ _. up_sent near (record v { made = Some (util_table v) }) (util_table v) (last_of v.place.path) refl good) (λ _. quiet_dpop near v good)

util_one : (near : List ℕ) (v : DpopView) (o : Option ℕ) (scope cells : List ℕ) → DpopGood near v → DpopReaches near (take_util v o scope cells)
util_one near v None scope cells good = quiet_dpop near v good
util_one near v (Some k) scope cells good =
    cond_both (takes_util v k scope cells) (join (with_table v k scope cells)) (quiet v) (DpopReaches near)
    (λ _. joined near (with_table v k scope cells) good) (λ _. quiet_dpop near v good)

dpop_one : (near : List ℕ) (v : DpopView) (j : ℕ) (m : Message) → DpopGood near v → Contains near j → DpopReaches near (dpop_message v j m)
dpop_one near v j (Util scope cells) good from = util_one near v (position (λ c. c == j) v.place.children) scope cells good
dpop_one near v j (ValueAll values) good from =
    cond_both (takes_values v j values) (decide v values) (quiet v) (DpopReaches near) (λ _. decided near v values good) (λ _. quiet_dpop near v good)
dpop_one near v j (Token path) good from = quiet_dpop near v good
dpop_one near v j (Done visited) good from = quiet_dpop near v good
dpop_one near v j (Value d) good from = quiet_dpop near v good
dpop_one near v j (Cost c l u) good from = quiet_dpop near v good
dpop_one near v j (Threshold t c) good from = quiet_dpop near v good
dpop_one near v j (Terminate c) good from = quiet_dpop near v good

-- the messages that one agent gets
all_for : (near : List ℕ) (j : ℕ) (ms : List Message) → Contains near j → All (IsFor near) (map (λ m. (j, m)) ms)
all_for near j [] h = All-nil (IsFor near)
all_for near j (m ∷ ms) h = All-cons (IsFor near) (j, m) (map (λ m. (j, m)) ms) h (all_for near j ms h)

each_for : (near : List ℕ) (messages : ℕ → List Message) (js : List ℕ) → All (Contains near) js → All (IsFor near) (flat_map (λ j. map (λ m. (j, m)) (messages j)) js)
each_for near messages [] h = All-nil (IsFor near)
each_for near messages (j ∷ js) h =
    All-append (IsFor near) (map (λ m. (j, m)) (messages j)) (flat_map (λ j. map (λ m. (j, m)) (messages j)) js)
    (all_for near j (messages j) (All-head (Contains near) j js h)) (each_for near messages js (All-tail (Contains near) j js h))

adopt_for : (v : AdoptView) (near : List ℕ) → v.own.neighbours ≡ near → All (IsFor near) (adopt_sends v)
adopt_for v near e = each_for near (messages_for v) v.own.neighbours (subst (λ (xs : List ℕ). All (Contains near) xs) (sym e) (All-contains_itself near))

-- the neighbours of an agent made from this
abbrev near_of : Origin → List ℕ
near_of (OfToken own) = own.neighbours
near_of (OfDpop own place) = own.neighbours
near_of (OfAdopt own place error) = own.neighbours

token_reached : (v : TokenView) (s : Stepped TokenView) → TokenReaches v.own.neighbours s → ReachesNeighbours (TokenKind v) (as_kind TokenKind s)
token_reached v s r = record { beside = subst (λ (xs : List ℕ). IsParentBeside xs s.view.path) (sym r.0.0) r.0.1; receivers = r.1 }

dpop_reached : (v : DpopView) (s : Stepped DpopView) → DpopReaches v.own.neighbours s → ReachesNeighbours (DpopKind v) (as_kind DpopKind s)
dpop_reached v s r = record {
  beside = (subst (λ (xs : List ℕ). IsParentBeside xs s.view.place.path) (sym r.0.0) r.0.1, subst (λ (xs : List ℕ). All (Contains xs) s.view.place.children) (sym r.0.0) r.0.2);
  receivers = r.1;
}

root_beside : (near : List ℕ) → IsParentBeside near []
root_beside near = λ parent e. absurd (none-some parent e)

token_started : (v : TokenView) → IsParentBeside v.own.neighbours v.path → TokenReaches v.own.neighbours (token_start v)
token_started v beside =
    let started : TokenView = record v { phase = record v.phase { started = true } } in
    cond_both (v.own.me == 0) (open_with started []) (quiet started) (TokenReaches v.own.neighbours)
    (λ _. looked v.own.neighbours (record started { opened = true; path = [] }) (refl, root_beside v.own.neighbours))
    (λ _. quiet_token v.own.neighbours started (refl, beside))

started_reaches : (v : View) → IsBeside v → ReachesNeighbours v (start_of v)
unfolding start_of
started_reaches (TokenKind v) beside = token_reached v (token_start v) (token_started v beside)
started_reaches (DpopKind v) beside =
    dpop_reached v (dpop_start v) (joined v.own.neighbours (record v { phase = record v.phase { started = true } }) (refl, beside.0, beside.1))
started_reaches (AdoptKind v) beside =
    let w : AdoptView = record v { value = best_lower v; phase = record v.phase { started = true } } in
    record { beside = tt; receivers = adopt_for (closed w) v.own.neighbours (ap near_of (closed_kept w)) }

stepped_reaches : (v : View) (ls : List (ℕ × Message)) → IsBeside v → All (IsToNeighbour v) ls → ReachesNeighbours v (step_of v ls)
unfolding step_of
stepped_reaches (TokenKind v) ls beside letters =
    token_reached v (token_step v ls)
    (each_reaches v.own.neighbours (TokenGood v.own.neighbours) token_message (token_one v.own.neighbours) (quiet v) ls (quiet_token v.own.neighbours v (refl, beside)) letters)
stepped_reaches (DpopKind v) ls beside letters =
    dpop_reached v (dpop_step v ls)
    (each_reaches v.own.neighbours (DpopGood v.own.neighbours) dpop_message (dpop_one v.own.neighbours) (quiet v) ls (quiet_dpop v.own.neighbours v (refl, beside.0, beside.1)) letters)
stepped_reaches (AdoptKind v) ls beside letters =
    let w : AdoptView = fold (λ w l. adopt_message w l.0 l.1) v ls in
    record { beside = tt; receivers = adopt_for (closed w) v.own.neighbours (ap near_of (closed_kept w ∙ adopt_batch v ls)) }

pub parcels_go_to_neighbours : ParcelsGoToNeighbours
parcels_go_to_neighbours = record { started = started_reaches; stepped = stepped_reaches }
