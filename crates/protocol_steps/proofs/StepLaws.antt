-- What a step keeps: what the agent was made from.
use Rattle.std.proofs.Common.{◌≡◌, ℕ, ◌==◌, Bool, true, cond, ◌&&◌, List, [], ◌∷◌, ◌++◌, nat_lt, if◌then◌else◌, Option, Some, None, refl, ◌∙◌}
use Rattle.std.specs.List.{fold, position}
use Rattle.std.proofs.lemmas.Bool.{cond_both}
use Rattle.dcop_base.specs.Table.{CostTable}
use Rattle.adopt_context.specs.Context.{Context, value_in, put, is_value, compatible}
use Rattle.adopt_context.specs.Bounds.{entry_at}
use Rattle.protocol_steps.specs.declared.message.Message.{Message}
use Rattle.protocol_steps.specs.declared.message.Message.TheVariants.{Token, Done, Util, ValueAll, Value, Cost, Threshold, Terminate}
use Rattle.protocol_steps.specs.Agent.{Stepped, quiet, next_letter, last_of}
use Rattle.protocol_steps.specs.Token.{TokenView, next_child}
use Rattle.protocol_steps.specs.TokenStep.{pass_on, look, open_with, takes_token, takes_done, token_message}
use Rattle.protocol_steps.specs.Dpop.{DpopView, util_table}
use Rattle.protocol_steps.specs.DpopStep.{dpop_message, with_table, take_util, takes_util, takes_values}
use Rattle.protocol_steps.specs.DpopJoin.{can_join, join, decide, send_up}
use Rattle.protocol_steps.specs.Adopt.{AdoptView}
use Rattle.protocol_steps.specs.AdoptBounds.{restore, at_context, best_lower, best_upper, lower_of, upper_bound}
use Rattle.protocol_steps.specs.AdoptMessage.{adopt_message, takes_value, takes_from_parent, take_threshold, take_end}
use Rattle.protocol_steps.specs.AdoptCost.{may_store, take_cost, stored, learn, learned, with_entry, without}
use Rattle.adopt_context.specs.Merge.{merged}
use Rattle.protocol_steps.specs.AdoptRange.{fits}
use Rattle.protocol_steps.specs.AdoptStep.{closed, choose, allotted, may_end}
use Rattle.protocol_steps.specs.View.{View, Origin, OfToken, OfDpop, OfAdopt, TokenKind, DpopKind, AdoptKind, made_of}
use Rattle.protocol_steps.specs.Step.{start_of, step_of}
use Rattle.protocol_steps.specs.Laws.{OriginsStay}

module _ {V : Type 0} {X : Type 0} (of : V → X) (handle : V → ℕ → Message → Stepped V) where
  -- what each message keeps, a batch keeps
  each_keeps : ((v : V) (j : ℕ) (m : Message) → of (handle v j m).view ≡ of v) → (s : Stepped V) (ls : List (ℕ × Message)) → of (fold (next_letter handle) s ls).view ≡ of s.view
  each_keeps keeps s [] = refl
  each_keeps keeps s (l ∷ ls) = each_keeps keeps (next_letter handle s l) ls ∙ keeps s.view l.0 l.1

module _ {A : Type 0} {X : Type 0} (of : A → X) where
  -- one of two, which both keep it
  either : (b : Bool) (x y : A) (z : X) → of x ≡ z → of y ≡ z → of (cond b x y) ≡ z
  either b x y z p q = cond_both b x y (λ w. of w ≡ z) (λ _. p) (λ _. q)

-- the origin of a step of each kind
abbrev token_of : Stepped TokenView → Origin
token_of s = OfToken s.view.own

abbrev dpop_of : Stepped DpopView → Origin
dpop_of s = OfDpop s.view.own s.view.place

abbrev pub adopt_of : AdoptView → Origin
adopt_of v = OfAdopt v.own v.place v.error

passed_on : (v : TokenView) (o : Option ℕ) → token_of (pass_on v o) ≡ OfToken v.own
passed_on v (Some child) = refl
passed_on v None = refl

token_keeps : (v : TokenView) (j : ℕ) (m : Message) → token_of (token_message v j m) ≡ OfToken v.own
token_keeps v j (Token path) = either token_of (takes_token v j path) (open_with v path) (quiet v) (OfToken v.own) (passed_on (record v { opened = true; path = path }) (next_child (record v { opened = true; path = path }))) refl
token_keeps v j (Done visited) = either token_of (takes_done v j visited) (look (record v { kept = v.kept ++ (visited ∷ []) })) (quiet v) (OfToken v.own) (passed_on (record v { kept = v.kept ++ (visited ∷ []) }) (next_child (record v { kept = v.kept ++ (visited ∷ []) }))) refl
token_keeps v j (Util scope cells) = refl
token_keeps v j (ValueAll values) = refl
token_keeps v j (Value d) = refl
token_keeps v j (Cost c l u) = refl
token_keeps v j (Threshold t c) = refl
token_keeps v j (Terminate c) = refl

-- the second choice of a value, and two views of a token agent
abbrev choose_lower : AdoptView → AdoptView
choose_lower v = if nat_lt v.threshold (lower_of v v.value) then record v { value = best_lower v } else v

abbrev started_token : TokenView → TokenView
started_token v = record v { phase = record v.phase { started = true } }

abbrev opened_root : TokenView → TokenView
opened_root v = record (started_token v) { opened = true; path = [] }

sent_any : (v : DpopView) (t : CostTable) (o : Option ℕ) → dpop_of (send_up v t o) ≡ OfDpop v.own v.place
sent_any v t (Some parent) = refl
sent_any v t None = refl

dpop_joined : (v : DpopView) → dpop_of (join v) ≡ OfDpop v.own v.place
dpop_joined v = cond_both (can_join v) (send_up (record v { made = Some (util_table v) }) (util_table v) (last_of v.place.path)) (quiet v) (λ s. dpop_of s ≡ OfDpop v.own v.place)
    (λ _. sent_any (record v { made = Some (util_table v) }) (util_table v) (last_of v.place.path)) (λ _. refl)

util_taken : (v : DpopView) (o : Option ℕ) (scope cells : List ℕ) → dpop_of (take_util v o scope cells) ≡ OfDpop v.own v.place
util_taken v None scope cells = refl
util_taken v (Some k) scope cells = either dpop_of (takes_util v k scope cells) (join (with_table v k scope cells)) (quiet v) (OfDpop v.own v.place) (dpop_joined (with_table v k scope cells)) refl

dpop_keeps : (v : DpopView) (j : ℕ) (m : Message) → dpop_of (dpop_message v j m) ≡ OfDpop v.own v.place
dpop_keeps v j (Util scope cells) = util_taken v (position (λ c. c == j) v.place.children) scope cells
dpop_keeps v j (ValueAll values) = either dpop_of (takes_values v j values) (decide v values) (quiet v) (OfDpop v.own v.place) refl refl
dpop_keeps v j (Token path) = refl
dpop_keeps v j (Done visited) = refl
dpop_keeps v j (Value d) = refl
dpop_keeps v j (Cost c l u) = refl
dpop_keeps v j (Threshold t c) = refl
dpop_keeps v j (Terminate c) = refl

threshold_kept : (v : AdoptView) (t : ℕ) (c : Context) → adopt_of (take_threshold v t c) ≡ adopt_of v
threshold_kept v t c = either adopt_of (compatible c v.known) (restore (record v { last = t; threshold = t })) (record v { last = t }) (adopt_of v) refl refl

stored_kept : (v : AdoptView) (d k : ℕ) (r : Context) (l : ℕ) (u : Option ℕ) → adopt_of (stored v d k r l u) ≡ adopt_of v
stored_kept v d k r l u = either adopt_of (may_store v d k r l u) (restore (with_entry v d k (merged (entry_at v.rows d k) r l u))) v (adopt_of v) refl refl

learned_kept : (v : AdoptView) (r : Context) → adopt_of (learn v r) ≡ adopt_of v
learned_kept v r = either adopt_of v.told v (restore (at_context v (fold (learned v) v.known r))) (adopt_of v) refl refl

cost_kept : (v : AdoptView) (k d : Option ℕ) (r : Context) (l : ℕ) (u : Option ℕ) → adopt_of (take_cost v k d r l u) ≡ adopt_of v
cost_kept v None d r l u = refl
cost_kept v (Some k) None r l u = refl
cost_kept v (Some k) (Some d) r l u =
    either adopt_of (nat_lt d v.own.size && fits v r) (stored (learn v r) d k r l u) v (adopt_of v) (stored_kept (learn v r) d k r l u ∙ learned_kept v r) refl

adopt_keeps : (v : AdoptView) (j : ℕ) (m : Message) → adopt_of (adopt_message v j m) ≡ adopt_of v
adopt_keeps v j (Value d) = either adopt_of (takes_value v j d) (restore (at_context v (put v.known j d))) v (adopt_of v) refl refl
adopt_keeps v j (Threshold t c) = either adopt_of (takes_from_parent v j c) (take_threshold v t c) v (adopt_of v) (threshold_kept v t c) refl
adopt_keeps v j (Cost c l u) = cost_kept v (position (λ child. child == j) v.place.children) (value_in c v.own.me) (without v.own.me c) l u
adopt_keeps v j (Terminate c) = either adopt_of (takes_from_parent v j c) (take_end v c) v (adopt_of v) refl refl
adopt_keeps v j (Token path) = refl
adopt_keeps v j (Done visited) = refl
adopt_keeps v j (Util scope cells) = refl
adopt_keeps v j (ValueAll values) = refl

pub adopt_batch : (v : AdoptView) (ls : List (ℕ × Message)) → adopt_of (fold (λ w l. adopt_message w l.0 l.1) v ls) ≡ adopt_of v
adopt_batch v [] = refl
adopt_batch v (l ∷ ls) = adopt_batch (adopt_message v l.0 l.1) ls ∙ adopt_keeps v l.0 l.1

chosen_kept : (v : AdoptView) → adopt_of (choose v) ≡ adopt_of v
chosen_kept v = either adopt_of (is_value (upper_bound v) v.threshold) (record v { value = best_upper v }) (choose_lower v) (adopt_of v) refl
    (either adopt_of (nat_lt v.threshold (lower_of v v.value)) (record v { value = best_lower v }) v (adopt_of v) refl refl)

pub closed_kept : (v : AdoptView) → adopt_of (closed v) ≡ adopt_of v
closed_kept v =
    either adopt_of (may_end (allotted (choose (restore v)))) (record (allotted (choose (restore v))) { phase = record (allotted (choose (restore v))).phase { ended = true } }) (allotted (choose (restore v))) (adopt_of (choose (restore v))) refl refl
    ∙ chosen_kept (restore v)

start_kept : (v : View) → made_of (start_of v).view ≡ made_of v
unfolding start_of
start_kept (TokenKind v) = either token_of (v.own.me == 0) (open_with (started_token v) []) (quiet (started_token v)) (OfToken v.own) (passed_on (opened_root v) (next_child (opened_root v))) refl
start_kept (DpopKind v) = dpop_joined (record v { phase = record v.phase { started = true } })
start_kept (AdoptKind v) = closed_kept (record v { value = best_lower v; phase = record v.phase { started = true } })

step_kept : (v : View) (ls : List (ℕ × Message)) → made_of (step_of v ls).view ≡ made_of v
unfolding step_of
step_kept (TokenKind v) ls = each_keeps (λ w. OfToken w.own) token_message token_keeps (quiet v) ls
step_kept (DpopKind v) ls = each_keeps (λ w. OfDpop w.own w.place) dpop_message dpop_keeps (quiet v) ls
step_kept (AdoptKind v) ls = closed_kept (fold (λ w l. adopt_message w l.0 l.1) v ls) ∙ adopt_batch v ls

pub origins_stay : OriginsStay
origins_stay = record { started = start_kept; stepped = step_kept }
