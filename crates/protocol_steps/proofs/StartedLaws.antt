-- An agent that has started stays so in each step, and what it knows of the problem stays the same.
use Rattle.std.proofs.Common.{◌≡◌, ℕ, ◌==◌, Bool, true, cond, ◌&&◌, List, [], ◌∷◌, ◌++◌, nat_lt, if◌then◌else◌, Option, Some, None, refl, sym, ap, ◌∙◌}
use Rattle.std.specs.List.{fold, position}
use Rattle.std.proofs.lemmas.Bool.{cond_both}
use Rattle.dcop_base.specs.Table.{CostTable}
use Rattle.dcop_base.specs.declared.knowledge.Private.{Private}
use Rattle.adopt_context.specs.Context.{Context, value_in, put, is_value, compatible}
use Rattle.adopt_context.specs.Bounds.{entry_at}
use Rattle.protocol_steps.specs.declared.message.Message.{Message}
use Rattle.protocol_steps.specs.declared.message.Message.TheVariants.{Token, Done, Util, ValueAll, Value, Cost, Threshold, Terminate}
use Rattle.protocol_steps.specs.Agent.{Stepped, quiet, next_letter, last_of}
use Rattle.protocol_steps.specs.Token.{TokenView, next_child}
use Rattle.protocol_steps.specs.TokenStep.{pass_on, look, open_with, takes_token, takes_done, token_message}
use Rattle.protocol_steps.specs.Dpop.{DpopView, util_table}
use Rattle.protocol_steps.specs.DpopStep.{dpop_message, with_table, take_util, takes_util, takes_values}
use Rattle.protocol_steps.specs.DpopJoin.{can_join, join, decide, send_up}
use Rattle.protocol_steps.specs.Adopt.{AdoptView}
use Rattle.protocol_steps.specs.AdoptBounds.{restore, at_context, best_lower, best_upper, lower_of, upper_bound}
use Rattle.protocol_steps.specs.AdoptMessage.{adopt_message, takes_value, takes_from_parent, take_threshold, take_end}
use Rattle.protocol_steps.specs.AdoptCost.{may_store, take_cost, stored, learn, learned, with_entry, without}
use Rattle.adopt_context.specs.Merge.{merged}
use Rattle.protocol_steps.specs.AdoptRange.{fits}
use Rattle.protocol_steps.specs.AdoptStep.{closed, choose, allotted, may_end}
use Rattle.protocol_steps.specs.View.{View, Origin, OfToken, OfDpop, OfAdopt, TokenKind, DpopKind, AdoptKind, made_of, private_of, started_of}
use Rattle.protocol_steps.specs.Step.{start_of, step_of}
use Rattle.protocol_steps.proofs.StepLaws.{origins_stay}

module _ {V : Type 0} (of : V → Bool) (handle : V → ℕ → Message → Stepped V) where
  each_keeps : ((v : V) (j : ℕ) (m : Message) → of (handle v j m).view ≡ of v) → (s : Stepped V) (ls : List (ℕ × Message)) → of (fold (next_letter handle) s ls).view ≡ of s.view
  each_keeps keeps s [] = refl
  each_keeps keeps s (l ∷ ls) = each_keeps keeps (next_letter handle s l) ls ∙ keeps s.view l.0 l.1

module _ {A : Type 0} (of : A → Bool) where
  either : (b : Bool) (x y : A) (z : Bool) → of x ≡ z → of y ≡ z → of (cond b x y) ≡ z
  either b x y z p q = cond_both b x y (λ w. of w ≡ z) (λ _. p) (λ _. q)

-- whether an agent of each kind has started, after a step and before
abbrev by_token : Stepped TokenView → Bool
by_token s = s.view.phase.started

abbrev by_dpop : Stepped DpopView → Bool
by_dpop s = s.view.phase.started

abbrev by_adopt : AdoptView → Bool
by_adopt v = v.phase.started

passed_on : (v : TokenView) (o : Option ℕ) → by_token (pass_on v o) ≡ v.phase.started
passed_on v (Some child) = refl
passed_on v None = refl

token_keeps : (v : TokenView) (j : ℕ) (m : Message) → by_token (token_message v j m) ≡ v.phase.started
token_keeps v j (Token path) = either by_token (takes_token v j path) (open_with v path) (quiet v) v.phase.started (passed_on (record v { opened = true; path = path }) (next_child (record v { opened = true; path = path }))) refl
token_keeps v j (Done visited) = either by_token (takes_done v j visited) (look (record v { kept = v.kept ++ (visited ∷ []) })) (quiet v) v.phase.started (passed_on (record v { kept = v.kept ++ (visited ∷ []) }) (next_child (record v { kept = v.kept ++ (visited ∷ []) }))) refl
token_keeps v j (Util scope cells) = refl
token_keeps v j (ValueAll values) = refl
token_keeps v j (Value d) = refl
token_keeps v j (Cost c l u) = refl
token_keeps v j (Threshold t c) = refl
token_keeps v j (Terminate c) = refl

abbrev choose_lower : AdoptView → AdoptView
choose_lower v = if nat_lt v.threshold (lower_of v v.value) then record v { value = best_lower v } else v

abbrev started_token : TokenView → TokenView
started_token v = record v { phase = record v.phase { started = true } }

abbrev opened_root : TokenView → TokenView
opened_root v = record (started_token v) { opened = true; path = [] }

sent_any : (v : DpopView) (t : CostTable) (o : Option ℕ) → by_dpop (send_up v t o) ≡ v.phase.started
sent_any v t (Some parent) = refl
sent_any v t None = refl

dpop_joined : (v : DpopView) → by_dpop (join v) ≡ v.phase.started
dpop_joined v = cond_both (can_join v) (send_up (record v { made = Some (util_table v) }) (util_table v) (last_of v.place.path)) (quiet v) (λ s. by_dpop s ≡ v.phase.started)
    (λ _. sent_any (record v { made = Some (util_table v) }) (util_table v) (last_of v.place.path)) (λ _. refl)

util_taken : (v : DpopView) (o : Option ℕ) (scope cells : List ℕ) → by_dpop (take_util v o scope cells) ≡ v.phase.started
util_taken v None scope cells = refl
util_taken v (Some k) scope cells = either by_dpop (takes_util v k scope cells) (join (with_table v k scope cells)) (quiet v) v.phase.started (dpop_joined (with_table v k scope cells)) refl

dpop_keeps : (v : DpopView) (j : ℕ) (m : Message) → by_dpop (dpop_message v j m) ≡ v.phase.started
dpop_keeps v j (Util scope cells) = util_taken v (position (λ c. c == j) v.place.children) scope cells
dpop_keeps v j (ValueAll values) = either by_dpop (takes_values v j values) (decide v values) (quiet v) v.phase.started refl refl
dpop_keeps v j (Token path) = refl
dpop_keeps v j (Done visited) = refl
dpop_keeps v j (Value d) = refl
dpop_keeps v j (Cost c l u) = refl
dpop_keeps v j (Threshold t c) = refl
dpop_keeps v j (Terminate c) = refl

threshold_kept : (v : AdoptView) (t : ℕ) (c : Context) → by_adopt (take_threshold v t c) ≡ by_adopt v
threshold_kept v t c = either by_adopt (compatible c v.known) (restore (record v { last = t; threshold = t })) (record v { last = t }) (by_adopt v) refl refl

stored_kept : (v : AdoptView) (d k : ℕ) (r : Context) (l : ℕ) (u : Option ℕ) → by_adopt (stored v d k r l u) ≡ by_adopt v
stored_kept v d k r l u = either by_adopt (may_store v d k r l u) (restore (with_entry v d k (merged (entry_at v.rows d k) r l u))) v (by_adopt v) refl refl

learned_kept : (v : AdoptView) (r : Context) → by_adopt (learn v r) ≡ by_adopt v
learned_kept v r = either by_adopt v.told v (restore (at_context v (fold (learned v) v.known r))) (by_adopt v) refl refl

cost_kept : (v : AdoptView) (k d : Option ℕ) (r : Context) (l : ℕ) (u : Option ℕ) → by_adopt (take_cost v k d r l u) ≡ by_adopt v
cost_kept v None d r l u = refl
cost_kept v (Some k) None r l u = refl
cost_kept v (Some k) (Some d) r l u =
    either by_adopt (nat_lt d v.own.size && fits v r) (stored (learn v r) d k r l u) v (by_adopt v) (stored_kept (learn v r) d k r l u ∙ learned_kept v r) refl

adopt_keeps : (v : AdoptView) (j : ℕ) (m : Message) → by_adopt (adopt_message v j m) ≡ by_adopt v
adopt_keeps v j (Value d) = either by_adopt (takes_value v j d) (restore (at_context v (put v.known j d))) v (by_adopt v) refl refl
adopt_keeps v j (Threshold t c) = either by_adopt (takes_from_parent v j c) (take_threshold v t c) v (by_adopt v) (threshold_kept v t c) refl
adopt_keeps v j (Cost c l u) = cost_kept v (position (λ child. child == j) v.place.children) (value_in c v.own.me) (without v.own.me c) l u
adopt_keeps v j (Terminate c) = either by_adopt (takes_from_parent v j c) (take_end v c) v (by_adopt v) refl refl
adopt_keeps v j (Token path) = refl
adopt_keeps v j (Done visited) = refl
adopt_keeps v j (Util scope cells) = refl
adopt_keeps v j (ValueAll values) = refl

adopt_batch : (v : AdoptView) (ls : List (ℕ × Message)) → by_adopt (fold (λ w l. adopt_message w l.0 l.1) v ls) ≡ by_adopt v
adopt_batch v [] = refl
adopt_batch v (l ∷ ls) = adopt_batch (adopt_message v l.0 l.1) ls ∙ adopt_keeps v l.0 l.1

chosen_kept : (v : AdoptView) → by_adopt (choose v) ≡ by_adopt v
chosen_kept v = either by_adopt (is_value (upper_bound v) v.threshold) (record v { value = best_upper v }) (choose_lower v) (by_adopt v) refl
    (either by_adopt (nat_lt v.threshold (lower_of v v.value)) (record v { value = best_lower v }) v (by_adopt v) refl refl)

closed_kept : (v : AdoptView) → by_adopt (closed v) ≡ by_adopt v
closed_kept v =
    either by_adopt (may_end (allotted (choose (restore v)))) (record (allotted (choose (restore v))) { phase = record (allotted (choose (restore v))).phase { ended = true } }) (allotted (choose (restore v))) (by_adopt (choose (restore v))) refl refl
    ∙ chosen_kept (restore v)

-- after its start an agent has started
pub start_starts : (v : View) → started_of (start_of v).view ≡ true
unfolding start_of
start_starts (TokenKind v) = either by_token (v.own.me == 0) (open_with (started_token v) []) (quiet (started_token v)) true (passed_on (opened_root v) (next_child (opened_root v))) refl
start_starts (DpopKind v) = dpop_joined (record v { phase = record v.phase { started = true } })
start_starts (AdoptKind v) = closed_kept (record v { value = best_lower v; phase = record v.phase { started = true } })

-- a step changes nothing of that
pub step_started : (v : View) (ls : List (ℕ × Message)) → started_of (step_of v ls).view ≡ started_of v
unfolding step_of
step_started (TokenKind v) ls = each_keeps (λ w. w.phase.started) token_message token_keeps (quiet v) ls
step_started (DpopKind v) ls = each_keeps (λ w. w.phase.started) dpop_message dpop_keeps (quiet v) ls
step_started (AdoptKind v) ls = closed_kept (fold (λ w l. adopt_message w l.0 l.1) v ls) ∙ adopt_batch v ls

-- what an agent knows of the problem is of what it was made from
abbrev own_of : Origin → Private
own_of (OfToken own) = own
own_of (OfDpop own place) = own
own_of (OfAdopt own place error) = own

own_is : (v : View) → private_of v ≡ own_of (made_of v)
own_is (TokenKind v) = refl
own_is (DpopKind v) = refl
own_is (AdoptKind v) = refl

pub start_private : (v : View) → private_of (start_of v).view ≡ private_of v
start_private v = own_is (start_of v).view ∙ ap own_of (origins_stay.started v) ∙ sym (own_is v)

pub step_private : (v : View) (ls : List (ℕ × Message)) → private_of (step_of v ls).view ≡ private_of v
step_private v ls = own_is (step_of v ls).view ∙ ap own_of (origins_stay.stepped v ls) ∙ sym (own_is v)
