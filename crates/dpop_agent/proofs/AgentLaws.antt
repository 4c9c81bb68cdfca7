-- How the parts of a DPOP agent's work make up its steps.
use Rattle.std.proofs.Common.{◌≡◌, ℕ, Bool, true, false, cond, ◌&&◌, nat_le, List, [], ◌++◌, Option, Some, None, is_some, refl, sym, ap, ap₂, subst, ◌∙◌}
use Rattle.std.specs.Borrow.{Bor}
use Rattle.std.specs.Option.{option_copied}
use Rattle.std.specs.List.{list_all}
use Rattle.std.proofs.lemmas.Bool.{and_parts, false≢true}
use Rattle.std.proofs.lemmas.List.{append-nil}
use Rattle.dcop_base.specs.Table.{CostTable}
use Rattle.dcop_base.specs.Values.{with_own}
use Rattle.dcop_base.specs.declared.knowledge.Private.{Private}
use Rattle.pseudotree.specs.declared.agent.Place.{Place}
use Rattle.adopt_context.specs.Context.{Context}
use Rattle.protocol_steps.specs.declared.message.Message.{Message}
use Rattle.protocol_steps.specs.Agent.{Phase, quiet, last_of}
use Rattle.protocol_steps.specs.Values.{valued}
use Rattle.protocol_steps.specs.Dpop.{DpopView, joined_cells_with, kept_scopes, best_value, util_table}
use Rattle.protocol_steps.specs.DpopJoin.{decide, send_up, can_join, join}
use Rattle.dpop_agent.specs.declared.stage.Stage.{Stage}
use Rattle.dpop_agent.specs.declared.stage.Stage.TheVariants.{Ended}
use Rattle.dpop_agent.specs.Stage.{phase_at, view_at, working}
use Rattle.dpop_agent.specs.Keeping.{keeping}
use Rattle.dcop_base.specs.Limits.{joined_limit}
use Rattle.dpop_agent.specs.Joint.{IsUtilWhereMay}
use Rattle.dpop_agent.specs.Sound.{IsSound}
use Rattle.dpop_agent.specs.Deed.{GivesDpopStep, parcels_up}
use Rattle.dpop_agent.proofs.ParcelLaws.{values_sent}

decided_at : (own : Private) (place : Place) (stage : Stage) (kept : List (Option CostTable)) (made : Option CostTable) (value : ℕ) (values : Context) (best : ℕ) (before parcels : List (ℕ × Message))
    → phase_at stage ≡ working → best ≡ best_value (keeping own place kept) (valued values) → parcels ≡ before ++ values_sent (with_own own.me best (valued values)) place.children kept
    → GivesDpopStep (decide (view_at own place stage kept made value) values) (view_at own place Ended kept made best) before parcels
decided_at own place stage kept made value values best before parcels phase is sends =
    let ends : phase_at Ended ≡ record (phase_at stage) { ended = true } = ap (λ (p : Phase). let q : Phase = record p { ended = true } in q) (sym phase) in
    record {
      viewed = ap₂ (λ (d : ℕ) (p : Phase). let v : DpopView = record { own = own; place = place; phase = p; kept = kept; made = made; value = d } in v) is ends;
      sent = sends ∙ ap (λ (d : ℕ). before ++ values_sent (with_own own.me d (valued values)) place.children kept) is;
    }

-- what an agent's decision gives
pub decided : (own : Private) (place : Place) (stage : Stage) (kept now : List (Option CostTable)) (made : Option CostTable) (value : ℕ) (v : DpopView) (values : Context) (best : ℕ) (children : List ℕ) (before parcels : List (ℕ × Message))
    → view_at own place stage kept made value ≡ v → v.phase ≡ working → now ≡ kept → children ≡ place.children
    → best ≡ best_value (keeping own place now) (valued values) → parcels ≡ before ++ values_sent (with_own own.me best (valued values)) children now
    → GivesDpopStep (decide v values) (view_at own place Ended kept made best) before parcels
decided own place stage kept now made value v values best children before parcels view phase same below is sends =
    subst (λ (w : DpopView). GivesDpopStep (decide w values) (view_at own place Ended kept made best) before parcels) view
    (decided_at own place stage kept made value values best before parcels (ap (λ (w : DpopView). w.phase) view ∙ phase)
    (is ∙ ap (λ (es : List (Option CostTable)). best_value (keeping own place es) (valued values)) same)
    (sends ∙ ap₂ (λ (cs : List ℕ) (es : List (Option CostTable)). before ++ values_sent (with_own own.me best (valued values)) cs es) below same))

-- of five tests that pass together, the last two
pub last_two : (a b c d e : Bool) → (a && b && c && d && e) ≡ true → (d ≡ true) × (e ≡ true)
last_two true true true true true h = (refl, refl)
last_two false b c d e h = absurd (false≢true h)
last_two true false c d e h = absurd (false≢true h)
last_two true true false d e h = absurd (false≢true h)
last_two true true true false e h = absurd (false≢true h)
last_two true true true true false h = absurd (false≢true h)

-- what five tests say together, after the first four or the first three have passed
pub fifth_says : (a b c d e x : Bool) → a ≡ true → b ≡ true → c ≡ true → d ≡ true → x ≡ e → x ≡ (a && b && c && d && e)
fifth_says true true true true e x p q r s is = is
fifth_says false b c d e x p q r s is = absurd (false≢true p)
fifth_says true false c d e x p q r s is = absurd (false≢true q)
fifth_says true true false d e x p q r s is = absurd (false≢true r)
fifth_says true true true false e x p q r s is = absurd (false≢true s)

pub fourth_fails : (a b c d e x : Bool) → a ≡ true → b ≡ true → c ≡ true → x ≡ d → x ≡ false → x ≡ (a && b && c && d && e)
fourth_fails true true true true e x p q r is fails = absurd (false≢true (sym fails ∙ is))
fourth_fails true true true false e x p q r is fails = is
fourth_fails false b c d e x p q r is fails = absurd (false≢true p)
fourth_fails true false c d e x p q r is fails = absurd (false≢true q)
fourth_fails true true false d e x p q r is fails = absurd (false≢true r)

-- where no table was made the agent may not join
pub may_not : (v : DpopView) (o : Option CostTable) → IsUtilWhereMay v o → ((t : CostTable) → o ≡ Some t → ⊥) → can_join v ≡ false
may_not v None tried none = tried
may_not v (Some t) tried none = absurd (none t refl)

-- what joining gives an agent that may not join: nothing
pub joins_not : (own : Private) (place : Place) (stage : Stage) (kept now : List (Option CostTable)) (made : Option CostTable) (value : ℕ) (v : DpopView) (before parcels : List (ℕ × Message))
    → view_at own place stage kept made value ≡ v → now ≡ kept → can_join (keeping own place now) ≡ false → parcels ≡ before → GivesDpopStep (join v) v before parcels
joins_not own place stage kept now made value v before parcels view same cannot none =
    let w : DpopView = view_at own place stage kept made value in
    let u : CostTable = util_table w in
    let after : DpopView = record w { made = Some u } in
    let here : can_join (keeping own place kept) ≡ false = subst (λ (es : List (Option CostTable)). can_join (keeping own place es) ≡ false) same cannot in
    subst (λ (x : DpopView). GivesDpopStep (join x) x before parcels) view
    (subst (λ (b : Bool). GivesDpopStep (cond b (send_up after u (last_of place.path)) (quiet w)) w before parcels) (sym here) (record { viewed = refl; sent = none ∙ sym (append-nil before) }))

joins_at : (own : Private) (place : Place) (stage : Stage) (kept : List (Option CostTable)) (made : Option CostTable) (value : ℕ) (t : CostTable) (before parcels : List (ℕ × Message)) (parent : Option ℕ)
    → can_join (keeping own place kept) ≡ true → t ≡ util_table (keeping own place kept) → last_of place.path ≡ parent → is_some parent ≡ true → parcels ≡ before ++ parcels_up parent t
    → GivesDpopStep (join (view_at own place stage kept made value)) (view_at own place stage kept (Some t) value) before parcels
joins_at own place stage kept made value t before parcels None can is last some sends = absurd (false≢true some)
joins_at own place stage kept made value t before parcels (Some parent) can is last some sends =
    let v : DpopView = view_at own place stage kept made value in
    let u : CostTable = util_table v in
    let w : DpopView = record v { made = Some u } in
    let after : DpopView = view_at own place stage kept (Some t) value in
    subst (λ (b : Bool). GivesDpopStep (cond b (send_up w u (last_of place.path)) (quiet v)) after before parcels) (sym can)
    (subst (λ (o : Option ℕ). GivesDpopStep (send_up w u o) after before parcels) (sym last)
    (record {
      viewed = ap (λ (s : CostTable). view_at own place stage kept (Some s) value) is;
      sent = sends ∙ ap (λ (s : CostTable). before ++ parcels_up (Some parent) s) is;
    }))

-- what joining gives an agent with a parent
pub joins : (own : Private) (place : Place) (stage : Stage) (kept now : List (Option CostTable)) (made : Option CostTable) (value : ℕ) (v : DpopView) (t : CostTable) (path : List ℕ) (before parcels : List (ℕ × Message))
    → view_at own place stage kept made value ≡ v → now ≡ kept → path ≡ place.path → can_join (keeping own place now) ≡ true → t ≡ util_table (keeping own place now) → is_some (last_of path) ≡ true → parcels ≡ before ++ parcels_up (last_of path) t
    → GivesDpopStep (join v) (view_at own place stage kept (Some t) value) before parcels
joins own place stage kept now made value v t path before parcels view same above can is some sends =
    subst (λ (w : DpopView). GivesDpopStep (join w) (view_at own place stage kept (Some t) value) before parcels) view
    (joins_at own place stage kept made value t before parcels (last_of path)
    (subst (λ (es : List (Option CostTable)). can_join (keeping own place es) ≡ true) same can)
    (is ∙ ap (λ (es : List (Option CostTable)). util_table (keeping own place es)) same)
    (ap last_of (sym above)) some sends)

same_table : (t u : CostTable) → Some t ≡ Some u → t ≡ u
same_table t u e = ap (λ (o : Option CostTable). or_first o) e
  where
    or_first : Option CostTable → CostTable
    or_first None = t
    or_first (Some x) = x

-- an agent that has joined stays sound
pub joined_sound : (own : Private) (place : Place) (stage : Stage) (kept now : List (Option CostTable)) (before : Option CostTable) (m : CostTable) → IsSound own place stage kept before → now ≡ kept → IsUtilWhereMay (keeping own place now) (Some m) → IsSound own place stage kept (Some m)
joined_sound own place stage kept now before m sound same made =
    let here : IsUtilWhereMay (keeping own place kept) (Some m) = subst (λ (es : List (Option CostTable)). IsUtilWhereMay (keeping own place es) (Some m)) same made in
    let all = (and_parts (list_all is_some kept) (nat_le (joined_cells_with (keeping own place kept) (kept_scopes (keeping own place kept))) joined_limit) here.0).0 in
    record {
      keeper = sound.keeper;
      util = λ t e. record { is = sym (same_table m t e) ∙ here.1; all = all };
      ended = λ _. refl;
    }

-- a copied option is there exactly where the option is
pub copied_some : {X : Type 0} (o : Option (Bor X)) → is_some (option_copied o) ≡ is_some o
copied_some None = refl
copied_some (Some x) = refl

root_at : (own : Private) (place : Place) (stage : Stage) (kept : List (Option CostTable)) (made : Option CostTable) (value : ℕ) (t : CostTable) (after : DpopView) (before up parcels : List (ℕ × Message)) (parent : Option ℕ)
    → can_join (keeping own place kept) ≡ true → t ≡ util_table (keeping own place kept) → last_of place.path ≡ parent → is_some parent ≡ false → up ≡ before ++ parcels_up parent t
    → GivesDpopStep (decide (view_at own place stage kept (Some t) value) []) after up parcels → GivesDpopStep (join (view_at own place stage kept made value)) after before parcels
root_at own place stage kept made value t after before up parcels (Some parent) can is last none rises gives = absurd (false≢true (sym none))
root_at own place stage kept made value t after before up parcels None can is last none rises gives =
    let v : DpopView = view_at own place stage kept made value in
    let u : CostTable = util_table v in
    let w : DpopView = record v { made = Some u } in
    subst (λ (b : Bool). GivesDpopStep (cond b (send_up w u (last_of place.path)) (quiet v)) after before parcels) (sym can)
    (subst (λ (o : Option ℕ). GivesDpopStep (send_up w u o) after before parcels) (sym last)
    (subst (λ (s : CostTable). GivesDpopStep (decide (view_at own place stage kept (Some s) value) []) after before parcels) is
    (subst (λ (ps : List (ℕ × Message)). GivesDpopStep (decide (view_at own place stage kept (Some t) value) []) after ps parcels) (rises ∙ append-nil before) gives)))

-- what joining gives the root, which decides at once
pub root_joins : (own : Private) (place : Place) (stage : Stage) (kept now : List (Option CostTable)) (made : Option CostTable) (value : ℕ) (v w : DpopView) (t : CostTable) (path : List ℕ) (values : Context) (after : DpopView) (before up parcels : List (ℕ × Message))
    → view_at own place stage kept made value ≡ v → now ≡ kept → path ≡ place.path → can_join (keeping own place now) ≡ true → t ≡ util_table (keeping own place now) → is_some (last_of path) ≡ false → up ≡ before ++ parcels_up (last_of path) t
    → view_at own place stage kept (Some t) value ≡ w → values ≡ [] → GivesDpopStep (decide w values) after up parcels → GivesDpopStep (join v) after before parcels
root_joins own place stage kept now made value v w t path values after before up parcels view same above can is none rises waits empty gives =
    subst (λ (x : DpopView). GivesDpopStep (join x) after before parcels) view
    (root_at own place stage kept made value t after before up parcels (last_of path)
    (subst (λ (es : List (Option CostTable)). can_join (keeping own place es) ≡ true) same can)
    (is ∙ ap (λ (es : List (Option CostTable)). util_table (keeping own place es)) same)
    (ap last_of (sym above)) none rises
    (subst (λ (c : Context). GivesDpopStep (decide (view_at own place stage kept (Some t) value) c) after up parcels) empty
    (subst (λ (x : DpopView). GivesDpopStep (decide x values) after up parcels) (sym waits) gives)))
