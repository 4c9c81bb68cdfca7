use Rattle.std.proofs.Common.{◌≡◌, ℕ, true, not, List, Option, is_some, Some, refl, sym, ap, subst, ◌∙◌}
use Rattle.dcop_base.specs.Table.{CostTable, IsTable}
use Rattle.protocol_steps.specs.Dpop.{DpopView, util_table}
use Rattle.protocol_steps.specs.Agent.{last_of}
use Rattle.protocol_steps.specs.DpopJoin.{can_join, decide, join}
use Rattle.std.proofs.lemmas.Result.{IfOk-weaker}
use Rattle.dpop_agent.specs.Stage.{view_at}
use Rattle.dpop_agent.specs.Deed.{GivesDpopStep}
use Rattle.dpop_agent.proofs.RangeLaws.{util_scope, util_cells}
use Rattle.dpop_agent.specs.Keeping.{keeping}
use Rattle.dpop_agent.specs.Joint.{IsUtilWhereMay}
use Rattle.dpop_agent.proofs.AgentLaws.{joins, joined_sound, joins_not, copied_some, may_not, root_joins}
use Rattle.dpop_agent.proofs.TakeLaws.{known_kept}
use Rattle.dpop_agent.proofs.agent.DpopAgent.join.Goals as goal

pub util_of-requires-clause-known : goal.util_of-requires-clause-known
util_of-requires-clause-known c =
    let a = c.self.inside in
    known_kept a.own a.place a.stage a.kept.items c.as_slice-kept.result.now a.made a.value c.args.self.now c.args.known c.self.view_is c.as_slice-kept.ensures.value c.requires.known

pub returns-in_default-clause-gives : goal.returns-in_default-clause-gives
returns-in_default-clause-gives c =
    let a = c.self.inside in
    let now = c.as_slice-kept.result.now in
    let cannot = may_not (keeping a.own a.place now) c.in_ok-made.field-0 c.in_ok-made.ensures c.in_default.not-Some in
    joins_not a.own a.place a.stage a.kept.items now a.made a.value c.args.self.now c.args.parcels.items c.args.parcels.items c.self.view_is c.as_slice-kept.ensures.value cannot refl

pub util_for-requires-clause-scope : goal.util_for-requires-clause-scope
util_for-requires-clause-scope c =
    let a = c.self.inside in
    let made = subst (λ (o : Option CostTable). IsUtilWhereMay (keeping a.own a.place c.as_slice-kept.result.now) o) c.in-Some.is c.in_ok-made.ensures in
    let is = made.1 ∙ ap (λ (es : List (Option CostTable)). util_table (keeping a.own a.place es)) c.as_slice-kept.ensures.value in
    util_scope a.own a.place a.kept.items c.self.invariant.keeper c.in-Some.made is

pub util_for-requires-clause-cells : goal.util_for-requires-clause-cells
util_for-requires-clause-cells c =
    let a = c.self.inside in
    let made = subst (λ (o : Option CostTable). IsUtilWhereMay (keeping a.own a.place c.as_slice-kept.result.now) o) c.in-Some.is c.in_ok-made.ensures in
    let is = made.1 ∙ ap (λ (es : List (Option CostTable)). util_table (keeping a.own a.place es)) c.as_slice-kept.ensures.value in
    let can = subst (λ (es : List (Option CostTable)). can_join (keeping a.own a.place es) ≡ true) c.as_slice-kept.ensures.value made.0 in
    util_cells a.own a.place a.kept.items c.self.invariant.keeper c.in-Some.made is (subst IsTable c.made.view_is c.made.invariant) can

pub invariant_of-self : goal.invariant_of-self
invariant_of-self c =
    let a = c.self.inside in
    let now = c.as_slice-kept.result.now in
    let made = subst (λ (o : Option CostTable). IsUtilWhereMay (keeping a.own a.place now) o) c.in-Some.is c.in_ok-made.ensures in
    joined_sound a.own a.place a.stage a.kept.items now a.made c.in-Some.made c.self.invariant c.as_slice-kept.ensures.value made

pub invariant_of-self-else-is_none : goal.invariant_of-self-else-is_none
invariant_of-self-else-is_none c =
    let a = c.self.inside in
    let now = c.as_slice-kept.result.now in
    let made = subst (λ (o : Option CostTable). IsUtilWhereMay (keeping a.own a.place now) o) c.in-Some.is c.in_ok-made.ensures in
    joined_sound a.own a.place a.stage a.kept.items now a.made c.in-Some.made c.self.invariant c.as_slice-kept.ensures.value made

pub returns-then-is_none-clause-gives : goal.returns-then-is_none-clause-gives
returns-then-is_none-clause-gives c =
    let a = c.self.inside in
    let now = c.as_slice-kept.result.now in
    let made = c.in-Some.made in
    let may = subst (λ (o : Option CostTable). IsUtilWhereMay (keeping a.own a.place now) o) c.in-Some.is c.in_ok-made.ensures in
    let last = c.last.ensures.value in
    let none = ap (λ (vs : List ℕ). is_some (last_of vs)) (c.as_slice.ensures ∙ sym c.as_slice-2.ensures) ∙ sym (ap (λ (o : Option ℕ). is_some o) last) ∙ copied_some c.last.result ∙ c.is_none.ensures ∙ ap not c.if-is_none.true in
    let w : DpopView = view_at a.own a.place a.stage a.kept.items (Some made) a.value in
    let after = c.decide-then-is_none-2.new.self in
    IfOk-weaker c.decide-then-is_none-2.result (λ ps. GivesDpopStep (decide w c.new.result) after c.in_ok-sent.sent.items ps.items) (λ ps. GivesDpopStep (join c.args.self.now) after c.args.parcels.items ps.items)
    (λ ps gives. root_joins a.own a.place a.stage a.kept.items now a.made a.value c.args.self.now w made c.as_slice.result.now c.new.result after c.args.parcels.items c.in_ok-sent.sent.items ps.items c.self.view_is c.as_slice-kept.ensures.value c.as_slice.ensures may.0 may.1 none c.in_ok-sent.ensures refl c.new.ensures gives)
    c.decide-then-is_none-2.ensures.gives

pub returns-clause-gives : goal.returns-clause-gives
returns-clause-gives c =
    let a = c.self.inside in
    let now = c.as_slice-kept.result.now in
    let may = subst (λ (o : Option CostTable). IsUtilWhereMay (keeping a.own a.place now) o) c.in-Some.is c.in_ok-made.ensures in
    let last = c.last.ensures.value in
    let none = c.is_none.ensures in
    joins a.own a.place a.stage a.kept.items now a.made a.value c.args.self.now c.in-Some.made c.as_slice.result.now c.args.parcels.items c.in_ok-sent.sent.items c.self.view_is c.as_slice-kept.ensures.value c.as_slice.ensures may.0 may.1 (ap (λ (vs : List ℕ). is_some (last_of vs)) (c.as_slice.ensures ∙ sym c.as_slice-2.ensures) ∙ sym (ap (λ (o : Option ℕ). is_some o) last) ∙ copied_some c.last.result ∙ none ∙ ap not c.if-is_none.false) c.in_ok-sent.ensures
