use Rattle.std.proofs.Common.{ℕ, ◌<◌, List, Option, is_some, sym, ap, subst, ◌∙◌}
use Rattle.std.specs.List.{All, flat_map}
use Rattle.dcop_base.specs.Table.{CostTable}
use Rattle.dcop_base.specs.Limits.{variable_limit, size_limit}
use Rattle.protocol_steps.specs.Values.{valued}
use Rattle.protocol_steps.specs.Dpop.{DpopView, there, best_value}
use Rattle.dpop_agent.specs.Keeping.{keeping}
use Rattle.dpop_agent.specs.Row.{AreBelowSizes}
use Rattle.dpop_agent.proofs.OverLaws.{kept_below, best_small}
use Rattle.dpop_agent.proofs.AgentLaws.{decided}
use Rattle.dpop_agent.proofs.agent.DpopAgent.decide.Goals as goal

pub best_of-requires-clause-within : goal.best_of-requires-clause-within
best_of-requires-clause-within c =
    let a = c.self.inside in
    let value : ℕ → ℕ = valued c.args.values.now in
    let here : AreBelowSizes (keeping a.own a.place a.kept.items) value = subst (λ (v : DpopView). AreBelowSizes v value) (sym c.self.view_is) c.requires.within in
    subst (λ (es : List (Option CostTable)). AreBelowSizes (keeping a.own a.place es) value) (sym c.as_slice-kept.ensures.value) here

pub values_for-requires-clause-scopes : goal.values_for-requires-clause-scopes
values_for-requires-clause-scopes c =
    let a = c.self.inside in
    subst (λ (es : List (Option CostTable)). All (λ (t : CostTable). All (λ u. u < variable_limit) t.scope) (flat_map there es)) (sym c.as_slice-kept.ensures.value)
    (kept_below a.own a.place a.kept.items c.self.invariant.keeper)

pub values_for-requires-clause-best : goal.values_for-requires-clause-best
values_for-requires-clause-best c =
    let a = c.self.inside in
    let best = c.in_ok-best.ensures ∙ ap (λ (es : List (Option CostTable)). best_value (keeping a.own a.place es) (valued c.args.values.now)) c.as_slice-kept.ensures.value in
    subst (λ (x : ℕ). x < size_limit) (sym best) (best_small a.own a.place a.kept.items c.self.invariant.keeper (valued c.args.values.now))

pub returns-clause-gives : goal.returns-clause-gives
returns-clause-gives c =
    let a = c.self.inside in
    decided a.own a.place a.stage a.kept.items c.as_slice-kept.result.now a.made a.value c.args.self.now c.args.values.now c.in_ok-best.best c.as_slice-children.result.now c.args.parcels.items c.in_ok-told.told.items
    c.self.view_is c.requires.working c.as_slice-kept.ensures.value c.as_slice-children.ensures c.in_ok-best.ensures c.in_ok-told.ensures

pub invariant_of-self : goal.invariant_of-self
invariant_of-self c = record {
  keeper = c.self.invariant.keeper;
  util = c.self.invariant.util;
  ended = λ _. ap (λ (v : DpopView). is_some v.made) c.self.view_is ∙ c.requires.made;
}
