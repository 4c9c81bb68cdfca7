use Rattle.std.proofs.Common.{◌≡◌, ℕ, not, List, Option, is_some, map, sym, ap, subst, ◌∙◌}
use Rattle.std.specs.List.{list_all, zip}
use Rattle.dcop_base.specs.Table.{CostTable, AreWithin}
use Rattle.adopt_context.specs.Context.{Context, is_value, value_in, names_all}
use Rattle.protocol_steps.specs.Agent.{last_of}
use Rattle.protocol_steps.specs.Values.{valued}
use Rattle.protocol_steps.specs.Dpop.{DpopView, size_of, separator}
use Rattle.protocol_steps.specs.DpopStep.{is_below_size, is_sized, takes_values}
use Rattle.dpop_agent.specs.Keeping.{keeping}
use Rattle.dpop_agent.specs.Stage.{phase_at}
use Rattle.dpop_agent.proofs.OverLaws.{values_within}
use Rattle.dpop_agent.proofs.AgentLaws.{fifth_says, fourth_fails}
use Rattle.dpop_agent.proofs.agent.DpopAgent.takes_values.Goals as goal

pub returns-then-are_sized-clause-within : goal.returns-then-are_sized-clause-within
returns-then-are_sized-clause-within c yes_taken =
    let a = c.self.inside in
    let values = c.args.values.now in
    let sized = ap (λ (ps : Context). list_all (λ p. is_below_size (value_in (zip a.place.path a.place.path_sizes) p.0) p.1) ps) (sym c.pairs.ensures.pairs) ∙ sym c.are_sized.ensures ∙ c.if-are_sized.true in
    let made = (c.self.invariant.util c.in-Some.made c.in-Some.is).is in
    let scope : c.made.inside.scope ≡ separator (keeping a.own a.place a.kept.items) = ap (λ (t : CostTable). t.scope) (c.made.view_is ∙ made) in
    let named = ap (λ (vs : List ℕ). names_all values vs) (sym scope) ∙ sym c.names_all.ensures ∙ yes_taken in
    subst (λ (v : DpopView). AreWithin (map (size_of v) (separator v)) (map (valued values) (separator v))) c.self.view_is
    (values_within a.own a.place a.kept.items c.self.invariant.keeper values sized named)

pub returns-then-are_sized-clause-taken : goal.returns-then-are_sized-clause-taken
returns-then-are_sized-clause-taken c =
    let a = c.self.inside in
    let from = c.args.from in
    let values = c.args.values.now in
    let v : DpopView = keeping a.own a.place a.kept.items in
    let parent = ap (λ (vs : List ℕ). is_value (last_of vs) from) (sym c.as_slice.ensures) ∙ sym c.is_parent.ensures ∙ c.if-not-is_parent.false in
    let some = ap (λ (o : Option CostTable). is_some o) c.in-Some.is in
    let goes = ap not (sym c.has_ended.ensures ∙ c.if-has_ended.false) in
    let sized = ap (λ (ps : Context). list_all (λ p. is_below_size (value_in (zip a.place.path a.place.path_sizes) p.0) p.1) ps) (sym c.pairs.ensures.pairs) ∙ sym c.are_sized.ensures ∙ c.if-are_sized.true in
    let made = (c.self.invariant.util c.in-Some.made c.in-Some.is).is in
    let scope : c.made.inside.scope ≡ separator v = ap (λ (t : CostTable). t.scope) (c.made.view_is ∙ made) in
    let named = c.names_all.ensures ∙ ap (λ (vs : List ℕ). names_all values vs) scope in
    subst (λ (w : DpopView). c.names_all.result ≡ takes_values w from values) c.self.view_is
    (fifth_says (is_value (last_of a.place.path) from) (is_some a.made) (not (phase_at a.stage).ended) (is_sized v values) (names_all values (separator v)) c.names_all.result parent some goes sized named)

pub returns-else-are_sized-clause-taken : goal.returns-else-are_sized-clause-taken
returns-else-are_sized-clause-taken c =
    let a = c.self.inside in
    let from = c.args.from in
    let values = c.args.values.now in
    let v : DpopView = keeping a.own a.place a.kept.items in
    let parent = ap (λ (vs : List ℕ). is_value (last_of vs) from) (sym c.as_slice.ensures) ∙ sym c.is_parent.ensures ∙ c.if-not-is_parent.false in
    let some = ap (λ (o : Option CostTable). is_some o) c.in-Some.is in
    let goes = ap not (sym c.has_ended.ensures ∙ c.if-has_ended.false) in
    let sized = c.are_sized.ensures ∙ ap (λ (ps : Context). list_all (λ p. is_below_size (value_in (zip a.place.path a.place.path_sizes) p.0) p.1) ps) c.pairs.ensures.pairs in
    subst (λ (w : DpopView). c.are_sized.result ≡ takes_values w from values) c.self.view_is
    (fourth_fails (is_value (last_of a.place.path) from) (is_some a.made) (not (phase_at a.stage).ended) (is_sized v values) (names_all values (separator v)) c.are_sized.result parent some goes sized c.if-are_sized.false)
