use Rattle.std.proofs.Common.{ℕ, ◌||◌, ◌==◌, ◌≤◌, List, length, Option, Some, None, map, sym, ap, ap₂, subst, ◌∙◌, arith}
use Rattle.std.specs.List.{All, filter, flat_map, list_all}
use Rattle.std.proofs.lemmas.List.{length-map}
use Rattle.dcop_base.specs.Table.{CostTable, has, has_repeat}
use Rattle.util_join.specs.Join.{LiesIn}
use Rattle.protocol_steps.specs.Dpop.{DpopView, own_tables, kept_tables, size_of, there}
use Rattle.dpop_agent.specs.Joint.{HasGained, IsJoint, IsZeroOver, over_of, over_sizes}
use Rattle.dpop_agent.specs.Remade.{sent_of, with_sent}
use Rattle.dpop_agent.proofs.SumLaws.{both_added}
use Rattle.dpop_agent.proofs.OverLaws.{apart_still, kept_may, over_apart, over_positive, own_may, zero_some, zero_where_narrow}
use Rattle.dpop_agent.proofs.RemakeLaws.{named_in_all, over_sent, sent_keeper}
use Rattle.dpop_agent.proofs.made.joined_with.Goals as goal

pub zeros_over-requires-clause-distinct : goal.zeros_over-requires-clause-distinct
zeros_over-requires-clause-distinct c =
    let own = c.args.own.now in
    let place = c.args.place.now in
    let kept = c.args.kept.now in
    let sent = sent_of kept place.children in
    let named = c.as_slice.ensures ∙ c.in_ok-named.ensures ∙ ap (λ (us : List ℕ). named_in_all (sent_of kept us)) c.as_slice-children.ensures in
    let over = over_sent own place kept c.as_slice.result.now c.in_ok-over.over.vars named c.in_ok-over.ensures.vars in
    ap has_repeat over ∙ over_apart own place sent (sent_keeper own place kept c.requires)

pub zeros_over-requires-clause-sized : goal.zeros_over-requires-clause-sized
zeros_over-requires-clause-sized c =
    let v : DpopView = with_sent c.args.own.now c.args.place.now c.args.kept.now in
    ap length c.in_ok-over.ensures.sizes ∙ length-map c.in_ok-over.over.vars (size_of v)

pub zeros_over-requires-clause-positive : goal.zeros_over-requires-clause-positive
zeros_over-requires-clause-positive c =
    let own = c.args.own.now in
    let place = c.args.place.now in
    let kept = c.args.kept.now in
    let sent = sent_of kept place.children in
    let v : DpopView = with_sent own place kept in
    let named = c.as_slice.ensures ∙ c.in_ok-named.ensures ∙ ap (λ (us : List ℕ). named_in_all (sent_of kept us)) c.as_slice-children.ensures in
    let over = over_sent own place kept c.as_slice.result.now c.in_ok-over.over.vars named c.in_ok-over.ensures.vars in
    let sizes = c.in_ok-over.ensures.sizes ∙ ap (λ (vs : List ℕ). map (size_of v) vs) over in
    subst (λ (ss : List ℕ). All (λ s. 1 ≤ s) ss) (sym sizes) (over_positive own place sent (sent_keeper own place kept c.requires))

pub unreachable-requires : goal.unreachable-requires
unreachable-requires c =
    let own = c.args.own.now in
    let place = c.args.place.now in
    let kept = c.args.kept.now in
    let sent = sent_of kept place.children in
    let named = c.as_slice.ensures ∙ c.in_ok-named.ensures ∙ ap (λ (us : List ℕ). named_in_all (sent_of kept us)) c.as_slice-children.ensures in
    let over = over_sent own place kept c.as_slice.result.now c.in_ok-over.over.vars named c.in_ok-over.ensures.vars in
    let made = subst (λ (o : Option CostTable). IsZeroOver c.in_ok-over.over.vars c.in_ok-over.over.sizes o) c.in_default.is c.in_ok-joined.ensures in
    let all = subst (λ (ss : List ℕ). IsZeroOver c.in_ok-over.over.vars ss None) c.in_ok-over.ensures.sizes made in
    let wide = zero_where_narrow own place sent (sent_keeper own place kept c.requires) c.in_ok-over.over.vars None over all in
    absurd (omega (arith, wide, c.requires.narrow))

pub add_own-requires-clause-apart : goal.add_own-requires-clause-apart
add_own-requires-clause-apart c = apart_still c.args.own.now c.args.place.now c.requires.placed c.as_slice-4.result.now c.as_slice-3.result.now c.as_slice-4.ensures c.as_slice-3.ensures

pub add_own-requires-clause-lie : goal.add_own-requires-clause-lie
add_own-requires-clause-lie c =
    let own = c.args.own.now in
    let place = c.args.place.now in
    let kept = c.args.kept.now in
    let sent = sent_of kept place.children in
    let v : DpopView = with_sent own place kept in
    let keeper = sent_keeper own place kept c.requires in
    let named = c.as_slice.ensures ∙ c.in_ok-named.ensures ∙ ap (λ (us : List ℕ). named_in_all (sent_of kept us)) c.as_slice-children.ensures in
    let over = over_sent own place kept c.as_slice.result.now c.in_ok-over.over.vars named c.in_ok-over.ensures.vars in
    let made = subst (λ (o : Option CostTable). IsZeroOver c.in_ok-over.over.vars c.in_ok-over.over.sizes o) c.in-Some.is c.in_ok-joined.ensures in
    let all = subst (λ (ss : List ℕ). IsZeroOver c.in_ok-over.over.vars ss (Some c.in-Some.joined)) c.in_ok-over.ensures.sizes made in
    let zero = zero_some own place sent keeper c.in_ok-over.over.vars c.in-Some.joined over all in
    own_may own place sent keeper (λ value. 0) c.in-Some.joined c.as_slice-2.result.now c.as_slice-3.result.now zero c.as_slice-2.ensures c.as_slice-3.ensures

pub add_sent-requires-clause-lie : goal.add_sent-requires-clause-lie
add_sent-requires-clause-lie c =
    let own = c.args.own.now in
    let place = c.args.place.now in
    let kept = c.args.kept.now in
    let sent = sent_of kept place.children in
    let v : DpopView = with_sent own place kept in
    let keeper = sent_keeper own place kept c.requires in
    let named = c.as_slice.ensures ∙ c.in_ok-named.ensures ∙ ap (λ (us : List ℕ). named_in_all (sent_of kept us)) c.as_slice-children.ensures in
    let over = over_sent own place kept c.as_slice.result.now c.in_ok-over.over.vars named c.in_ok-over.ensures.vars in
    let made = subst (λ (o : Option CostTable). IsZeroOver c.in_ok-over.over.vars c.in_ok-over.over.sizes o) c.in-Some.is c.in_ok-joined.ensures in
    let all = subst (λ (ss : List ℕ). IsZeroOver c.in_ok-over.over.vars ss (Some c.in-Some.joined)) c.in_ok-over.ensures.sizes made in
    let zero = zero_some own place sent keeper c.in_ok-over.over.vars c.in-Some.joined over all in
    let now = c.add_own.new.joined in
    subst (λ (us : List ℕ). All (LiesIn now.scope now.sizes) (flat_map there (sent_of kept us))) (sym c.as_slice-children.ensures)
    (kept_may own place sent keeper (λ value. 0) c.in-Some.joined now zero c.add_own.ensures.same_scope c.add_own.ensures.same_sizes)

pub returns : goal.returns
returns c =
    let own = c.args.own.now in
    let place = c.args.place.now in
    let kept = c.args.kept.now in
    let sent = sent_of kept place.children in
    let v : DpopView = with_sent own place kept in
    let keeper = sent_keeper own place kept c.requires in
    let named = c.as_slice.ensures ∙ c.in_ok-named.ensures ∙ ap (λ (us : List ℕ). named_in_all (sent_of kept us)) c.as_slice-children.ensures in
    let over = over_sent own place kept c.as_slice.result.now c.in_ok-over.over.vars named c.in_ok-over.ensures.vars in
    let made = subst (λ (o : Option CostTable). IsZeroOver c.in_ok-over.over.vars c.in_ok-over.over.sizes o) c.in-Some.is c.in_ok-joined.ensures in
    let all = subst (λ (ss : List ℕ). IsZeroOver c.in_ok-over.over.vars ss (Some c.in-Some.joined)) c.in_ok-over.ensures.sizes made in
    let zero = zero_some own place sent keeper c.in_ok-over.over.vars c.in-Some.joined over all in
    let mine : List CostTable → List ℕ → List CostTable = λ ts vs. filter (λ (t : CostTable). list_all (λ u. u == own.me || has vs u) t.scope) ts in
    let first : HasGained (own_tables v) c.in-Some.joined c.add_own.new.joined =
    subst (λ (ts : List CostTable). HasGained ts c.in-Some.joined c.add_own.new.joined) (ap₂ mine c.as_slice-2.ensures c.as_slice-3.ensures) c.add_own.ensures in
    let second : HasGained (kept_tables v) c.add_own.new.joined c.add_sent.new.joined =
    subst (λ (us : List ℕ). HasGained (flat_map there (sent_of kept us)) c.add_own.new.joined c.add_sent.new.joined) c.as_slice-children.ensures c.add_sent.ensures in
    let joint = both_added (over_of v) (over_sizes v) (own_tables v) (kept_tables v) c.in-Some.joined c.add_own.new.joined c.add_sent.new.joined zero first second in
    subst (λ (t : CostTable). IsJoint v t) (sym c.table.ensures) joint
