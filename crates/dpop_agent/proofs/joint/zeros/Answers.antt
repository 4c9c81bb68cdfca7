use Rattle.std.proofs.Common.{ℕ, ◌≤◌, List, length, map, sym, ap, subst, ◌∙◌}
use Rattle.std.specs.List.{All}
use Rattle.std.proofs.lemmas.List.{length-map}
use Rattle.std.proofs.lemmas.Result.{IfOk-weaker}
use Rattle.dcop_base.specs.Table.{has_repeat}
use Rattle.protocol_steps.specs.Dpop.{DpopView, size_of}
use Rattle.dpop_agent.specs.Keeping.{keeping}
use Rattle.dpop_agent.specs.Joint.{IsZeroOver, IsZeroWhereNarrow}
use Rattle.dpop_agent.proofs.OverLaws.{over_apart, over_positive, zero_where_narrow}
use Rattle.dpop_agent.proofs.joint.zeros.Goals as goal

pub zeros_over-requires-clause-distinct : goal.zeros_over-requires-clause-distinct
zeros_over-requires-clause-distinct c =
    ap has_repeat c.in_ok-over.ensures.vars ∙ over_apart c.args.own.now c.args.place.now c.args.kept.now c.requires.keeper

pub zeros_over-requires-clause-sized : goal.zeros_over-requires-clause-sized
zeros_over-requires-clause-sized c =
    let v : DpopView = keeping c.args.own.now c.args.place.now c.args.kept.now in
    ap length c.in_ok-over.ensures.sizes ∙ length-map c.in_ok-over.over.vars (size_of v)

pub zeros_over-requires-clause-positive : goal.zeros_over-requires-clause-positive
zeros_over-requires-clause-positive c =
    let v : DpopView = keeping c.args.own.now c.args.place.now c.args.kept.now in
    let sizes = c.in_ok-over.ensures.sizes ∙ ap (λ (vs : List ℕ). map (size_of v) vs) c.in_ok-over.ensures.vars in
    subst (λ (ss : List ℕ). All (λ s. 1 ≤ s) ss) (sym sizes) (over_positive c.args.own.now c.args.place.now c.args.kept.now c.requires.keeper)

pub returns : goal.returns
returns c =
    let own = c.args.own.now in
    let place = c.args.place.now in
    let kept = c.args.kept.now in
    let v : DpopView = keeping own place kept in
    let over = c.in_ok-over.over.vars in
    let sizes = c.in_ok-over.over.sizes in
    IfOk-weaker c.zeros_over.result (IsZeroOver over sizes) (IsZeroWhereNarrow v)
    (λ zero is. zero_where_narrow own place kept c.requires.keeper over zero c.in_ok-over.ensures.vars (subst (λ (ss : List ℕ). IsZeroOver over ss zero) c.in_ok-over.ensures.sizes is)) c.zeros_over.ensures
