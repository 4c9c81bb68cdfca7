use Rattle.std.proofs.Common.{ℕ, ◌<◌, length, List, ◌++◌, sym, ap, subst, ◌∙◌, arith}
use Rattle.std.specs.List.{All}
use Rattle.dcop_base.specs.Table.{CostTable}
use Rattle.dcop_base.specs.Values.{with_own}
use Rattle.dcop_base.specs.Limits.{variable_limit}
use Rattle.protocol_steps.specs.Values.{valued}
use Rattle.dpop_agent.proofs.SumLaws.{kept_at}
use Rattle.dpop_agent.proofs.ParcelLaws.{tell_child, tell_none, values_sent}
use Rattle.dpop_agent.proofs.values.values_for.Goals as goal
use Rattle.dpop_agent.proofs.values.values_for.Goals.{in-Some+in_ok-parcel_for+in_ok-push, in_default}

pub parcel_for-requires-clause-scope : goal.parcel_for-requires-clause-scope
parcel_for-requires-clause-scope c =
    subst (λ (vs : List ℕ). All (λ u. u < variable_limit) vs) (sym (c.as_slice-scope.ensures ∙ ap (λ (t : CostTable). t.scope) c.table.view_is))
    (kept_at (λ t. All (λ u. u < variable_limit) t.scope) c.args.kept.now c.loop-k.k c.index-kept-k.result c.in-Some.table c.loop-k-test.true c.index-kept-k.is c.in-Some.is c.requires.scopes)

pub loop-k-preserved : goal.loop-k-preserved
loop-k-preserved c =
    let children = c.args.children.now in
    let kept = c.args.kept.now in
    let k = c.loop-k.k in
    let value = with_own c.args.me c.args.best (valued c.args.values.now) in
    let whole = c.args.parcels.items ++ values_sent value children kept in
    let inside = c.loop-k-test.true in
    let counted = c.requires.counted in
    let lt : k < length children = omega (arith, inside, counted) in
    elim c.match-entry.branch [
      | in-Some+in_ok-parcel_for+in_ok-push w ↦
          tell_child value children kept k c.index-kept-k.result c.loop-k.told.items whole lt inside c.index-kept-k.is c.loop-k.invariant w.index-children-k.result w.in-Some.table w.as_slice-scope.result.now w.in_ok-parcel_for.field-0
          c.match-entry.told.items w.index-children-k.is w.in-Some.is (w.as_slice-scope.ensures ∙ ap (λ (t : CostTable). t.scope) w.table.view_is) w.in_ok-parcel_for.ensures (ap (λ v. v.items) w.told-is ∙ w.in_ok-push.ensures.items)
      | in_default w ↦ tell_none value children kept k c.index-kept-k.result c.loop-k.told.items whole lt inside c.index-kept-k.is c.loop-k.invariant c.match-entry.told.items w.in_default.is (ap (λ v. v.items) w.told-is)
    ]
