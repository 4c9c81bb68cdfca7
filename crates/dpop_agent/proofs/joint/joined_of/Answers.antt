use Rattle.std.proofs.Common.{ℕ, ◌||◌, ◌==◌, List, Option, is_some, sym, ap₂, subst, ◌∙◌}
use Rattle.std.specs.List.{filter, list_all}
use Rattle.std.proofs.lemmas.Bool.{and_from, le-leb}
use Rattle.dcop_base.specs.Table.{CostTable, has}
use Rattle.dcop_base.specs.Limits.{joined_limit}
use Rattle.protocol_steps.specs.Dpop.{DpopView, own_tables, kept_tables, kept_scopes, joined_cells_with}
use Rattle.dpop_agent.specs.Keeping.{keeping}
use Rattle.dpop_agent.specs.Joint.{HasGained, IsJoint, IsZeroWhereNarrow, over_of, over_sizes}
use Rattle.dpop_agent.proofs.SumLaws.{both_added}
use Rattle.dpop_agent.proofs.OverLaws.{apart_still, own_may, kept_may}
use Rattle.dpop_agent.proofs.joint.joined_of.Goals as goal

pub add_own-requires-clause-apart : goal.add_own-requires-clause-apart
add_own-requires-clause-apart c = apart_still c.args.own.now c.args.place.now c.requires.keeper.placed c.as_slice-3.result.now c.as_slice-2.result.now c.as_slice-3.ensures c.as_slice-2.ensures

pub add_own-requires-clause-lie : goal.add_own-requires-clause-lie
add_own-requires-clause-lie c =
    let own = c.args.own.now in
    let place = c.args.place.now in
    let kept = c.args.kept.now in
    let zero = subst (λ (o : Option CostTable). IsZeroWhereNarrow (keeping own place kept) o) c.in-Some.is c.in_ok-joined.ensures in
    own_may own place kept c.requires.keeper (λ value. 0) c.in-Some.joined c.as_slice.result.now c.as_slice-2.result.now zero.1 c.as_slice.ensures c.as_slice-2.ensures

pub add_kept-requires : goal.add_kept-requires
add_kept-requires c =
    let own = c.args.own.now in
    let place = c.args.place.now in
    let kept = c.args.kept.now in
    let zero = subst (λ (o : Option CostTable). IsZeroWhereNarrow (keeping own place kept) o) c.in-Some.is c.in_ok-joined.ensures in
    kept_may own place kept c.requires.keeper (λ value. 0) c.in-Some.joined c.add_own.new.joined zero.1 c.add_own.ensures.same_scope c.add_own.ensures.same_sizes

pub returns : goal.returns
returns c =
    let own = c.args.own.now in
    let place = c.args.place.now in
    let kept = c.args.kept.now in
    let v : DpopView = keeping own place kept in
    let zero = subst (λ (o : Option CostTable). IsZeroWhereNarrow v o) c.in-Some.is c.in_ok-joined.ensures in
    let all = sym c.are_all_there.ensures ∙ c.if-not-are_all_there.false in
    let fits = le-leb (joined_cells_with v (kept_scopes v)) joined_limit zero.0 in
    let mine : List CostTable → List ℕ → List CostTable = λ ts vs. filter (λ (t : CostTable). list_all (λ u. u == own.me || has vs u) t.scope) ts in
    let first : HasGained (own_tables v) c.in-Some.joined c.add_own.new.joined =
    subst (λ (ts : List CostTable). HasGained ts c.in-Some.joined c.add_own.new.joined) (ap₂ mine c.as_slice.ensures c.as_slice-2.ensures) c.add_own.ensures in
    let made = both_added (over_of v) (over_sizes v) (own_tables v) (kept_tables v) c.in-Some.joined c.add_own.new.joined c.add_kept.new.joined zero.1 first c.add_kept.ensures in
    (and_from (list_all is_some kept) _ all fits, subst (λ (t : CostTable). IsJoint v t) (sym c.table.ensures) made)
