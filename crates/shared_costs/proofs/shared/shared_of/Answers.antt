use Rattle.std.proofs.Common.{◌≡◌, ◌≤◌, List, [], length, drop, sym, ap, ◌∙◌, subst, arith}
use Rattle.std.specs.List.{All}
use Rattle.std.proofs.lemmas.List.{take_at}
use Rattle.std.proofs.lemmas.List.Elements.{length_all_zip, All-weaker}
use Rattle.dcop_base.specs.Table.{CostTable}
use Rattle.dcop_base.specs.Whole.{IsTableOf}
use Rattle.shared_costs.specs.Tables.{AreTablesOver}
use Rattle.shared_costs.specs.Sharing.{IsSharing}
use Rattle.shared_costs.specs.Scales.{IsScaled}
use Rattle.shared_costs.specs.Depths.{AreByDepth}
use Rattle.shared_costs.proofs.ScaleLaws.{tables-scaled, scopes-scaled}
use Rattle.shared_costs.proofs.DepthLaws.{few-tables, scopes-some}
use Rattle.shared_costs.proofs.SharedLaws.{shared-costs}
use Rattle.shared_costs.proofs.shared.shared_of.Goals as goal

pub share_all-requires-clause-tables : goal.share_all-requires-clause-tables
share_all-requires-clause-tables c =
    subst (λ (ts : List CostTable). AreTablesOver c.args.sizes.now ts) (sym c.as_mut_slice.ensures.value)
    (tables-scaled c.args.sizes.now c.scale_of-scale.result c.args.tables.now c.in_ok-shared.shared.items c.requires.each c.scale_of-scale.ensures.within c.in_ok-shared.ensures)

pub share_all-requires-clause-few : goal.share_all-requires-clause-few
share_all-requires-clause-few c =
    omega (arith, ap (λ (ts : List CostTable). length ts) c.as_mut_slice.ensures.value, length_all_zip (IsScaled c.scale_of-scale.result) c.args.tables.now c.in_ok-shared.shared.items c.in_ok-shared.ensures, few-tables c.args.sizes.now c.args.tables.now c.requires.each, c.requires.cells)

pub by_depth-requires-clause-some : goal.by_depth-requires-clause-some
by_depth-requires-clause-some c =
    let shared = c.in_ok-shared.shared.items in
    let new = c.share_all.new.tables in
    let sharing = subst (λ (ts : List CostTable). IsSharing c.args.sizes.now ts new) c.as_mut_slice.ensures.value c.in_ok-share_all.ensures in
    let scopes = sharing.scopes ∙ scopes-scaled c.scale_of-scale.result c.args.tables.now shared c.in_ok-shared.ensures in
    let some = scopes-some new c.args.tables.now scopes (All-weaker (IsTableOf c.args.sizes.now) (λ (t : CostTable). 1 ≤ length t.scope) (λ t of. of.some) c.args.tables.now c.requires.each) in
    let long : length new ≡ c.in_ok-shared.shared.len = omega (arith, c.share_all.auto.tables, c.as_mut_slice.ensures.len) in
    subst (λ (ts : List CostTable). All (λ (t : CostTable). 1 ≤ length t.scope) ts) (sym (take_at new (drop (length new) shared) c.in_ok-shared.shared.len long)) some

pub returns : goal.returns
returns c =
    let shared = c.in_ok-shared.shared.items in
    let new = c.share_all.new.tables in
    let sharing = subst (λ (ts : List CostTable). IsSharing c.args.sizes.now ts new) c.as_mut_slice.ensures.value c.in_ok-share_all.ensures in
    let long : length new ≡ c.in_ok-shared.shared.len = omega (arith, c.share_all.auto.tables, c.as_mut_slice.ensures.len) in
    let depths = subst (λ (ts : List CostTable). AreByDepth c.args.sizes.now ts [] c.in_ok-depths.depths) (take_at new (drop (length new) shared) c.in_ok-shared.shared.len long) c.in_ok-depths.ensures in
    λ joints. shared-costs c.args.sizes.now c.args.tables.now joints shared new c.scale_of-scale.result c.in_ok-depths.depths c.scale_of-scale.ensures.power c.scale_of-scale.ensures.some c.scale_of-scale.ensures.within c.in_ok-shared.ensures sharing depths
