use Rattle.std.proofs.Common.{◌≡◌, List, length, take, drop, ◌++◌, sym, ap, subst, ◌∙◌}
use Rattle.std.proofs.lemmas.Result.{IfOk-weaker}
use Rattle.dcop_base.specs.Table.{CostTable}
use Rattle.shared_costs.specs.Sharing.{IsShare}
use Rattle.bucket_bounds.proofs.MiniLaws.{share_long}
use Rattle.bucket_bounds.proofs.PartLaws.{rewritten, share_none}
use Rattle.bucket_bounds.proofs.sharing.shared_tables.Goals as goal

pub returns : goal.returns
returns c =
    let old : List CostTable = c.args.tables.items in
    let copies : List CostTable = c.in_ok-shared.shared.items in
    let new : List CostTable = c.share_all.new.tables in
    let same : c.as_mut_slice.result.now ≡ old = c.as_mut_slice.ensures.value ∙ c.in_ok-shared.ensures ∙ c.as_slice.ensures.value in
    let is : IsShare c.args.sizes.now c.args.var old new = subst (λ (ts : List CostTable). IsShare c.args.sizes.now c.args.var ts new) same c.in_ok-share_all.ensures in
    let copied : copies ≡ old = c.in_ok-shared.ensures ∙ c.as_slice.ensures.value in
    let long = ap (λ (ts : List CostTable). length ts) (sym c.as_mut_slice.ensures.value) ∙ c.as_mut_slice.ensures.len in
    IfOk-weaker c.tables_of.result (λ t. t.items ≡ take c.in_ok-shared.shared.len (new ++ drop (length new) copies)) (λ t. IsShare c.args.sizes.now c.args.var old t.items)
    (λ t e. subst (λ (ts : List CostTable). IsShare c.args.sizes.now c.args.var old ts)
    (sym (e ∙ rewritten copies new c.in_ok-shared.shared.len long (share_long c.args.sizes.now c.args.var old new is ∙ ap (λ (ts : List CostTable). length ts) (sym copied)))) is) c.tables_of.ensures

pub returns-then-len-lt2 : goal.returns-then-len-lt2
returns-then-len-lt2 c = share_none c.args.sizes.now c.args.var c.args.tables.items c.requires.var c.requires.tables
