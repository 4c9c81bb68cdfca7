use Rattle.std.proofs.Common.{List, get_or, sym, subst}
use Rattle.std.specs.List.{All}
use Rattle.dcop_base.specs.Limits.{joined_limit}
use Rattle.dcop_base.specs.Table.{CostTable}
use Rattle.util_join.specs.Join.{LiesIn}
use Rattle.bucket_bounds.specs.Joining.{HasGainedCosts}
use Rattle.bucket_bounds.proofs.GroupLaws.{scope_named}
use Rattle.bucket_bounds.proofs.JoinLaws.{held_lies, join_is}
use Rattle.bucket_bounds.proofs.joining.joined_of.Goals as goal

pub add_all-requires : goal.add_all-requires
add_all-requires c =
    let zero = c.in_ok-joined.joined in
    subst (λ (ts : List CostTable). All (LiesIn zero.scope zero.sizes) ts) (sym c.as_slice-2.ensures.value)
    (λ k d lt. held_lies c.args.sizes.now c.args.group.now.vars zero (get_or c.args.group.now.tables.items k d) c.in_ok-joined.ensures (c.requires.group.tables k d lt) (scope_named c.args.group.now.tables.items c.args.group.now.vars c.requires.group.vars k d lt))

pub returns : goal.returns
returns c =
    let zero = c.in_ok-joined.joined in
    let t = c.table-table.result in
    let gained : HasGainedCosts c.args.group.now.tables.items zero t =
    subst (λ (ts : List CostTable). HasGainedCosts ts zero t) c.as_slice-2.ensures.value
    (subst (λ (u : CostTable). HasGainedCosts c.as_slice-2.result.now zero u) (sym c.table-table.ensures) c.add_all.ensures) in
    join_is c.args.sizes.now joined_limit c.args.group.now zero t c.requires.group c.requires.capped c.in_ok-joined.ensures gained c.table_is_whole.ensures
