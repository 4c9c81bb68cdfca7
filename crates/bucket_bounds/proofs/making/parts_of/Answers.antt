use Rattle.std.proofs.Common.{◌≤◌, ◌++◌, List, length, sym, subst}
use Rattle.std.specs.List.{All, AllZip}
use Rattle.std.proofs.lemmas.Result.{IfOk-weaker}
use Rattle.dcop_base.specs.Limits.{joined_limit}
use Rattle.dcop_base.specs.Table.{CostTable}
use Rattle.shared_costs.specs.Sharing.{IsShare}
use Rattle.shared_costs.specs.Tables.{IsTableOver}
use Rattle.bucket_bounds.specs.Groups.{IsGroup, AreGroups}
use Rattle.bucket_bounds.specs.Parting.{AreTooWide, ArePartedDuly}
use Rattle.bucket_bounds.specs.Joining.{AreUncapped}
use Rattle.bucket_bounds.specs.Parts.{IsJoinOf, AreGroupsJoined}
use Rattle.bucket_bounds.specs.declared.group.Group.{Group}
use Rattle.bucket_bounds.proofs.GroupLaws.{wider_groups}
use Rattle.bucket_bounds.proofs.PartLaws.{items_are, groups_uncapped, joined_are, parts_are, parted_is}
use Rattle.bucket_bounds.proofs.making.parts_of.Goals as goal

pub groups_of-requires-clause-tables : goal.groups_of-requires-clause-tables
groups_of-requires-clause-tables c =
    let items = items_are c.args.sizes.now c.args.var c.args.tables.now c.args.came.now c.new-items.result.items c.put_by_cells.new.among.items c.put_by_cells-2.new.among.items
    c.new-items.ensures.items c.in_ok-put_by_cells.ensures.put c.in_ok-put_by_cells-2.ensures.put c.requires.tables c.requires.came c.requires.capped in
    subst (λ (ts : List CostTable). All (IsTableOver c.args.sizes.now) ts) (sym c.as_slice.ensures.value) (λ k d lt. (items k d lt).0)

pub joined_tables-requires-clause-groups : goal.joined_tables-requires-clause-groups
joined_tables-requires-clause-groups c =
    subst (λ (gs : List Group). All (IsGroup c.args.sizes.now joined_limit) gs) (sym c.as_slice-2.ensures.value) (wider_groups c.args.sizes.now c.args.limit joined_limit c.in_ok-groups.groups.items c.requires.limit c.in_ok-groups.ensures.groups.each)

pub joined_tables-requires-clause-capped : goal.joined_tables-requires-clause-capped
joined_tables-requires-clause-capped c =
    subst (λ (gs : List Group). All (λ g. AreUncapped c.args.sizes.now g.tables.items) gs) (sym c.as_slice-2.ensures.value)
    (groups_uncapped c.args.sizes.now c.args.var c.args.tables.now c.args.came.now c.new-items.result.items c.put_by_cells.new.among.items c.put_by_cells-2.new.among.items
    c.new-items.ensures.items c.in_ok-put_by_cells.ensures.put c.in_ok-put_by_cells-2.ensures.put c.requires.tables c.requires.came c.requires.capped
    c.args.limit c.in_ok-groups.groups.items (subst (λ (ts : List CostTable). AreGroups c.args.sizes.now c.args.limit ts c.in_ok-groups.groups.items) c.as_slice.ensures.value c.in_ok-groups.ensures.groups))

pub shared_tables-requires-clause-tables : goal.shared_tables-requires-clause-tables
shared_tables-requires-clause-tables c =
    joined_are c.args.sizes.now c.args.var c.args.tables.now c.args.came.now c.new-items.result.items c.put_by_cells.new.among.items c.put_by_cells-2.new.among.items
    c.new-items.ensures.items c.in_ok-put_by_cells.ensures.put c.in_ok-put_by_cells-2.ensures.put c.requires.tables c.requires.came c.requires.capped
    c.args.limit c.in_ok-groups.groups.items (subst (λ (ts : List CostTable). AreGroups c.args.sizes.now c.args.limit ts c.in_ok-groups.groups.items) c.as_slice.ensures.value c.in_ok-groups.ensures.groups)
    c.in_ok-joined.joined.items (subst (λ (gs : List Group). AllZip (λ g t. IsJoinOf c.args.sizes.now g.tables.items t) gs c.in_ok-joined.joined.items) c.as_slice-2.ensures.value c.in_ok-joined.ensures)

pub returns-clause-parts : goal.returns-clause-parts
returns-clause-parts c =
    IfOk-weaker c.shared_tables.result (λ parts. IsShare c.args.sizes.now c.args.var c.in_ok-joined.joined.items parts.items) (λ parts. AreGroupsJoined c.args.sizes.now c.args.limit c.args.var (c.args.tables.now ++ c.args.came.now) parts.items)
    (λ parts shared. parts_are c.args.sizes.now c.args.var c.args.tables.now c.args.came.now c.new-items.result.items c.put_by_cells.new.among.items c.put_by_cells-2.new.among.items
    c.new-items.ensures.items c.in_ok-put_by_cells.ensures.put c.in_ok-put_by_cells-2.ensures.put c.requires.tables c.requires.came c.requires.capped
    c.args.limit c.in_ok-groups.groups.items (subst (λ (ts : List CostTable). AreGroups c.args.sizes.now c.args.limit ts c.in_ok-groups.groups.items) c.as_slice.ensures.value c.in_ok-groups.ensures.groups)
    c.in_ok-joined.joined.items (subst (λ (gs : List Group). AllZip (λ g t. IsJoinOf c.args.sizes.now g.tables.items t) gs c.in_ok-joined.joined.items) c.as_slice-2.ensures.value c.in_ok-joined.ensures)
    parts.items shared) c.shared_tables.ensures

pub returns-clause-parted : goal.returns-clause-parted
returns-clause-parted c =
    IfOk-weaker c.shared_tables.result (λ parts. IsShare c.args.sizes.now c.args.var c.in_ok-joined.joined.items parts.items) (λ parts. 2 ≤ length parts.items → AreTooWide c.args.sizes.now c.args.limit (c.args.tables.now ++ c.args.came.now))
    (λ parts shared. parted_is c.args.sizes.now c.args.var c.args.tables.now c.args.came.now c.new-items.result.items c.put_by_cells.new.among.items c.put_by_cells-2.new.among.items
    c.new-items.ensures.items c.in_ok-put_by_cells.ensures.put c.in_ok-put_by_cells-2.ensures.put c.requires.tables c.requires.came c.requires.capped
    c.args.limit c.in_ok-groups.groups.items (subst (λ (ts : List CostTable). AreGroups c.args.sizes.now c.args.limit ts c.in_ok-groups.groups.items) c.as_slice.ensures.value c.in_ok-groups.ensures.groups)
    c.in_ok-joined.joined.items (subst (λ (gs : List Group). AllZip (λ g t. IsJoinOf c.args.sizes.now g.tables.items t) gs c.in_ok-joined.joined.items) c.as_slice-2.ensures.value c.in_ok-joined.ensures)
    parts.items shared (subst (λ (ts : List CostTable). ArePartedDuly c.args.sizes.now c.args.limit ts c.in_ok-groups.groups.items) c.as_slice.ensures.value c.in_ok-groups.ensures.parted)) c.shared_tables.ensures
