use Rattle.agent_cells.proofs.CellLaws.{written}
use Rattle.agent_cells.proofs.MarkLaws.{leaves_unmarked, leaves_as}
use Rattle.agent_cells.proofs.cell.Cell.handle.Goals as goal

pub returns-clause-marked : goal.returns-clause-marked
returns-clause-marked g c =
    let old = c.as_mut_slice.ensures.value in
    leaves_as _ c.as_mut_slice.result.now c.deliver.new.tails _ _ old (written _ c.args.self.now.tails.items c.deliver.new.tails c.as_mut_slice.result.now c.args.self.now.tails.ok.0 c.deliver.ensures.same.size old)
    (leaves_unmarked c.as_mut_slice.result.now c.deliver.new.tails _ c.in_ok-out.out _ c.in_ok-deliver.ensures.sent c.mark_receivers.ensures.marked)
