use Rattle.std.proofs.Common.{ap}
use Rattle.worker_laws.specs.Cells.{peers}
use Rattle.agent_cells.specs.Links.{lanes_taken}
use Rattle.agent_cells.proofs.ResultLaws.{ok_of}
use Rattle.agent_cells.proofs.CellLaws.{sound_on, tails_peers, history_begins, failed}
use Rattle.agent_cells.proofs.cell.Cell.begin.Goals as goal

pub returns-then-is_err-clause-cell : goal.returns-then-is_err-clause-cell
returns-then-is_err-clause-cell g c =
    let t = c.try_begin-outcome.ensures in
    sound_on _ _ _ _ _ _ c.requires.cell t.begun t.origin t.me (tails_peers _ _ t.tails) (ap (λ h. peers (lanes_taken h.items)) t.heads) (failed _)

pub returns-else-is_err-clause-cell : goal.returns-else-is_err-clause-cell
returns-else-is_err-clause-cell g c =
    let t = c.try_begin-outcome.ensures in
    sound_on _ _ _ _ _ _ c.requires.cell t.begun t.origin t.me (tails_peers _ _ t.tails) (ap (λ h. peers (lanes_taken h.items)) t.heads)
    (λ _. history_begins _ _ (c.requires.cell.fresh c.requires.fresh).started (ok_of c.try_begin-outcome.result t.ok c.if-is_err.ensures.value))
