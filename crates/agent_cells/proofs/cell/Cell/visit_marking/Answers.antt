use Rattle.agent_cells.proofs.CellLaws.{sound_on, tails_peers, heads_peers, history_on, failed}
use Rattle.std.proofs.Common.{◌∙◌}
use Rattle.agent_cells.proofs.cell.Cell.visit_marking.Goals as goal

pub returns-in-Err-clause-cell : goal.returns-in-Err-clause-cell
returns-in-Err-clause-cell g c =
    let t = c.try_visit-outcome.ensures in
    sound_on _ _ _ _ _ _ c.requires.cell (t.begun ∙ c.requires.begun) t.origin t.me (tails_peers _ _ t.links.tails) (heads_peers _ _ t.links.heads) (failed _)

pub returns-in_default-outcome-clause-cell : goal.returns-in_default-outcome-clause-cell
returns-in_default-outcome-clause-cell g c =
    let t = c.try_visit-outcome.ensures in
    sound_on _ _ _ _ _ _ c.requires.cell (t.begun ∙ c.requires.begun) t.origin t.me (tails_peers _ _ t.links.tails) (heads_peers _ _ t.links.heads)
    (λ _. history_on _ _ _ (c.requires.cell.running c.requires.begun c.in_default.is) c.in_default-outcome.ensures.ok)
