use Rattle.std.proofs.Common.{ap, ◌∙◌, refl, subst, sym, List, ℕ}
use Rattle.std.specs.List.Sorted.{IsStrictlyIncreasing}
use Rattle.protocol_steps.specs.Stamps.{post}
use Rattle.protocol_steps.specs.Deeds.{posted_to}
use Rattle.worker_laws.specs.Cells.{grown}
use Rattle.agent_cells.specs.Links.{lanes_sent}
use Rattle.agent_cells.proofs.ResultLaws.{on_ok}
use Rattle.agent_cells.proofs.CellLaws.{started_cell, written}
use Rattle.agent_cells.proofs.cell.Cell.try_begin.Goals as goal

pub returns-clause-ok : goal.returns-clause-ok
returns-clause-ok g c =
    let old = c.as_mut_slice.ensures.value in
    on_ok c.deliver.result c.deliver.ensures.sent (λ sent.
    started_cell _ _ _ (c.requires.cell.fresh refl) (subst (λ (ns : List ℕ). IsStrictlyIncreasing ns) (sym c.requires.cell.sent) c.requires.cell.ascend) c.requires.cell.sent c.requires.cell.taken
    c.in_ok-out.ensures.start c.in_ok-out.ensures.receivers refl refl refl
    (ap lanes_sent (written _ c.args.self.now.tails.items c.deliver.new.tails _ c.args.self.now.tails.ok.0 c.deliver.ensures.same.size old) ∙ sent ∙ ap (λ ts. grown (λ j. posted_to j (post 0 c.in_ok-out.out)) (lanes_sent ts)) old))
