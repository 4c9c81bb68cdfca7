use Rattle.std.proofs.Common.{ℕ, List, sym, ap, ◌∙◌, subst}
use Rattle.std.specs.List.Sorted.{IsStrictlyIncreasing}
use Rattle.dcop_base.specs.Table.{has}
use Rattle.worker_laws.specs.Cells.{Lane, peers}
use Rattle.agent_cells.specs.Links.{lanes_sent, lanes_taken, known_of}
use Rattle.agent_cells.proofs.CellLaws.{written}
use Rattle.agent_cells.proofs.PlainLaws.{settled_plain}
use Rattle.agent_cells.proofs.cell.Cell.settle_to.Goals as goal

pub returns-clause-waiting : goal.returns-clause-waiting
returns-clause-waiting g c = λ alike.
    let me = c.args.self.now in
    let it = c.args.other.now in
    let s = c.settle_between.ensures in
    let tails = written _ me.tails.items c.settle_between.new.tails _ me.tails.ok.0 s.tails.same.size c.as_mut_slice.ensures.value in
    let heads = written _ it.heads.items c.settle_between.new.heads _ it.heads.ok.0 s.heads.same.size c.as_mut_slice-2.ensures.value in
    let sent = ap lanes_sent tails ∙ s.tails.sent ∙ ap lanes_sent c.as_mut_slice.ensures.value in
    let taken = ap lanes_taken heads ∙ s.heads.taken ∙ ap lanes_taken c.as_mut_slice-2.ensures.value in
    settled_plain _ _ _ _ _ _ _ (ap lanes_sent tails) (ap lanes_taken heads) (ap known_of heads)
    (subst (λ (ns : List ℕ). IsStrictlyIncreasing ns) (sym (ap peers sent ∙ c.requires.cell.sent)) c.requires.cell.ascend)
    (subst (λ (ns : List ℕ). IsStrictlyIncreasing ns) (sym (ap peers taken ∙ c.requires.other_cell.taken)) c.requires.other_cell.ascend)
    (ap (λ (ls : List Lane). has (peers ls) it.me) sent ∙ alike ∙ sym (ap (λ (ls : List Lane). has (peers ls) me.me) taken))
    s.settled
