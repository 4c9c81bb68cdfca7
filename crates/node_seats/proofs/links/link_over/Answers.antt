use Rattle.std.proofs.Common.{List, length, ap, ◌∙◌}
use Rattle.std.specs.declared.vec.Vec.{Vec}
use Rattle.std.specs.declared.alloc.Global.{Global}
use Rattle.agent_cells.specs.Links.{Tail, Head}
use Rattle.agent_links.specs.Links.{rows_in}
use Rattle.node_seats.proofs.OverLaws.{all_over, before_none}
use Rattle.node_seats.proofs.links.link_over.Goals as goal

pub link_rows-requires-clause-before : goal.link_rows-requires-clause-before
link_rows-requires-clause-before g c =
    before_none c.args.plan.now 0 0 _ _ (length c.args.known.now) c.requires.plan.no_link (ap (λ (rows : List (Vec Tail Global)). rows_in rows) c.as_mut_slice.ensures.value ∙ c.in_ok-tails.ensures)
    (ap (λ (rows : List (Vec Head Global)). rows_in rows) c.as_mut_slice-2.ensures.value ∙ c.in_ok-heads.ensures)

pub returns-clause-links : goal.returns-clause-links
returns-clause-links g c =
    all_over c.args.plan.now c.link_rows.new.plan c.args.known.now c.requires.beside c.in_ok-tails.tails.len c.in_ok-heads.heads.len c.in_ok-tails.tails.items c.link_rows.new.tails c.in_ok-heads.heads.items c.link_rows.new.heads
    c.requires.plan.no_link c.in_ok-tails.ensures c.in_ok-heads.ensures (rw c.as_mut_slice.ensures.value at c.link_rows.ensures.tails) (rw c.as_mut_slice-2.ensures.value at c.link_rows.ensures.heads) c.in_ok-tails.tails.ok.0 c.in_ok-heads.heads.ok.0
    (rw (c.as_mut_slice.ensures.value, c.as_mut_slice-2.ensures.value) at c.in_ok-link_rows.ensures.added)
