use Rattle.agent_links.specs.Links.{one_node}
use Rattle.agent_links.proofs.LinkLaws.{all_linked}
use Rattle.agent_links.proofs.links.link_all.Goals as goal

pub returns : goal.returns
returns c =
    all_linked one_node c.args.known.now c.requires.beside c.in_ok-tails.tails.len c.in_ok-heads.heads.len c.in_ok-tails.tails.items c.link_rows.new.tails c.in_ok-heads.heads.items c.link_rows.new.heads
    c.in_ok-tails.ensures c.in_ok-heads.ensures (rw c.as_mut_slice.ensures.value at c.link_rows.ensures.tails) (rw c.as_mut_slice-2.ensures.value at c.link_rows.ensures.heads) c.in_ok-tails.tails.ok.0 c.in_ok-heads.heads.ok.0
    (rw (c.as_mut_slice.ensures.value, c.as_mut_slice-2.ensures.value) at c.in_ok-link_rows.ensures.added)
