use Rattle.agent_links.specs.Links.{rows_in, one_node}
use Rattle.agent_links.proofs.LinkLaws.{added_one}
use Rattle.agent_links.proofs.links.link_one.Goals as goal

pub returns-clause-added : goal.returns-clause-added
returns-clause-added c =
    added_one one_node c.args.from c.args.to c.in-Ok.tail c.in-Ok.head (rows_in c.args.tails.now) _ (rows_in c.args.heads.now) _
    (λ e. c.in-Ok.ensures.ends) c.in-Ok.ensures.sent c.in-Ok.ensures.taken c.in_ok-push_at.ensures.added c.in_ok-push_at-2.ensures.added
