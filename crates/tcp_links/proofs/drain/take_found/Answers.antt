use Rattle.fifo_links.specs.Link.{taken_from}
use Rattle.tcp_links.proofs.DrainLaws.{prefix_none, prefix_more}
use Rattle.tcp_links.proofs.drain.take_found.Goals as goal

pub returns-in_err-found-clause-more : goal.returns-in_err-found-clause-more
returns-in_err-found-clause-more c = prefix_none (taken_from c.args.inner.now)

pub returns-in_err-push-clause-more : goal.returns-in_err-push-clause-more
returns-in_err-push-clause-more c = prefix_more (taken_from c.args.inner.now) (taken_from c.take_all.new.self) c.take_all.ensures.taken.items c.take_all.ensures.taken.taken

pub returns-clause-more : goal.returns-clause-more
returns-clause-more c = prefix_more (taken_from c.args.inner.now) (taken_from c.take_all.new.self) c.take_all.ensures.taken.items c.take_all.ensures.taken.taken
