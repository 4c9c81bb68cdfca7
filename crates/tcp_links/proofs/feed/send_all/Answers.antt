use Rattle.std.proofs.Common.{◌≡◌, ◌∙◌, sym, take}
use Rattle.fifo_links.specs.Link.{sent_on}
use Rattle.tcp_links.proofs.DrainLaws.{prefix_more}
use Rattle.tcp_links.proofs.FeedLaws.{refused_still}
use Rattle.tcp_links.proofs.feed.send_all.Goals as goal

pub returns-in_err-copy_of-clause-more : goal.returns-in_err-copy_of-clause-more
returns-in_err-copy_of-clause-more c = prefix_more (sent_on c.args.inner.now) (sent_on c.loop-envelope.inner) (take c.loop-envelope.envelope-index c.args.arrived.now) c.loop-envelope.invariant.sent

pub returns-in_err-sealed-clause-more : goal.returns-in_err-sealed-clause-more
returns-in_err-sealed-clause-more c = prefix_more (sent_on c.args.inner.now) (sent_on c.loop-envelope.inner) (take c.loop-envelope.envelope-index c.args.arrived.now) c.loop-envelope.invariant.sent

pub returns-then-is_err-clause-more : goal.returns-then-is_err-clause-more
returns-then-is_err-clause-more c =
    let still = refused_still c.push.result _ (sent_on c.push.new.self ≡ sent_on c.loop-envelope.inner) (sym c.if-is_err.ensures.value) c.push.ensures.refused in
    prefix_more (sent_on c.args.inner.now) (sent_on c.push.new.self) (take c.loop-envelope.envelope-index c.args.arrived.now) (still ∙ c.loop-envelope.invariant.sent)

pub returns-clause-more : goal.returns-clause-more
returns-clause-more c = prefix_more (sent_on c.args.inner.now) (sent_on c.loop-envelope.inner) (take c.loop-envelope.envelope-index c.args.arrived.now) c.loop-envelope.invariant.sent
