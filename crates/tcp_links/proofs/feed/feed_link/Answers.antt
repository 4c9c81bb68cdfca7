use Rattle.std.proofs.Common.{◌≡◌, arith}
use Rattle.std.proofs.lemmas.Bool.Decides.{nat_tests}
use Rattle.agent_cells.specs.State.{heads_in}
use Rattle.agent_workers.proofs.CellLaws.{known_others}
use Rattle.tcp_links.proofs.FeedLaws.{cell_waits, cell_takes}
use Rattle.fifo_links.specs.Link.{sent_on}
use Rattle.tcp_links.proofs.DrainLaws.{prefix_same, prefix_then}
use Rattle.tcp_links.proofs.feed.feed_link.Goals as goal

pub returns-clause-others : goal.returns-clause-others
returns-clause-others g c = λ j ne. let e = c.settle_head.ensures in known_others c.args.from j (heads_in c.args.cell.now) (heads_in c.settle_head.new.self) ne e.heads.same e.heads.others

pub returns-clause-waits : goal.returns-clause-waits
returns-clause-waits g c =
    let e = c.settle_head.ensures in
    cell_waits (λ b. (goal.Machine-dyn g (b.vtable, b.value)).meaning b.value) c.args.cell.now c.settle_head.new.self c.args.from c.settle_head.result c.settle_head.new.tail e.cell e.quiet c.requires.peer e.settled

pub returns-clause-none : goal.returns-clause-none
returns-clause-none g c = λ none.
    let e = c.settle_head.ensures in
    let zero_is : c.settle_head.result ≡ 0 = grind (arith, nat_tests, none) in
    cell_takes (λ b. (goal.Machine-dyn g (b.vtable, b.value)).meaning b.value) c.args.cell.now c.settle_head.new.self c.args.from c.settle_head.result c.settle_head.new.tail e.cell e.quiet c.requires.peer e.settled zero_is

pub returns-in_err-send_all-clause-more : goal.returns-in_err-send_all-clause-more
returns-in_err-send_all-clause-more g c = c.send_all.ensures.more

pub returns-clause-more : goal.returns-clause-more
returns-clause-more g c = prefix_then (sent_on c.args.inner.now) (sent_on c.send_all.new.inner) (sent_on c.settle_head.new.tail) c.send_all.ensures.more (prefix_same (sent_on c.send_all.new.inner) (sent_on c.settle_head.new.tail) c.settle_head.ensures.sent)
