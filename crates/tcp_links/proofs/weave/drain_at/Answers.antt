use Rattle.std.proofs.Common.{◌∙◌, ap, subst, refl}
use Rattle.node_exchange.specs.Passings.{Passing}
use Rattle.tcp_links.specs.Drains.{HasDrained}
use Rattle.tcp_links.proofs.WeaveLaws.{one_quiet, drain_can, drained_link, inside_list}
use Rattle.fifo_links.specs.Link.{sent_on}
use Rattle.tcp_links.proofs.DrainLaws.{prefix_none}
use Rattle.tcp_links.proofs.FeedLaws.{tail_none}
use Rattle.tcp_links.proofs.LeftLaws.{ends_none}
use Rattle.tcp_links.proofs.weave.drain_at.Goals as goal

pub drain_link-requires-clause-cell : goal.drain_link-requires-clause-cell
drain_link-requires-clause-cell g c =
    (drain_can (λ b. (goal.Machine-dyn g (b.vtable, b.value)).meaning b.value) c.args.cells.now c.slot-at.result c.to-to.result c.index-cells-at.result c.args.link.now c.args.ends.now (c.slot-at.ensures ∙ c.from-from.ensures ∙ c.requires.link.0) (c.to-to.ensures ∙ c.requires.link.1) c.requires.inside c.index-cells-at.is c.requires.can).0

pub drain_link-requires-clause-joined : goal.drain_link-requires-clause-joined
drain_link-requires-clause-joined g c =
    (drain_can (λ b. (goal.Machine-dyn g (b.vtable, b.value)).meaning b.value) c.args.cells.now c.slot-at.result c.to-to.result c.index-cells-at.result c.args.link.now c.args.ends.now (c.slot-at.ensures ∙ c.from-from.ensures ∙ c.requires.link.0) (c.to-to.ensures ∙ c.requires.link.1) c.requires.inside c.index-cells-at.is c.requires.can).1

pub drain_link-requires-clause-peer : goal.drain_link-requires-clause-peer
drain_link-requires-clause-peer g c =
    (drain_can (λ b. (goal.Machine-dyn g (b.vtable, b.value)).meaning b.value) c.args.cells.now c.slot-at.result c.to-to.result c.index-cells-at.result c.args.link.now c.args.ends.now (c.slot-at.ensures ∙ c.from-from.ensures ∙ c.requires.link.0) (c.to-to.ensures ∙ c.requires.link.1) c.requires.inside c.index-cells-at.is c.requires.can).2

pub returns-in_err-drain_link-clause-quiet : goal.returns-in_err-drain_link-clause-quiet
returns-in_err-drain_link-clause-quiet g c =
    one_quiet (λ b. (goal.Machine-dyn g (b.vtable, b.value)).meaning b.value) c.args.cells.now c.slot-at.result c.drain_link.new.cell c.index-cells-at.result (inside_list c.args.cells.now c.slot-at.result c.args.link.now.sender (c.slot-at.ensures ∙ c.from-from.ensures ∙ c.requires.link.0) c.requires.inside) c.drain_link.ensures.quiet

pub returns-clause-quiet : goal.returns-clause-quiet
returns-clause-quiet g c =
    one_quiet (λ b. (goal.Machine-dyn g (b.vtable, b.value)).meaning b.value) c.args.cells.now c.slot-at.result c.drain_link.new.cell c.index-cells-at.result (inside_list c.args.cells.now c.slot-at.result c.args.link.now.sender (c.slot-at.ensures ∙ c.from-from.ensures ∙ c.requires.link.0) c.requires.inside) c.drain_link.ensures.quiet

pub returns-clause-drained : goal.returns-clause-drained
returns-clause-drained g c = λ x at.
    drained_link (λ b. (goal.Machine-dyn g (b.vtable, b.value)).meaning b.value) c.args.cells.now c.slot-at.result c.to-to.result c.index-cells-at.result x c.drain_link.new.cell c.args.link.now c.args.ends.now _ c.drain_link.new.drained.items _ (ap (λ (p : Passing). p.drained) c.hold.ensures) (c.slot-at.ensures ∙ c.from-from.ensures ∙ c.requires.link.0) (c.to-to.ensures ∙ c.requires.link.1)
    c.requires.inside at c.drain_link.ensures.quiet c.drain_link.ensures.end (subst (λ es. HasDrained c.args.ends.now.drain es c.drain_link.new.inner c.drain_link.new.drained.items) c.new-drained.ensures.items c.in_ok-drain_link.ensures.drained) c.in_ok-drain_link.ensures.all refl refl

pub returns-then-is_still-clause-ends : goal.returns-then-is_still-clause-ends
returns-then-is_still-clause-ends g c = ends_none c.args.ends.now

pub returns-in_err-drain_link-clause-ends : goal.returns-in_err-drain_link-clause-ends
returns-in_err-drain_link-clause-ends g c = record { drain = c.drain_link.ensures.end; feed = tail_none c.args.ends.now.feed; drained = c.drain_link.ensures.more; fed = prefix_none (sent_on c.args.ends.now.feed) }

pub returns-clause-ends : goal.returns-clause-ends
returns-clause-ends g c = record { drain = c.drain_link.ensures.end; feed = tail_none c.args.ends.now.feed; drained = c.drain_link.ensures.more; fed = prefix_none (sent_on c.args.ends.now.feed) }
