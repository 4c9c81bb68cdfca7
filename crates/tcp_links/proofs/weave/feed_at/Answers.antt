use Rattle.std.proofs.Common.{◌∙◌, ◌++◌, ap, ap₂, refl, inl, inr}
use Rattle.link_records.specs.Keeping.{keeps}
use Rattle.tcp_links.proofs.WeaveLaws.{one_quiet, one_knows_so, feed_can, fed_link, inside_list}
use Rattle.fifo_links.specs.Link.{taken_from, sent_on}
use Rattle.tcp_links.proofs.DrainLaws.{head_none, prefix_none}
use Rattle.tcp_links.proofs.NotedLaws.{to_noted, to_fed, noted_fed, noted_kept, fed_kept}
use Rattle.tcp_links.proofs.LeftLaws.{ends_none}
use Rattle.tcp_links.proofs.weave.feed_at.Goals as goal

pub feed_link-requires-clause-cell : goal.feed_link-requires-clause-cell
feed_link-requires-clause-cell g c =
    (feed_can (λ b. (goal.Machine-dyn g (b.vtable, b.value)).meaning b.value) c.args.cells.now c.slot-at.result c.from-from.result c.index-cells-at.result c.args.link.now c.args.ends.now (c.slot-at.ensures ∙ c.to-to.ensures ∙ c.requires.link.1) (c.from-from.ensures ∙ c.requires.link.0) c.requires.inside c.index-cells-at.is c.requires.can).0

pub feed_link-requires-clause-joined : goal.feed_link-requires-clause-joined
feed_link-requires-clause-joined g c =
    (feed_can (λ b. (goal.Machine-dyn g (b.vtable, b.value)).meaning b.value) c.args.cells.now c.slot-at.result c.from-from.result c.index-cells-at.result c.args.link.now c.args.ends.now (c.slot-at.ensures ∙ c.to-to.ensures ∙ c.requires.link.1) (c.from-from.ensures ∙ c.requires.link.0) c.requires.inside c.index-cells-at.is c.requires.can).1

pub feed_link-requires-clause-peer : goal.feed_link-requires-clause-peer
feed_link-requires-clause-peer g c =
    (feed_can (λ b. (goal.Machine-dyn g (b.vtable, b.value)).meaning b.value) c.args.cells.now c.slot-at.result c.from-from.result c.index-cells-at.result c.args.link.now c.args.ends.now (c.slot-at.ensures ∙ c.to-to.ensures ∙ c.requires.link.1) (c.from-from.ensures ∙ c.requires.link.0) c.requires.inside c.index-cells-at.is c.requires.can).2

pub returns-in_err-ends-clause-quiet : goal.returns-in_err-ends-clause-quiet
returns-in_err-ends-clause-quiet g c =
    one_quiet (λ b. (goal.Machine-dyn g (b.vtable, b.value)).meaning b.value) c.args.cells.now c.slot-at.result c.feed_link.new.cell c.index-cells-at.result (inside_list c.args.cells.now c.slot-at.result c.args.link.now.receiver (c.slot-at.ensures ∙ c.to-to.ensures ∙ c.requires.link.1) c.requires.inside) c.feed_link.ensures.quiet

pub returns-in_err-ends-clause-known : goal.returns-in_err-ends-clause-known
returns-in_err-ends-clause-known g c =
    one_knows_so (λ b. (goal.Machine-dyn g (b.vtable, b.value)).meaning b.value) c.args.cells.now c.slot-at.result c.from-from.result c.args.link.now.receiver c.args.link.now.sender c.feed_link.new.cell c.index-cells-at.result (c.slot-at.ensures ∙ c.to-to.ensures ∙ c.requires.link.1) (c.from-from.ensures ∙ c.requires.link.0) c.requires.inside c.feed_link.ensures.others

pub returns-clause-quiet : goal.returns-clause-quiet
returns-clause-quiet g c =
    one_quiet (λ b. (goal.Machine-dyn g (b.vtable, b.value)).meaning b.value) c.args.cells.now c.slot-at.result c.feed_link.new.cell c.index-cells-at.result (inside_list c.args.cells.now c.slot-at.result c.args.link.now.receiver (c.slot-at.ensures ∙ c.to-to.ensures ∙ c.requires.link.1) c.requires.inside) c.feed_link.ensures.quiet

pub returns-clause-known : goal.returns-clause-known
returns-clause-known g c =
    one_knows_so (λ b. (goal.Machine-dyn g (b.vtable, b.value)).meaning b.value) c.args.cells.now c.slot-at.result c.from-from.result c.args.link.now.receiver c.args.link.now.sender c.feed_link.new.cell c.index-cells-at.result (c.slot-at.ensures ∙ c.to-to.ensures ∙ c.requires.link.1) (c.from-from.ensures ∙ c.requires.link.0) c.requires.inside c.feed_link.ensures.others

pub returns-clause-fed : goal.returns-clause-fed
returns-clause-fed g c =
    λ x at. fed_link (λ b. (goal.Machine-dyn g (b.vtable, b.value)).meaning b.value) c.args.cells.now c.slot-at.result c.from-from.result x c.feed_link.new.cell c.args.link.now c.keep.new.self c.args.ends.now _ c.args.passing.now c.as_slice.result.now (c.slot-at.ensures ∙ c.to-to.ensures ∙ c.requires.link.1) (c.from-from.ensures ∙ c.requires.link.0) c.requires.inside at
    c.feed_link.ensures.end (c.as_slice.ensures.value ∙ c.take_lists-drained.ensures.lists.1) c.in_ok-ends.ensures.fed c.in_ok-ends.ensures.waits c.in_ok-ends.ensures.none refl (c.keep.ensures.kept ∙ ap₂ (keeps c.args.link.now) c.take_lists-drained.ensures.lists.0 c.take_lists-drained.ensures.lists.1)

pub returns-then-rests-clause-ends : goal.returns-then-rests-clause-ends
returns-then-rests-clause-ends g c = ends_none c.args.ends.now

pub returns-then-rests-clause-kept : goal.returns-then-rests-clause-kept
returns-then-rests-clause-kept g c = inl refl

pub returns-in_err-ends-clause-ends : goal.returns-in_err-ends-clause-ends
returns-in_err-ends-clause-ends g c = record { drain = head_none c.args.ends.now.drain; feed = c.feed_link.ensures.end; drained = prefix_none (taken_from c.args.ends.now.drain); fed = c.feed_link.ensures.more }

pub returns-in_err-ends-clause-kept : goal.returns-in_err-ends-clause-kept
returns-in_err-ends-clause-kept g c = inl refl

pub returns-clause-ends : goal.returns-clause-ends
returns-clause-ends g c = record { drain = head_none c.args.ends.now.drain; feed = c.feed_link.ensures.end; drained = prefix_none (taken_from c.args.ends.now.drain); fed = c.feed_link.ensures.more }

pub returns-clause-kept : goal.returns-clause-kept
returns-clause-kept g c = inr (c.keep.ensures.kept ∙ ap₂ (keeps c.args.link.now) c.take_lists-drained.ensures.lists.0 c.take_lists-drained.ensures.lists.1)

pub returns-then-rests-clause-noted : goal.returns-then-rests-clause-noted
returns-then-rests-clause-noted g c = λ t. to_noted c.args.link.now c.args.ends.now c.args.passing.now t

pub returns-in_err-ends-clause-noted : goal.returns-in_err-ends-clause-noted
returns-in_err-ends-clause-noted g c = λ t. noted_fed c.args.link.now c.args.ends.now _ c.args.passing.now t refl c.feed_link.ensures.more

pub returns-clause-noted : goal.returns-clause-noted
returns-clause-noted g c = λ t. noted_kept c.args.link.now c.keep.new.self c.args.ends.now _ c.args.passing.now t (c.keep.ensures.kept ∙ ap₂ (keeps c.args.link.now) c.take_lists-drained.ensures.lists.0 c.take_lists-drained.ensures.lists.1) refl (c.in_ok-ends.ensures.fed ∙ ap (λ es. sent_on c.args.ends.now.feed ++ es) (c.as_slice.ensures.value ∙ c.take_lists-drained.ensures.lists.1))

pub returns-then-rests-clause-all : goal.returns-then-rests-clause-all
returns-then-rests-clause-all g c = λ t. to_fed c.args.link.now c.args.ends.now c.args.passing.now t

pub returns-clause-all : goal.returns-clause-all
returns-clause-all g c = λ t. fed_kept c.args.link.now c.keep.new.self c.args.ends.now _ c.args.passing.now t (c.keep.ensures.kept ∙ ap₂ (keeps c.args.link.now) c.take_lists-drained.ensures.lists.0 c.take_lists-drained.ensures.lists.1) refl (c.in_ok-ends.ensures.fed ∙ ap (λ es. sent_on c.args.ends.now.feed ++ es) (c.as_slice.ensures.value ∙ c.take_lists-drained.ensures.lists.1))
