use Rattle.std.proofs.Common.{◌∙◌, Err, refl, sym, ap, length, subst}
use Rattle.worker_laws.specs.Cells.{EachAre}
use Rattle.worker_laws.specs.OneNode.{home}
use Rattle.worker_laws.proofs.EachLaws.{each_long}
use Rattle.worker_laws.specs.Wires.{HaveHeld}
use Rattle.agent_cells.proofs.CellLaws.{written}
use Rattle.agent_workers.proofs.JoinLaws.{each_stays_then}
use Rattle.node_exchange.specs.Passings.{SamePassing, AreAcross, NothingCame}
use Rattle.node_exchange.specs.Faults.{IsByteFault}
use Rattle.tcp_links.specs.Faults.{IsOtherFault}
use Rattle.tcp_links.specs.Over.{IsExchangeFault}
use Rattle.tcp_links.proofs.ExchangeLaws.{twice_written, long_written, no_difference, nothing_came, are_across, can_drain, can_feed, still_taken, fault_on, woven_on, idle_on, caught_up, exchange_on, held_on, all_drained, has_exchanged, idle_slices, emptied_slices, can_drain_slices, sent_slices, taken_slices, links_slices, links_of, sent_where_still, taken_where_still, drained_slices, can_feed_slices, fed_slices, note_slices, woven_kept, to_note, taken_one, passings_are, drain_stays}
use Rattle.tcp_links.specs.Left.{AreSameEnds}
use Rattle.tcp_links.proofs.LeftLaws.{all_ends_then, keeps_parts}
use Rattle.tcp_links.proofs.PartLaws.{lost, part_none, part, keep_slices}
use Rattle.tcp_links.proofs.OverLaws.{err_on}
use Rattle.node_exchange.proofs.TurnLaws.{turned_none, turned_less, turned_long, first_whole}
use Rattle.tcp_links.specs.Left.{pairs_lost_by, AreNotedAfter}
use Rattle.node_exchange.specs.Turned.{loads, AreTurned, AreTurnedWith, HaveCarriedFirst, lost_by as lost_in}
use Rattle.tcp_links.proofs.LostLaws.{turned_fault}
use Rattle.tcp_links.proofs.CarriedLaws.{taken_kept, taken_first, taken_more, taken_still, exchange_fault, exchange_none, exchange_part, exchange_whole}
use Rattle.tcp_links.specs.Kept.{AreFedNoted, AreFedButOne, HasSameFeed}
use Rattle.tcp_links.proofs.NotedLaws.{all_fed_on, all_kept_fed, fed_but_one, fed_after, but_one_as}
use Rattle.tcp_links.proofs.exchange.exchange.Goals as goal

pub drain_all-requires-clause-can : goal.drain_all-requires-clause-can
drain_all-requires-clause-can g c =
    can_drain_slices (λ b. (goal.Machine-dyn g (b.vtable, b.value)).meaning b.value) c.args.cells.now c.args.plan.now.kept.items c.as_slice-2.result.now c.args.plan.now.ends.items c.as_mut_slice.result.now c.as_slice-2.ensures.value c.as_mut_slice.ensures.value (can_drain (λ b. (goal.Machine-dyn g (b.vtable, b.value)).meaning b.value) c.args.plan.now.nodes c.args.plan.now.agents c.args.plan.now.kept.items c.args.plan.now.ends.items c.args.cells.now c.requires.woven c.requires.sound)

pub drain_all-requires-clause-drained : goal.drain_all-requires-clause-drained
drain_all-requires-clause-drained g c =
    sent_slices (λ b. (goal.Machine-dyn g (b.vtable, b.value)).meaning b.value) c.args.cells.now c.still_cells-still.result c.args.plan.now.kept.items c.as_slice-2.result.now c.args.plan.now.ends.items c.as_mut_slice.result.now c.as_slice-2.ensures.value c.as_mut_slice.ensures.value
    (sent_where_still (λ b. (goal.Machine-dyn g (b.vtable, b.value)).meaning b.value) c.args.cells.now c.args.plan.now.seen.items c.as_slice.result.now c.still_cells-still.result c.args.plan.now.kept.items c.args.plan.now.ends.items c.as_slice.ensures.value c.still_cells-still.ensures c.requires.ready.sent)

pub drain_all-requires-clause-idle : goal.drain_all-requires-clause-idle
drain_all-requires-clause-idle g c =
    ((home c.args.plan.now.nodes c.args.plan.now.agents), idle_slices (home c.args.plan.now.nodes c.args.plan.now.agents) c.args.plan.now.kept.items c.as_slice-2.result.now c.args.plan.now.passings.items c.as_mut_slice-2.result.now c.as_slice-2.ensures.value c.as_mut_slice-2.ensures.value c.requires.ready.idle)

pub pass_all-requires-clause-across : goal.pass_all-requires-clause-across
pass_all-requires-clause-across g c κs within =
    let idle = idle_slices (home c.args.plan.now.nodes c.args.plan.now.agents) c.args.plan.now.kept.items c.as_slice-2.result.now c.args.plan.now.passings.items c.as_mut_slice-2.result.now c.as_slice-2.ensures.value c.as_mut_slice-2.ensures.value c.requires.ready.idle in
    let drained = drained_slices (λ b. (goal.Machine-dyn g (b.vtable, b.value)).meaning b.value) (home c.args.plan.now.nodes c.args.plan.now.agents) c.args.cells.now c.args.plan.now.kept.items c.as_slice-2.result.now c.args.plan.now.ends.items c.as_mut_slice.result.now c.drain_all.new.ends c.drain_all.new.passings c.as_slice-2.ensures.value c.as_mut_slice.ensures.value (c.in_ok-drain_all.ensures.drained (home c.args.plan.now.nodes c.args.plan.now.agents) idle) in
    let long = drained.counted ∙ sym c.requires.ready.idle.size ∙ ap length (sym c.as_mut_slice-2.ensures.value) in
    let here = c.as_mut_slice-3.ensures.value ∙ written _ c.args.plan.now.passings.items c.drain_all.new.passings c.as_mut_slice-2.result.now c.args.plan.now.passings.ok.0 long c.as_mut_slice-2.ensures.value in
    subst (AreAcross c.args.plan.now.nodes) (sym here) (are_across (λ b. (goal.Machine-dyn g (b.vtable, b.value)).meaning b.value) c.args.plan.now.nodes c.args.plan.now.agents c.args.plan.now.kept.items c.args.plan.now.ends.items c.drain_all.new.ends c.args.cells.now c.drain_all.new.cells c.drain_all.new.passings c.requires.woven c.drain_all.ensures.quiet drained c.requires.plan.nodes.0)

pub returns-in-Err-clause-left : goal.returns-in-Err-clause-left
returns-in-Err-clause-left g c =
    let idle = idle_slices (home c.args.plan.now.nodes c.args.plan.now.agents) c.args.plan.now.kept.items c.as_slice-2.result.now c.args.plan.now.passings.items c.as_mut_slice-2.result.now c.as_slice-2.ensures.value c.as_mut_slice-2.ensures.value c.requires.ready.idle in
    let drained = drained_slices (λ b. (goal.Machine-dyn g (b.vtable, b.value)).meaning b.value) (home c.args.plan.now.nodes c.args.plan.now.agents) c.args.cells.now c.args.plan.now.kept.items c.as_slice-2.result.now c.args.plan.now.ends.items c.as_mut_slice.result.now c.drain_all.new.ends c.drain_all.new.passings c.as_slice-2.ensures.value c.as_mut_slice.ensures.value (c.in_ok-drain_all.ensures.drained (home c.args.plan.now.nodes c.args.plan.now.agents) idle) in
    let long = drained.counted ∙ sym c.requires.ready.idle.size ∙ ap length (sym c.as_mut_slice-2.ensures.value) in
    let here = c.as_mut_slice-3.ensures.value ∙ written _ c.args.plan.now.passings.items c.drain_all.new.passings c.as_mut_slice-2.result.now c.args.plan.now.passings.ok.0 long c.as_mut_slice-2.ensures.value in
    let quiet = c.drain_all.ensures.quiet in
    subst (IsExchangeFault (λ b. (goal.Machine-dyn g (b.vtable, b.value)).meaning b.value) c.args.round c.args.plan.now c.args.cells.now _ c.drain_all.new.cells) (sym c.node_fault.ensures)
    (fault_on (λ b. (goal.Machine-dyn g (b.vtable, b.value)).meaning b.value) c.args.plan.now.nodes c.args.plan.now.agents c.args.plan.now.kept.items c.args.plan.now.ends.items c.drain_all.new.ends c.args.cells.now c.drain_all.new.cells c.drain_all.new.passings c.requires.woven quiet drained c.args.round c.args.plan.now _ c.drain_all.new.cells c.in-Err.fault refl refl refl (lost (λ b. (goal.Machine-dyn g (b.vtable, b.value)).meaning b.value) c.args.cells.now c.drain_all.new.cells quiet c.args.plan.now.kept.items) (part_none (λ b. (goal.Machine-dyn g (b.vtable, b.value)).meaning b.value) c.args.cells.now c.drain_all.new.cells quiet c.args.plan.now.kept.items) (subst (λ ps. IsByteFault c.args.plan.now.nodes ps c.in-Err.fault) here c.in-Err.ensures.differs))

pub returns-in-Err-clause-honest : goal.returns-in-Err-clause-honest
returns-in-Err-clause-honest g c =
    λ honest.
    let idle = idle_slices (home c.args.plan.now.nodes c.args.plan.now.agents) c.args.plan.now.kept.items c.as_slice-2.result.now c.args.plan.now.passings.items c.as_mut_slice-2.result.now c.as_slice-2.ensures.value c.as_mut_slice-2.ensures.value c.requires.ready.idle in
    let drained = drained_slices (λ b. (goal.Machine-dyn g (b.vtable, b.value)).meaning b.value) (home c.args.plan.now.nodes c.args.plan.now.agents) c.args.cells.now c.args.plan.now.kept.items c.as_slice-2.result.now c.args.plan.now.ends.items c.as_mut_slice.result.now c.drain_all.new.ends c.drain_all.new.passings c.as_slice-2.ensures.value c.as_mut_slice.ensures.value (c.in_ok-drain_all.ensures.drained (home c.args.plan.now.nodes c.args.plan.now.agents) idle) in
    let long = drained.counted ∙ sym c.requires.ready.idle.size ∙ ap length (sym c.as_mut_slice-2.ensures.value) in
    let here = c.as_mut_slice-3.ensures.value ∙ written _ c.args.plan.now.passings.items c.drain_all.new.passings c.as_mut_slice-2.result.now c.args.plan.now.passings.ok.0 long c.as_mut_slice-2.ensures.value in
    let none = subst NothingCame (sym here) (nothing_came (λ b. (goal.Machine-dyn g (b.vtable, b.value)).meaning b.value) c.args.plan.now.nodes c.args.plan.now.agents c.args.plan.now.kept.items c.args.plan.now.ends.items c.drain_all.new.ends c.args.cells.now c.drain_all.new.cells c.drain_all.new.passings c.requires.woven c.drain_all.ensures.quiet drained) in
    (tt, subst IsOtherFault (sym c.node_fault.ensures) (no_difference c.args.round c.in-Err.fault (c.in-Err.ensures.honest honest none).1))

pub returns-in-Err-clause-carried : goal.returns-in-Err-clause-carried
returns-in-Err-clause-carried g c =
    λ all.
    let idle = idle_slices (home c.args.plan.now.nodes c.args.plan.now.agents) c.args.plan.now.kept.items c.as_slice-2.result.now c.args.plan.now.passings.items c.as_mut_slice-2.result.now c.as_slice-2.ensures.value c.as_mut_slice-2.ensures.value c.requires.ready.idle in
    let drained = drained_slices (λ b. (goal.Machine-dyn g (b.vtable, b.value)).meaning b.value) (home c.args.plan.now.nodes c.args.plan.now.agents) c.args.cells.now c.args.plan.now.kept.items c.as_slice-2.result.now c.args.plan.now.ends.items c.as_mut_slice.result.now c.drain_all.new.ends c.drain_all.new.passings c.as_slice-2.ensures.value c.as_mut_slice.ensures.value (c.in_ok-drain_all.ensures.drained (home c.args.plan.now.nodes c.args.plan.now.agents) idle) in
    let long = drained.counted ∙ sym c.requires.ready.idle.size ∙ ap length (sym c.as_mut_slice-2.ensures.value) in
    let here = c.as_mut_slice-3.ensures.value ∙ written _ c.args.plan.now.passings.items c.drain_all.new.passings c.as_mut_slice-2.result.now c.args.plan.now.passings.ok.0 long c.as_mut_slice-2.ensures.value in
    let none = subst NothingCame (sym here) (nothing_came (λ b. (goal.Machine-dyn g (b.vtable, b.value)).meaning b.value) c.args.plan.now.nodes c.args.plan.now.agents c.args.plan.now.kept.items c.args.plan.now.ends.items c.drain_all.new.ends c.args.cells.now c.drain_all.new.cells c.drain_all.new.passings c.requires.woven c.drain_all.ensures.quiet drained) in
    (tt, subst IsOtherFault (sym c.node_fault.ensures) (no_difference c.args.round c.in-Err.fault (c.in-Err.ensures.carried all none).1))

pub feed_all-requires-clause-sizes : goal.feed_all-requires-clause-sizes
feed_all-requires-clause-sizes g c =
    let idle = idle_slices (home c.args.plan.now.nodes c.args.plan.now.agents) c.args.plan.now.kept.items c.as_slice-2.result.now c.args.plan.now.passings.items c.as_mut_slice-2.result.now c.as_slice-2.ensures.value c.as_mut_slice-2.ensures.value c.requires.ready.idle in
    let drained = drained_slices (λ b. (goal.Machine-dyn g (b.vtable, b.value)).meaning b.value) (home c.args.plan.now.nodes c.args.plan.now.agents) c.args.cells.now c.args.plan.now.kept.items c.as_slice-2.result.now c.args.plan.now.ends.items c.as_mut_slice.result.now c.drain_all.new.ends c.drain_all.new.passings c.as_slice-2.ensures.value c.as_mut_slice.ensures.value (c.in_ok-drain_all.ensures.drained (home c.args.plan.now.nodes c.args.plan.now.agents) idle) in
    let long = drained.counted ∙ sym c.requires.ready.idle.size ∙ ap length (sym c.as_mut_slice-2.ensures.value) in
    let here = c.as_mut_slice-3.ensures.value ∙ written _ c.args.plan.now.passings.items c.drain_all.new.passings c.as_mut_slice-2.result.now c.args.plan.now.passings.ok.0 long c.as_mut_slice-2.ensures.value in
    let one = long_written _ c.args.plan.now.passings.items c.drain_all.new.passings c.as_mut_slice-2.result.now c.args.plan.now.passings.ok.0 long c.as_mut_slice-2.ensures.value in
    let longer = sym (each_long SamePassing c.as_mut_slice-3.result.now c.pass_all.new.passings c.pass_all.ensures.same) in
    let passed = c.as_mut_slice-6.ensures.value ∙ written _ _ c.pass_all.new.passings c.as_mut_slice-3.result.now one longer c.as_mut_slice-3.ensures.value in
    let ends = written _ c.args.plan.now.ends.items c.drain_all.new.ends c.as_mut_slice.result.now c.args.plan.now.ends.ok.0 (drained.size ∙ ap length (sym c.as_mut_slice.ensures.value)) c.as_mut_slice.ensures.value in (
      ap length (c.as_mut_slice-5.ensures.value ∙ ends) ∙ drained.size ∙ c.requires.plan.ends ∙ sym (ap length c.as_mut_slice-4.ensures.value),
      ap length passed ∙ longer ∙ ap length here ∙ drained.counted ∙ sym (ap length c.as_mut_slice-4.ensures.value),
    )

pub feed_all-requires-clause-can : goal.feed_all-requires-clause-can
feed_all-requires-clause-can g c =
    let idle = idle_slices (home c.args.plan.now.nodes c.args.plan.now.agents) c.args.plan.now.kept.items c.as_slice-2.result.now c.args.plan.now.passings.items c.as_mut_slice-2.result.now c.as_slice-2.ensures.value c.as_mut_slice-2.ensures.value c.requires.ready.idle in
    let drained = drained_slices (λ b. (goal.Machine-dyn g (b.vtable, b.value)).meaning b.value) (home c.args.plan.now.nodes c.args.plan.now.agents) c.args.cells.now c.args.plan.now.kept.items c.as_slice-2.result.now c.args.plan.now.ends.items c.as_mut_slice.result.now c.drain_all.new.ends c.drain_all.new.passings c.as_slice-2.ensures.value c.as_mut_slice.ensures.value (c.in_ok-drain_all.ensures.drained (home c.args.plan.now.nodes c.args.plan.now.agents) idle) in
    let ends = written _ c.args.plan.now.ends.items c.drain_all.new.ends c.as_mut_slice.result.now c.args.plan.now.ends.ok.0 (drained.size ∙ ap length (sym c.as_mut_slice.ensures.value)) c.as_mut_slice.ensures.value in
    can_feed_slices (λ b. (goal.Machine-dyn g (b.vtable, b.value)).meaning b.value) c.drain_all.new.cells c.args.plan.now.kept.items c.as_mut_slice-4.result.now c.drain_all.new.ends c.as_mut_slice-5.result.now c.as_mut_slice-4.ensures.value (c.as_mut_slice-5.ensures.value ∙ ends) (can_feed (λ b. (goal.Machine-dyn g (b.vtable, b.value)).meaning b.value) c.args.plan.now.nodes c.args.plan.now.agents c.args.plan.now.kept.items c.args.plan.now.ends.items c.drain_all.new.ends c.args.cells.now c.drain_all.new.cells c.drain_all.new.passings c.requires.woven c.drain_all.ensures.quiet drained c.requires.sound)

pub feed_all-requires-clause-taken : goal.feed_all-requires-clause-taken
feed_all-requires-clause-taken g c =
    let idle = idle_slices (home c.args.plan.now.nodes c.args.plan.now.agents) c.args.plan.now.kept.items c.as_slice-2.result.now c.args.plan.now.passings.items c.as_mut_slice-2.result.now c.as_slice-2.ensures.value c.as_mut_slice-2.ensures.value c.requires.ready.idle in
    let drained = drained_slices (λ b. (goal.Machine-dyn g (b.vtable, b.value)).meaning b.value) (home c.args.plan.now.nodes c.args.plan.now.agents) c.args.cells.now c.args.plan.now.kept.items c.as_slice-2.result.now c.args.plan.now.ends.items c.as_mut_slice.result.now c.drain_all.new.ends c.drain_all.new.passings c.as_slice-2.ensures.value c.as_mut_slice.ensures.value (c.in_ok-drain_all.ensures.drained (home c.args.plan.now.nodes c.args.plan.now.agents) idle) in
    let ends = written _ c.args.plan.now.ends.items c.drain_all.new.ends c.as_mut_slice.result.now c.args.plan.now.ends.ok.0 (drained.size ∙ ap length (sym c.as_mut_slice.ensures.value)) c.as_mut_slice.ensures.value in
    taken_slices (λ b. (goal.Machine-dyn g (b.vtable, b.value)).meaning b.value) c.drain_all.new.cells c.still_cells-still.result c.args.plan.now.kept.items c.as_mut_slice-4.result.now c.drain_all.new.ends c.as_mut_slice-5.result.now c.as_mut_slice-4.ensures.value (c.as_mut_slice-5.ensures.value ∙ ends)
    (still_taken (λ b. (goal.Machine-dyn g (b.vtable, b.value)).meaning b.value) c.args.plan.now.nodes c.args.plan.now.agents c.args.plan.now.kept.items c.args.plan.now.ends.items c.drain_all.new.ends c.args.cells.now c.drain_all.new.cells c.drain_all.new.passings c.requires.woven c.drain_all.ensures.quiet drained c.still_cells-still.result
    (taken_where_still (λ b. (goal.Machine-dyn g (b.vtable, b.value)).meaning b.value) c.args.cells.now c.args.plan.now.seen.items c.as_slice.result.now c.still_cells-still.result c.args.plan.now.kept.items c.args.plan.now.ends.items c.as_slice.ensures.value c.still_cells-still.ensures c.requires.ready.fed))

pub feed_all-requires-clause-links : goal.feed_all-requires-clause-links
feed_all-requires-clause-links g c =
    let idle = idle_slices (home c.args.plan.now.nodes c.args.plan.now.agents) c.args.plan.now.kept.items c.as_slice-2.result.now c.args.plan.now.passings.items c.as_mut_slice-2.result.now c.as_slice-2.ensures.value c.as_mut_slice-2.ensures.value c.requires.ready.idle in
    let drained = drained_slices (λ b. (goal.Machine-dyn g (b.vtable, b.value)).meaning b.value) (home c.args.plan.now.nodes c.args.plan.now.agents) c.args.cells.now c.args.plan.now.kept.items c.as_slice-2.result.now c.args.plan.now.ends.items c.as_mut_slice.result.now c.drain_all.new.ends c.drain_all.new.passings c.as_slice-2.ensures.value c.as_mut_slice.ensures.value (c.in_ok-drain_all.ensures.drained (home c.args.plan.now.nodes c.args.plan.now.agents) idle) in
    let long = drained.counted ∙ sym c.requires.ready.idle.size ∙ ap length (sym c.as_mut_slice-2.ensures.value) in
    let here = c.as_mut_slice-3.ensures.value ∙ written _ c.args.plan.now.passings.items c.drain_all.new.passings c.as_mut_slice-2.result.now c.args.plan.now.passings.ok.0 long c.as_mut_slice-2.ensures.value in
    let one = long_written _ c.args.plan.now.passings.items c.drain_all.new.passings c.as_mut_slice-2.result.now c.args.plan.now.passings.ok.0 long c.as_mut_slice-2.ensures.value in
    let longer = sym (each_long SamePassing c.as_mut_slice-3.result.now c.pass_all.new.passings c.pass_all.ensures.same) in
    let passed = c.as_mut_slice-6.ensures.value ∙ written _ _ c.pass_all.new.passings c.as_mut_slice-3.result.now one longer c.as_mut_slice-3.ensures.value in
    let same : EachAre SamePassing c.drain_all.new.passings c.pass_all.new.passings = subst (λ ps. EachAre SamePassing ps c.pass_all.new.passings) here c.pass_all.ensures.same in
    links_slices c.args.plan.now.kept.items c.as_mut_slice-4.result.now c.pass_all.new.passings c.as_mut_slice-6.result.now c.as_mut_slice-4.ensures.value passed
    (links_of (λ b. (goal.Machine-dyn g (b.vtable, b.value)).meaning b.value) c.args.plan.now.nodes c.args.plan.now.agents c.args.plan.now.kept.items c.args.plan.now.ends.items c.drain_all.new.ends c.args.cells.now c.drain_all.new.cells c.drain_all.new.passings c.requires.woven c.drain_all.ensures.quiet drained c.pass_all.new.passings same)

pub returns-in_err-feed_all-clause-quiet : goal.returns-in_err-feed_all-clause-quiet
returns-in_err-feed_all-clause-quiet g c =
    each_stays_then (λ b. (goal.Machine-dyn g (b.vtable, b.value)).meaning b.value) c.args.cells.now c.drain_all.new.cells c.feed_all.new.cells c.drain_all.ensures.quiet c.feed_all.ensures.quiet

pub returns-in_err-note_all-clause-quiet : goal.returns-in_err-note_all-clause-quiet
returns-in_err-note_all-clause-quiet g c =
    each_stays_then (λ b. (goal.Machine-dyn g (b.vtable, b.value)).meaning b.value) c.args.cells.now c.drain_all.new.cells c.feed_all.new.cells c.drain_all.ensures.quiet c.feed_all.ensures.quiet

pub returns-clause-quiet : goal.returns-clause-quiet
returns-clause-quiet g c =
    each_stays_then (λ b. (goal.Machine-dyn g (b.vtable, b.value)).meaning b.value) c.args.cells.now c.drain_all.new.cells c.feed_all.new.cells c.drain_all.ensures.quiet c.feed_all.ensures.quiet

pub returns-clause-exchanged : goal.returns-clause-exchanged
returns-clause-exchanged g c =
    let idle = idle_slices (home c.args.plan.now.nodes c.args.plan.now.agents) c.args.plan.now.kept.items c.as_slice-2.result.now c.args.plan.now.passings.items c.as_mut_slice-2.result.now c.as_slice-2.ensures.value c.as_mut_slice-2.ensures.value c.requires.ready.idle in
    let drained = drained_slices (λ b. (goal.Machine-dyn g (b.vtable, b.value)).meaning b.value) (home c.args.plan.now.nodes c.args.plan.now.agents) c.args.cells.now c.args.plan.now.kept.items c.as_slice-2.result.now c.args.plan.now.ends.items c.as_mut_slice.result.now c.drain_all.new.ends c.drain_all.new.passings c.as_slice-2.ensures.value c.as_mut_slice.ensures.value (c.in_ok-drain_all.ensures.drained (home c.args.plan.now.nodes c.args.plan.now.agents) idle) in
    let long = drained.counted ∙ sym c.requires.ready.idle.size ∙ ap length (sym c.as_mut_slice-2.ensures.value) in
    let here = c.as_mut_slice-3.ensures.value ∙ written _ c.args.plan.now.passings.items c.drain_all.new.passings c.as_mut_slice-2.result.now c.args.plan.now.passings.ok.0 long c.as_mut_slice-2.ensures.value in
    let one = long_written _ c.args.plan.now.passings.items c.drain_all.new.passings c.as_mut_slice-2.result.now c.args.plan.now.passings.ok.0 long c.as_mut_slice-2.ensures.value in
    let longer = sym (each_long SamePassing c.as_mut_slice-3.result.now c.pass_all.new.passings c.pass_all.ensures.same) in
    let passed = c.as_mut_slice-6.ensures.value ∙ written _ _ c.pass_all.new.passings c.as_mut_slice-3.result.now one longer c.as_mut_slice-3.ensures.value in
    let ends = written _ c.args.plan.now.ends.items c.drain_all.new.ends c.as_mut_slice.result.now c.args.plan.now.ends.ok.0 (drained.size ∙ ap length (sym c.as_mut_slice.ensures.value)) c.as_mut_slice.ensures.value in
    let same : EachAre SamePassing c.drain_all.new.passings c.pass_all.new.passings = subst (λ ps. EachAre SamePassing ps c.pass_all.new.passings) here c.pass_all.ensures.same in
    let fed = fed_slices (λ b. (goal.Machine-dyn g (b.vtable, b.value)).meaning b.value) c.feed_all.new.cells c.args.plan.now.kept.items c.as_mut_slice-4.result.now c.feed_all.new.kept c.drain_all.new.ends c.as_mut_slice-5.result.now c.feed_all.new.ends c.pass_all.new.passings c.as_mut_slice-6.result.now c.as_mut_slice-4.ensures.value (c.as_mut_slice-5.ensures.value ∙ ends) passed c.in_ok-feed_all.ensures.fed in
    let kept = written _ c.args.plan.now.kept.items c.feed_all.new.kept c.as_mut_slice-4.result.now c.args.plan.now.kept.ok.0 c.feed_all.ensures.sizes.0 c.as_mut_slice-4.ensures.value in
    let two = long_written _ _ c.pass_all.new.passings c.as_mut_slice-3.result.now one longer c.as_mut_slice-3.ensures.value in
    let left = written _ _ c.feed_all.new.passings c.as_mut_slice-6.result.now two c.feed_all.ensures.sizes.2 c.as_mut_slice-6.ensures.value in
    has_exchanged (λ b. (goal.Machine-dyn g (b.vtable, b.value)).meaning b.value) c.args.plan.now _ c.args.cells.now c.feed_all.new.cells c.feed_all.new.kept c.feed_all.new.ends c.feed_all.new.passings c.requires.plan refl refl (turned_long g.D.W.Wire.told g.D.W.Wire.is_joined c.args.plan.now.wires.items c.pass_all.new.wires.items c.in_default.ensures.wires) kept
    (twice_written _ c.args.plan.now.ends.items c.drain_all.new.ends c.as_mut_slice.result.now c.feed_all.new.ends c.as_mut_slice-5.result.now c.args.plan.now.ends.ok.0 (drained.size ∙ ap length (sym c.as_mut_slice.ensures.value)) c.as_mut_slice.ensures.value c.feed_all.ensures.sizes.1 c.as_mut_slice-5.ensures.value)
    left (idle_on (λ b. (goal.Machine-dyn g (b.vtable, b.value)).meaning b.value) c.args.plan.now.nodes c.args.plan.now.agents c.args.plan.now.kept.items c.args.plan.now.ends.items c.drain_all.new.ends c.args.cells.now c.drain_all.new.cells c.drain_all.new.passings c.requires.woven c.drain_all.ensures.quiet drained c.pass_all.new.passings c.feed_all.new.kept c.feed_all.new.ends c.feed_all.new.cells same c.feed_all.ensures.quiet fed c.feed_all.new.passings (emptied_slices c.args.plan.now.kept.items c.as_mut_slice-4.result.now c.pass_all.new.passings c.as_mut_slice-6.result.now c.feed_all.new.passings c.as_mut_slice-4.ensures.value passed c.in_ok-feed_all.ensures.left))
    (caught_up (λ b. (goal.Machine-dyn g (b.vtable, b.value)).meaning b.value) c.args.plan.now.nodes c.args.plan.now.agents c.args.plan.now.kept.items c.args.plan.now.ends.items c.drain_all.new.ends c.args.cells.now c.drain_all.new.cells c.drain_all.new.passings c.requires.woven c.drain_all.ensures.quiet drained c.pass_all.new.passings c.feed_all.new.kept c.feed_all.new.ends c.feed_all.new.cells same c.feed_all.ensures.quiet fed _ c.in_ok-note_all.ensures)
    (woven_on (λ b. (goal.Machine-dyn g (b.vtable, b.value)).meaning b.value) c.args.plan.now.nodes c.args.plan.now.agents c.args.plan.now.kept.items c.args.plan.now.ends.items c.drain_all.new.ends c.args.cells.now c.drain_all.new.cells c.drain_all.new.passings c.requires.woven c.drain_all.ensures.quiet drained c.pass_all.new.passings c.feed_all.new.kept c.feed_all.new.ends c.feed_all.new.cells same c.feed_all.ensures.quiet fed) (exchange_on (λ b. (goal.Machine-dyn g (b.vtable, b.value)).meaning b.value) c.args.plan.now.nodes c.args.plan.now.agents c.args.plan.now.kept.items c.args.plan.now.ends.items c.drain_all.new.ends c.args.cells.now c.drain_all.new.cells c.drain_all.new.passings c.requires.woven c.drain_all.ensures.quiet drained c.pass_all.new.passings c.feed_all.new.kept c.feed_all.new.ends c.feed_all.new.cells same c.feed_all.ensures.quiet fed c.requires.joined)

pub returns-clause-honest : goal.returns-clause-honest
returns-clause-honest g c =
    λ honest.
    let idle = idle_slices (home c.args.plan.now.nodes c.args.plan.now.agents) c.args.plan.now.kept.items c.as_slice-2.result.now c.args.plan.now.passings.items c.as_mut_slice-2.result.now c.as_slice-2.ensures.value c.as_mut_slice-2.ensures.value c.requires.ready.idle in
    let drained = drained_slices (λ b. (goal.Machine-dyn g (b.vtable, b.value)).meaning b.value) (home c.args.plan.now.nodes c.args.plan.now.agents) c.args.cells.now c.args.plan.now.kept.items c.as_slice-2.result.now c.args.plan.now.ends.items c.as_mut_slice.result.now c.drain_all.new.ends c.drain_all.new.passings c.as_slice-2.ensures.value c.as_mut_slice.ensures.value (c.in_ok-drain_all.ensures.drained (home c.args.plan.now.nodes c.args.plan.now.agents) idle) in
    let long = drained.counted ∙ sym c.requires.ready.idle.size ∙ ap length (sym c.as_mut_slice-2.ensures.value) in
    let here = c.as_mut_slice-3.ensures.value ∙ written _ c.args.plan.now.passings.items c.drain_all.new.passings c.as_mut_slice-2.result.now c.args.plan.now.passings.ok.0 long c.as_mut_slice-2.ensures.value in
    let one = long_written _ c.args.plan.now.passings.items c.drain_all.new.passings c.as_mut_slice-2.result.now c.args.plan.now.passings.ok.0 long c.as_mut_slice-2.ensures.value in
    let longer = sym (each_long SamePassing c.as_mut_slice-3.result.now c.pass_all.new.passings c.pass_all.ensures.same) in
    let passed = c.as_mut_slice-6.ensures.value ∙ written _ _ c.pass_all.new.passings c.as_mut_slice-3.result.now one longer c.as_mut_slice-3.ensures.value in
    let ends = written _ c.args.plan.now.ends.items c.drain_all.new.ends c.as_mut_slice.result.now c.args.plan.now.ends.ok.0 (drained.size ∙ ap length (sym c.as_mut_slice.ensures.value)) c.as_mut_slice.ensures.value in
    let same : EachAre SamePassing c.drain_all.new.passings c.pass_all.new.passings = subst (λ ps. EachAre SamePassing ps c.pass_all.new.passings) here c.pass_all.ensures.same in
    let fed = fed_slices (λ b. (goal.Machine-dyn g (b.vtable, b.value)).meaning b.value) c.feed_all.new.cells c.args.plan.now.kept.items c.as_mut_slice-4.result.now c.feed_all.new.kept c.drain_all.new.ends c.as_mut_slice-5.result.now c.feed_all.new.ends c.pass_all.new.passings c.as_mut_slice-6.result.now c.as_mut_slice-4.ensures.value (c.as_mut_slice-5.ensures.value ∙ ends) passed c.in_ok-feed_all.ensures.fed in
    let kept = written _ c.args.plan.now.kept.items c.feed_all.new.kept c.as_mut_slice-4.result.now c.args.plan.now.kept.ok.0 c.feed_all.ensures.sizes.0 c.as_mut_slice-4.ensures.value in
    let none = subst NothingCame (sym here) (nothing_came (λ b. (goal.Machine-dyn g (b.vtable, b.value)).meaning b.value) c.args.plan.now.nodes c.args.plan.now.agents c.args.plan.now.kept.items c.args.plan.now.ends.items c.drain_all.new.ends c.args.cells.now c.drain_all.new.cells c.drain_all.new.passings c.requires.woven c.drain_all.ensures.quiet drained) in
    let came = c.in_default.ensures.honest honest none in
    ((came.0.0, λ held. subst HaveHeld (sym kept) (held_on (λ b. (goal.Machine-dyn g (b.vtable, b.value)).meaning b.value) c.args.plan.now.nodes c.args.plan.now.agents c.args.plan.now.kept.items c.args.plan.now.ends.items c.drain_all.new.ends c.args.cells.now c.drain_all.new.cells c.drain_all.new.passings c.requires.woven c.drain_all.ensures.quiet drained c.pass_all.new.passings c.feed_all.new.kept c.feed_all.new.ends c.feed_all.new.cells same c.feed_all.ensures.quiet fed came.0.1 held)), tt)

pub returns-clause-carried : goal.returns-clause-carried
returns-clause-carried g c =
    λ all.
    let idle = idle_slices (home c.args.plan.now.nodes c.args.plan.now.agents) c.args.plan.now.kept.items c.as_slice-2.result.now c.args.plan.now.passings.items c.as_mut_slice-2.result.now c.as_slice-2.ensures.value c.as_mut_slice-2.ensures.value c.requires.ready.idle in
    let drained = drained_slices (λ b. (goal.Machine-dyn g (b.vtable, b.value)).meaning b.value) (home c.args.plan.now.nodes c.args.plan.now.agents) c.args.cells.now c.args.plan.now.kept.items c.as_slice-2.result.now c.args.plan.now.ends.items c.as_mut_slice.result.now c.drain_all.new.ends c.drain_all.new.passings c.as_slice-2.ensures.value c.as_mut_slice.ensures.value (c.in_ok-drain_all.ensures.drained (home c.args.plan.now.nodes c.args.plan.now.agents) idle) in
    let long = drained.counted ∙ sym c.requires.ready.idle.size ∙ ap length (sym c.as_mut_slice-2.ensures.value) in
    let here = c.as_mut_slice-3.ensures.value ∙ written _ c.args.plan.now.passings.items c.drain_all.new.passings c.as_mut_slice-2.result.now c.args.plan.now.passings.ok.0 long c.as_mut_slice-2.ensures.value in
    let one = long_written _ c.args.plan.now.passings.items c.drain_all.new.passings c.as_mut_slice-2.result.now c.args.plan.now.passings.ok.0 long c.as_mut_slice-2.ensures.value in
    let longer = sym (each_long SamePassing c.as_mut_slice-3.result.now c.pass_all.new.passings c.pass_all.ensures.same) in
    let passed = c.as_mut_slice-6.ensures.value ∙ written _ _ c.pass_all.new.passings c.as_mut_slice-3.result.now one longer c.as_mut_slice-3.ensures.value in
    let ends = written _ c.args.plan.now.ends.items c.drain_all.new.ends c.as_mut_slice.result.now c.args.plan.now.ends.ok.0 (drained.size ∙ ap length (sym c.as_mut_slice.ensures.value)) c.as_mut_slice.ensures.value in
    let same : EachAre SamePassing c.drain_all.new.passings c.pass_all.new.passings = subst (λ ps. EachAre SamePassing ps c.pass_all.new.passings) here c.pass_all.ensures.same in
    let fed = fed_slices (λ b. (goal.Machine-dyn g (b.vtable, b.value)).meaning b.value) c.feed_all.new.cells c.args.plan.now.kept.items c.as_mut_slice-4.result.now c.feed_all.new.kept c.drain_all.new.ends c.as_mut_slice-5.result.now c.feed_all.new.ends c.pass_all.new.passings c.as_mut_slice-6.result.now c.as_mut_slice-4.ensures.value (c.as_mut_slice-5.ensures.value ∙ ends) passed c.in_ok-feed_all.ensures.fed in
    let kept = written _ c.args.plan.now.kept.items c.feed_all.new.kept c.as_mut_slice-4.result.now c.args.plan.now.kept.ok.0 c.feed_all.ensures.sizes.0 c.as_mut_slice-4.ensures.value in
    let none = subst NothingCame (sym here) (nothing_came (λ b. (goal.Machine-dyn g (b.vtable, b.value)).meaning b.value) c.args.plan.now.nodes c.args.plan.now.agents c.args.plan.now.kept.items c.args.plan.now.ends.items c.drain_all.new.ends c.args.cells.now c.drain_all.new.cells c.drain_all.new.passings c.requires.woven c.drain_all.ensures.quiet drained) in
    let came = c.in_default.ensures.carried all none in
    (λ held. subst HaveHeld (sym kept) (held_on (λ b. (goal.Machine-dyn g (b.vtable, b.value)).meaning b.value) c.args.plan.now.nodes c.args.plan.now.agents c.args.plan.now.kept.items c.args.plan.now.ends.items c.drain_all.new.ends c.args.cells.now c.drain_all.new.cells c.drain_all.new.passings c.requires.woven c.drain_all.ensures.quiet drained c.pass_all.new.passings c.feed_all.new.kept c.feed_all.new.ends c.feed_all.new.cells same c.feed_all.ensures.quiet fed came.0 held), tt)

pub returns-in_err-drain_all-clause-keeps : goal.returns-in_err-drain_all-clause-keeps
returns-in_err-drain_all-clause-keeps g c =
    let same = subst (λ es. EachAre AreSameEnds es c.drain_all.new.ends) c.as_mut_slice.ensures.value c.drain_all.ensures.ends in
    keeps_parts c.args.plan.now _ c.drain_all.new.ends refl refl (written _ c.args.plan.now.ends.items c.drain_all.new.ends c.as_mut_slice.result.now c.args.plan.now.ends.ok.0 (sym (each_long AreSameEnds c.as_mut_slice.result.now c.drain_all.new.ends c.drain_all.ensures.ends)) c.as_mut_slice.ensures.value) same

pub returns-in-Err-clause-keeps : goal.returns-in-Err-clause-keeps
returns-in-Err-clause-keeps g c =
    let same = subst (λ es. EachAre AreSameEnds es c.drain_all.new.ends) c.as_mut_slice.ensures.value c.drain_all.ensures.ends in
    keeps_parts c.args.plan.now _ c.drain_all.new.ends refl refl (written _ c.args.plan.now.ends.items c.drain_all.new.ends c.as_mut_slice.result.now c.args.plan.now.ends.ok.0 (sym (each_long AreSameEnds c.as_mut_slice.result.now c.drain_all.new.ends c.drain_all.ensures.ends)) c.as_mut_slice.ensures.value) same

pub returns-in_err-feed_all-clause-keeps : goal.returns-in_err-feed_all-clause-keeps
returns-in_err-feed_all-clause-keeps g c =
    let same : EachAre AreSameEnds c.args.plan.now.ends.items c.drain_all.new.ends = subst (λ es. EachAre AreSameEnds es c.drain_all.new.ends) c.as_mut_slice.ensures.value c.drain_all.ensures.ends in
    let size = sym (each_long AreSameEnds c.as_mut_slice.result.now c.drain_all.new.ends c.drain_all.ensures.ends) in
    let ends = written _ c.args.plan.now.ends.items c.drain_all.new.ends c.as_mut_slice.result.now c.args.plan.now.ends.ok.0 (sym (each_long AreSameEnds c.as_mut_slice.result.now c.drain_all.new.ends c.drain_all.ensures.ends)) c.as_mut_slice.ensures.value in
    let more : EachAre AreSameEnds c.drain_all.new.ends c.feed_all.new.ends = subst (λ es. EachAre AreSameEnds es c.feed_all.new.ends) (c.as_mut_slice-5.ensures.value ∙ ends) c.feed_all.ensures.ends in
    let twice = twice_written _ c.args.plan.now.ends.items c.drain_all.new.ends c.as_mut_slice.result.now c.feed_all.new.ends c.as_mut_slice-5.result.now c.args.plan.now.ends.ok.0 size c.as_mut_slice.ensures.value c.feed_all.ensures.sizes.1 c.as_mut_slice-5.ensures.value in
    keeps_parts c.args.plan.now _ c.feed_all.new.ends refl refl twice (all_ends_then c.args.plan.now.ends.items c.drain_all.new.ends c.feed_all.new.ends same more)

pub returns-in_err-note_all-clause-keeps : goal.returns-in_err-note_all-clause-keeps
returns-in_err-note_all-clause-keeps g c =
    let same : EachAre AreSameEnds c.args.plan.now.ends.items c.drain_all.new.ends = subst (λ es. EachAre AreSameEnds es c.drain_all.new.ends) c.as_mut_slice.ensures.value c.drain_all.ensures.ends in
    let size = sym (each_long AreSameEnds c.as_mut_slice.result.now c.drain_all.new.ends c.drain_all.ensures.ends) in
    let ends = written _ c.args.plan.now.ends.items c.drain_all.new.ends c.as_mut_slice.result.now c.args.plan.now.ends.ok.0 (sym (each_long AreSameEnds c.as_mut_slice.result.now c.drain_all.new.ends c.drain_all.ensures.ends)) c.as_mut_slice.ensures.value in
    let more : EachAre AreSameEnds c.drain_all.new.ends c.feed_all.new.ends = subst (λ es. EachAre AreSameEnds es c.feed_all.new.ends) (c.as_mut_slice-5.ensures.value ∙ ends) c.feed_all.ensures.ends in
    let twice = twice_written _ c.args.plan.now.ends.items c.drain_all.new.ends c.as_mut_slice.result.now c.feed_all.new.ends c.as_mut_slice-5.result.now c.args.plan.now.ends.ok.0 size c.as_mut_slice.ensures.value c.feed_all.ensures.sizes.1 c.as_mut_slice-5.ensures.value in
    keeps_parts c.args.plan.now _ c.feed_all.new.ends refl refl twice (all_ends_then c.args.plan.now.ends.items c.drain_all.new.ends c.feed_all.new.ends same more)

pub returns-clause-keeps : goal.returns-clause-keeps
returns-clause-keeps g c =
    let same : EachAre AreSameEnds c.args.plan.now.ends.items c.drain_all.new.ends = subst (λ es. EachAre AreSameEnds es c.drain_all.new.ends) c.as_mut_slice.ensures.value c.drain_all.ensures.ends in
    let size = sym (each_long AreSameEnds c.as_mut_slice.result.now c.drain_all.new.ends c.drain_all.ensures.ends) in
    let ends = written _ c.args.plan.now.ends.items c.drain_all.new.ends c.as_mut_slice.result.now c.args.plan.now.ends.ok.0 (sym (each_long AreSameEnds c.as_mut_slice.result.now c.drain_all.new.ends c.drain_all.ensures.ends)) c.as_mut_slice.ensures.value in
    let more : EachAre AreSameEnds c.drain_all.new.ends c.feed_all.new.ends = subst (λ es. EachAre AreSameEnds es c.feed_all.new.ends) (c.as_mut_slice-5.ensures.value ∙ ends) c.feed_all.ensures.ends in
    let twice = twice_written _ c.args.plan.now.ends.items c.drain_all.new.ends c.as_mut_slice.result.now c.feed_all.new.ends c.as_mut_slice-5.result.now c.args.plan.now.ends.ok.0 size c.as_mut_slice.ensures.value c.feed_all.ensures.sizes.1 c.as_mut_slice-5.ensures.value in
    keeps_parts c.args.plan.now _ c.feed_all.new.ends refl refl twice (all_ends_then c.args.plan.now.ends.items c.drain_all.new.ends c.feed_all.new.ends same more)

pub returns-in_err-drain_all-clause-wires : goal.returns-in_err-drain_all-clause-wires
returns-in_err-drain_all-clause-wires g c = turned_none g.D.W.Wire.told g.D.W.Wire.is_joined _ c.args.plan.now.wires.items

pub returns-in-Err-clause-wires : goal.returns-in-Err-clause-wires
returns-in-Err-clause-wires g c = subst (λ e. AreTurned g.D.W.Wire.told g.D.W.Wire.is_joined (pairs_lost_by {T = Unit {0}} (Err e)) c.args.plan.now.wires.items c.pass_all.new.wires.items) (sym c.node_fault.ensures) (turned_fault g.D.W.Wire.told g.D.W.Wire.is_joined c.args.plan.now.wires.items c.pass_all.new.wires.items c.args.round c.in-Err.fault c.in-Err.ensures.wires)

pub returns-in_err-feed_all-clause-wires : goal.returns-in_err-feed_all-clause-wires
returns-in_err-feed_all-clause-wires g c = turned_less g.D.W.Wire.told g.D.W.Wire.is_joined _ c.args.plan.now.wires.items c.pass_all.new.wires.items c.in_default.ensures.wires

pub returns-in_err-note_all-clause-wires : goal.returns-in_err-note_all-clause-wires
returns-in_err-note_all-clause-wires g c = turned_less g.D.W.Wire.told g.D.W.Wire.is_joined _ c.args.plan.now.wires.items c.pass_all.new.wires.items c.in_default.ensures.wires

pub returns-clause-wires : goal.returns-clause-wires
returns-clause-wires g c = c.in_default.ensures.wires

pub returns-in_err-drain_all-clause-noted : goal.returns-in_err-drain_all-clause-noted
returns-in_err-drain_all-clause-noted g c =
    let same = subst (λ es. EachAre AreSameEnds es c.drain_all.new.ends) c.as_mut_slice.ensures.value c.drain_all.ensures.ends in
    let feeds = subst (λ es. EachAre (λ a b. HasSameFeed a b) es c.drain_all.new.ends) c.as_mut_slice.ensures.value c.drain_all.ensures.feeds in
    let ends = written _ c.args.plan.now.ends.items c.drain_all.new.ends c.as_mut_slice.result.now c.args.plan.now.ends.ok.0 (sym (each_long AreSameEnds c.as_mut_slice.result.now c.drain_all.new.ends c.drain_all.ensures.ends)) c.as_mut_slice.ensures.value in
    let fed = all_fed_on c.args.plan.now.kept.items c.args.plan.now.ends.items c.drain_all.new.ends (all_kept_fed c.args.plan.now.kept.items c.args.plan.now.ends.items (woven_kept (λ b. (goal.Machine-dyn g (b.vtable, b.value)).meaning b.value) c.args.plan.now.nodes c.args.plan.now.agents c.args.plan.now.kept.items c.args.plan.now.ends.items c.args.cells.now c.requires.woven)) same feeds in
    err_on c.from_residual.result _ (λ e. AreNotedAfter e c.args.plan.now.kept.items _) c.from_residual.ensures.1 (subst (AreFedButOne c.args.plan.now.kept.items) (sym ends) (fed_but_one c.args.plan.now.kept.items c.drain_all.new.ends fed))

pub returns-in-Err-clause-noted : goal.returns-in-Err-clause-noted
returns-in-Err-clause-noted g c =
    let same = subst (λ es. EachAre AreSameEnds es c.drain_all.new.ends) c.as_mut_slice.ensures.value c.drain_all.ensures.ends in
    let feeds = subst (λ es. EachAre (λ a b. HasSameFeed a b) es c.drain_all.new.ends) c.as_mut_slice.ensures.value c.drain_all.ensures.feeds in
    let ends = written _ c.args.plan.now.ends.items c.drain_all.new.ends c.as_mut_slice.result.now c.args.plan.now.ends.ok.0 (sym (each_long AreSameEnds c.as_mut_slice.result.now c.drain_all.new.ends c.drain_all.ensures.ends)) c.as_mut_slice.ensures.value in
    let fed = all_fed_on c.args.plan.now.kept.items c.args.plan.now.ends.items c.drain_all.new.ends (all_kept_fed c.args.plan.now.kept.items c.args.plan.now.ends.items (woven_kept (λ b. (goal.Machine-dyn g (b.vtable, b.value)).meaning b.value) c.args.plan.now.nodes c.args.plan.now.agents c.args.plan.now.kept.items c.args.plan.now.ends.items c.args.cells.now c.requires.woven)) same feeds in
    fed_after _ c.args.plan.now.kept.items _ (subst (AreFedNoted c.args.plan.now.kept.items) (sym ends) fed)

pub returns-in_err-feed_all-clause-noted : goal.returns-in_err-feed_all-clause-noted
returns-in_err-feed_all-clause-noted g c =
    let idle = idle_slices (home c.args.plan.now.nodes c.args.plan.now.agents) c.args.plan.now.kept.items c.as_slice-2.result.now c.args.plan.now.passings.items c.as_mut_slice-2.result.now c.as_slice-2.ensures.value c.as_mut_slice-2.ensures.value c.requires.ready.idle in
    let drained = drained_slices (λ b. (goal.Machine-dyn g (b.vtable, b.value)).meaning b.value) (home c.args.plan.now.nodes c.args.plan.now.agents) c.args.cells.now c.args.plan.now.kept.items c.as_slice-2.result.now c.args.plan.now.ends.items c.as_mut_slice.result.now c.drain_all.new.ends c.drain_all.new.passings c.as_slice-2.ensures.value c.as_mut_slice.ensures.value (c.in_ok-drain_all.ensures.drained (home c.args.plan.now.nodes c.args.plan.now.agents) idle) in
    let long = drained.counted ∙ sym c.requires.ready.idle.size ∙ ap length (sym c.as_mut_slice-2.ensures.value) in
    let here = c.as_mut_slice-3.ensures.value ∙ written _ c.args.plan.now.passings.items c.drain_all.new.passings c.as_mut_slice-2.result.now c.args.plan.now.passings.ok.0 long c.as_mut_slice-2.ensures.value in
    let one = long_written _ c.args.plan.now.passings.items c.drain_all.new.passings c.as_mut_slice-2.result.now c.args.plan.now.passings.ok.0 long c.as_mut_slice-2.ensures.value in
    let longer = sym (each_long SamePassing c.as_mut_slice-3.result.now c.pass_all.new.passings c.pass_all.ensures.same) in
    let passed = c.as_mut_slice-6.ensures.value ∙ written _ _ c.pass_all.new.passings c.as_mut_slice-3.result.now one longer c.as_mut_slice-3.ensures.value in
    let ends = written _ c.args.plan.now.ends.items c.drain_all.new.ends c.as_mut_slice.result.now c.args.plan.now.ends.ok.0 (drained.size ∙ ap length (sym c.as_mut_slice.ensures.value)) c.as_mut_slice.ensures.value in
    let same : EachAre SamePassing c.drain_all.new.passings c.pass_all.new.passings = subst (λ ps. EachAre SamePassing ps c.pass_all.new.passings) here c.pass_all.ensures.same in
    let kept = written _ c.args.plan.now.kept.items c.feed_all.new.kept c.as_mut_slice-4.result.now c.args.plan.now.kept.ok.0 c.feed_all.ensures.sizes.0 c.as_mut_slice-4.ensures.value in
    let twice = twice_written _ c.args.plan.now.ends.items c.drain_all.new.ends c.as_mut_slice.result.now c.feed_all.new.ends c.as_mut_slice-5.result.now c.args.plan.now.ends.ok.0 (drained.size ∙ ap length (sym c.as_mut_slice.ensures.value)) c.as_mut_slice.ensures.value c.feed_all.ensures.sizes.1 c.as_mut_slice-5.ensures.value in
    let told = note_slices c.args.plan.now.kept.items c.as_mut_slice-4.result.now c.drain_all.new.ends c.as_mut_slice-5.result.now c.pass_all.new.passings c.as_mut_slice-6.result.now c.as_mut_slice-4.ensures.value (c.as_mut_slice-5.ensures.value ∙ ends) passed
    (to_note (λ b. (goal.Machine-dyn g (b.vtable, b.value)).meaning b.value) c.args.plan.now.nodes c.args.plan.now.agents c.args.plan.now.kept.items c.args.plan.now.ends.items c.drain_all.new.ends c.args.cells.now c.drain_all.new.cells c.drain_all.new.passings c.requires.woven c.drain_all.ensures.quiet drained c.pass_all.new.passings same) in
    err_on c.from_residual-in_err-feed_all.result _ (λ e. AreNotedAfter e _ _) c.from_residual-in_err-feed_all.ensures.1 (but_one_as _ c.feed_all.new.kept _ c.feed_all.new.ends kept twice (c.feed_all.ensures.noted told))

pub returns-in_err-note_all-clause-noted : goal.returns-in_err-note_all-clause-noted
returns-in_err-note_all-clause-noted g c =
    let idle = idle_slices (home c.args.plan.now.nodes c.args.plan.now.agents) c.args.plan.now.kept.items c.as_slice-2.result.now c.args.plan.now.passings.items c.as_mut_slice-2.result.now c.as_slice-2.ensures.value c.as_mut_slice-2.ensures.value c.requires.ready.idle in
    let drained = drained_slices (λ b. (goal.Machine-dyn g (b.vtable, b.value)).meaning b.value) (home c.args.plan.now.nodes c.args.plan.now.agents) c.args.cells.now c.args.plan.now.kept.items c.as_slice-2.result.now c.args.plan.now.ends.items c.as_mut_slice.result.now c.drain_all.new.ends c.drain_all.new.passings c.as_slice-2.ensures.value c.as_mut_slice.ensures.value (c.in_ok-drain_all.ensures.drained (home c.args.plan.now.nodes c.args.plan.now.agents) idle) in
    let long = drained.counted ∙ sym c.requires.ready.idle.size ∙ ap length (sym c.as_mut_slice-2.ensures.value) in
    let here = c.as_mut_slice-3.ensures.value ∙ written _ c.args.plan.now.passings.items c.drain_all.new.passings c.as_mut_slice-2.result.now c.args.plan.now.passings.ok.0 long c.as_mut_slice-2.ensures.value in
    let one = long_written _ c.args.plan.now.passings.items c.drain_all.new.passings c.as_mut_slice-2.result.now c.args.plan.now.passings.ok.0 long c.as_mut_slice-2.ensures.value in
    let longer = sym (each_long SamePassing c.as_mut_slice-3.result.now c.pass_all.new.passings c.pass_all.ensures.same) in
    let passed = c.as_mut_slice-6.ensures.value ∙ written _ _ c.pass_all.new.passings c.as_mut_slice-3.result.now one longer c.as_mut_slice-3.ensures.value in
    let ends = written _ c.args.plan.now.ends.items c.drain_all.new.ends c.as_mut_slice.result.now c.args.plan.now.ends.ok.0 (drained.size ∙ ap length (sym c.as_mut_slice.ensures.value)) c.as_mut_slice.ensures.value in
    let same : EachAre SamePassing c.drain_all.new.passings c.pass_all.new.passings = subst (λ ps. EachAre SamePassing ps c.pass_all.new.passings) here c.pass_all.ensures.same in
    let kept = written _ c.args.plan.now.kept.items c.feed_all.new.kept c.as_mut_slice-4.result.now c.args.plan.now.kept.ok.0 c.feed_all.ensures.sizes.0 c.as_mut_slice-4.ensures.value in
    let twice = twice_written _ c.args.plan.now.ends.items c.drain_all.new.ends c.as_mut_slice.result.now c.feed_all.new.ends c.as_mut_slice-5.result.now c.args.plan.now.ends.ok.0 (drained.size ∙ ap length (sym c.as_mut_slice.ensures.value)) c.as_mut_slice.ensures.value c.feed_all.ensures.sizes.1 c.as_mut_slice-5.ensures.value in
    let told = note_slices c.args.plan.now.kept.items c.as_mut_slice-4.result.now c.drain_all.new.ends c.as_mut_slice-5.result.now c.pass_all.new.passings c.as_mut_slice-6.result.now c.as_mut_slice-4.ensures.value (c.as_mut_slice-5.ensures.value ∙ ends) passed
    (to_note (λ b. (goal.Machine-dyn g (b.vtable, b.value)).meaning b.value) c.args.plan.now.nodes c.args.plan.now.agents c.args.plan.now.kept.items c.args.plan.now.ends.items c.drain_all.new.ends c.args.cells.now c.drain_all.new.cells c.drain_all.new.passings c.requires.woven c.drain_all.ensures.quiet drained c.pass_all.new.passings same) in
    err_on c.from_residual-in_err-note_all.result _ (λ e. AreNotedAfter e _ _) c.from_residual-in_err-note_all.ensures.1 (but_one_as _ c.feed_all.new.kept _ c.feed_all.new.ends kept twice (c.feed_all.ensures.noted told))

pub returns-in_err-feed_all-clause-left : goal.returns-in_err-feed_all-clause-left
returns-in_err-feed_all-clause-left g c =
    let idle = idle_slices (home c.args.plan.now.nodes c.args.plan.now.agents) c.args.plan.now.kept.items c.as_slice-2.result.now c.args.plan.now.passings.items c.as_mut_slice-2.result.now c.as_slice-2.ensures.value c.as_mut_slice-2.ensures.value c.requires.ready.idle in
    let drained = drained_slices (λ b. (goal.Machine-dyn g (b.vtable, b.value)).meaning b.value) (home c.args.plan.now.nodes c.args.plan.now.agents) c.args.cells.now c.args.plan.now.kept.items c.as_slice-2.result.now c.args.plan.now.ends.items c.as_mut_slice.result.now c.drain_all.new.ends c.drain_all.new.passings c.as_slice-2.ensures.value c.as_mut_slice.ensures.value (c.in_ok-drain_all.ensures.drained (home c.args.plan.now.nodes c.args.plan.now.agents) idle) in
    let long = drained.counted ∙ sym c.requires.ready.idle.size ∙ ap length (sym c.as_mut_slice-2.ensures.value) in
    let here = c.as_mut_slice-3.ensures.value ∙ written _ c.args.plan.now.passings.items c.drain_all.new.passings c.as_mut_slice-2.result.now c.args.plan.now.passings.ok.0 long c.as_mut_slice-2.ensures.value in
    let one = long_written _ c.args.plan.now.passings.items c.drain_all.new.passings c.as_mut_slice-2.result.now c.args.plan.now.passings.ok.0 long c.as_mut_slice-2.ensures.value in
    let longer = sym (each_long SamePassing c.as_mut_slice-3.result.now c.pass_all.new.passings c.pass_all.ensures.same) in
    let passed = c.as_mut_slice-6.ensures.value ∙ written _ _ c.pass_all.new.passings c.as_mut_slice-3.result.now one longer c.as_mut_slice-3.ensures.value in
    let same : EachAre SamePassing c.drain_all.new.passings c.pass_all.new.passings = subst (λ ps. EachAre SamePassing ps c.pass_all.new.passings) here c.pass_all.ensures.same in
    let kept = written _ c.args.plan.now.kept.items c.feed_all.new.kept c.as_mut_slice-4.result.now c.args.plan.now.kept.ok.0 c.feed_all.ensures.sizes.0 c.as_mut_slice-4.ensures.value in
    err_on c.from_residual-in_err-feed_all.result _ (IsExchangeFault (λ b. (goal.Machine-dyn g (b.vtable, b.value)).meaning b.value) c.args.round c.args.plan.now c.args.cells.now _ c.feed_all.new.cells) c.from_residual-in_err-feed_all.ensures.1
    (part (λ b. (goal.Machine-dyn g (b.vtable, b.value)).meaning b.value) c.args.cells.now c.feed_all.new.cells (each_stays_then (λ b. (goal.Machine-dyn g (b.vtable, b.value)).meaning b.value) c.args.cells.now c.drain_all.new.cells c.feed_all.new.cells c.drain_all.ensures.quiet c.feed_all.ensures.quiet) (home c.args.plan.now.nodes c.args.plan.now.agents) c.args.plan.now.kept.items c.feed_all.new.kept _ c.drain_all.new.passings c.pass_all.new.passings kept (c.feed_all.ensures.sizes.0 ∙ ap length c.as_mut_slice-4.ensures.value)
    (all_drained (λ b. (goal.Machine-dyn g (b.vtable, b.value)).meaning b.value) c.args.plan.now.nodes c.args.plan.now.agents c.args.plan.now.kept.items c.args.plan.now.ends.items c.drain_all.new.ends c.args.cells.now c.drain_all.new.cells c.drain_all.new.passings c.requires.woven c.drain_all.ensures.quiet drained) same
    (keep_slices c.args.plan.now.kept.items c.as_mut_slice-4.result.now c.feed_all.new.kept c.pass_all.new.passings c.as_mut_slice-6.result.now c.as_mut_slice-4.ensures.value passed c.feed_all.ensures.kept))

pub returns-in_err-note_all-clause-left : goal.returns-in_err-note_all-clause-left
returns-in_err-note_all-clause-left g c =
    let idle = idle_slices (home c.args.plan.now.nodes c.args.plan.now.agents) c.args.plan.now.kept.items c.as_slice-2.result.now c.args.plan.now.passings.items c.as_mut_slice-2.result.now c.as_slice-2.ensures.value c.as_mut_slice-2.ensures.value c.requires.ready.idle in
    let drained = drained_slices (λ b. (goal.Machine-dyn g (b.vtable, b.value)).meaning b.value) (home c.args.plan.now.nodes c.args.plan.now.agents) c.args.cells.now c.args.plan.now.kept.items c.as_slice-2.result.now c.args.plan.now.ends.items c.as_mut_slice.result.now c.drain_all.new.ends c.drain_all.new.passings c.as_slice-2.ensures.value c.as_mut_slice.ensures.value (c.in_ok-drain_all.ensures.drained (home c.args.plan.now.nodes c.args.plan.now.agents) idle) in
    let long = drained.counted ∙ sym c.requires.ready.idle.size ∙ ap length (sym c.as_mut_slice-2.ensures.value) in
    let here = c.as_mut_slice-3.ensures.value ∙ written _ c.args.plan.now.passings.items c.drain_all.new.passings c.as_mut_slice-2.result.now c.args.plan.now.passings.ok.0 long c.as_mut_slice-2.ensures.value in
    let one = long_written _ c.args.plan.now.passings.items c.drain_all.new.passings c.as_mut_slice-2.result.now c.args.plan.now.passings.ok.0 long c.as_mut_slice-2.ensures.value in
    let longer = sym (each_long SamePassing c.as_mut_slice-3.result.now c.pass_all.new.passings c.pass_all.ensures.same) in
    let passed = c.as_mut_slice-6.ensures.value ∙ written _ _ c.pass_all.new.passings c.as_mut_slice-3.result.now one longer c.as_mut_slice-3.ensures.value in
    let same : EachAre SamePassing c.drain_all.new.passings c.pass_all.new.passings = subst (λ ps. EachAre SamePassing ps c.pass_all.new.passings) here c.pass_all.ensures.same in
    let kept = written _ c.args.plan.now.kept.items c.feed_all.new.kept c.as_mut_slice-4.result.now c.args.plan.now.kept.ok.0 c.feed_all.ensures.sizes.0 c.as_mut_slice-4.ensures.value in
    err_on c.from_residual-in_err-note_all.result _ (IsExchangeFault (λ b. (goal.Machine-dyn g (b.vtable, b.value)).meaning b.value) c.args.round c.args.plan.now c.args.cells.now _ c.feed_all.new.cells) c.from_residual-in_err-note_all.ensures.1
    (part (λ b. (goal.Machine-dyn g (b.vtable, b.value)).meaning b.value) c.args.cells.now c.feed_all.new.cells (each_stays_then (λ b. (goal.Machine-dyn g (b.vtable, b.value)).meaning b.value) c.args.cells.now c.drain_all.new.cells c.feed_all.new.cells c.drain_all.ensures.quiet c.feed_all.ensures.quiet) (home c.args.plan.now.nodes c.args.plan.now.agents) c.args.plan.now.kept.items c.feed_all.new.kept _ c.drain_all.new.passings c.pass_all.new.passings kept (c.feed_all.ensures.sizes.0 ∙ ap length c.as_mut_slice-4.ensures.value)
    (all_drained (λ b. (goal.Machine-dyn g (b.vtable, b.value)).meaning b.value) c.args.plan.now.nodes c.args.plan.now.agents c.args.plan.now.kept.items c.args.plan.now.ends.items c.drain_all.new.ends c.args.cells.now c.drain_all.new.cells c.drain_all.new.passings c.requires.woven c.drain_all.ensures.quiet drained) same
    (keep_slices c.args.plan.now.kept.items c.as_mut_slice-4.result.now c.feed_all.new.kept c.pass_all.new.passings c.as_mut_slice-6.result.now c.as_mut_slice-4.ensures.value passed c.feed_all.ensures.kept))

pub returns-in_err-drain_all-clause-left : goal.returns-in_err-drain_all-clause-left
returns-in_err-drain_all-clause-left g c = err_on c.from_residual.result _ (IsExchangeFault (λ b. (goal.Machine-dyn g (b.vtable, b.value)).meaning b.value) c.args.round c.args.plan.now c.args.cells.now _ c.drain_all.new.cells) c.from_residual.ensures.1 (part_none (λ b. (goal.Machine-dyn g (b.vtable, b.value)).meaning b.value) c.args.cells.now c.drain_all.new.cells c.drain_all.ensures.quiet c.args.plan.now.kept.items)

pub returns-in_err-drain_all-clause-letters : goal.returns-in_err-drain_all-clause-letters
returns-in_err-drain_all-clause-letters g c = taken_kept g.D.W.Wire.told g.D.W.Wire.is_joined (Unit {0}) c.from_residual.result _ c.args.plan.now _ (returns-in_err-drain_all-clause-keeps g c) c.from_residual.ensures.1 (exchange_none g.D.W.Wire.told g.D.W.Wire.is_joined _ c.args.plan.now _ _ (returns-in_err-drain_all-clause-keeps g c).ends refl)

pub returns-in-Err-clause-letters : goal.returns-in-Err-clause-letters
returns-in-Err-clause-letters g c =
    let idle = idle_slices (home c.args.plan.now.nodes c.args.plan.now.agents) c.args.plan.now.kept.items c.as_slice-2.result.now c.args.plan.now.passings.items c.as_mut_slice-2.result.now c.as_slice-2.ensures.value c.as_mut_slice-2.ensures.value c.requires.ready.idle in
    let drained = drained_slices (λ b. (goal.Machine-dyn g (b.vtable, b.value)).meaning b.value) (home c.args.plan.now.nodes c.args.plan.now.agents) c.args.cells.now c.args.plan.now.kept.items c.as_slice-2.result.now c.args.plan.now.ends.items c.as_mut_slice.result.now c.drain_all.new.ends c.drain_all.new.passings c.as_slice-2.ensures.value c.as_mut_slice.ensures.value (c.in_ok-drain_all.ensures.drained (home c.args.plan.now.nodes c.args.plan.now.agents) idle) in
    let long = drained.counted ∙ sym c.requires.ready.idle.size ∙ ap length (sym c.as_mut_slice-2.ensures.value) in
    let here = c.as_mut_slice-3.ensures.value ∙ written _ c.args.plan.now.passings.items c.drain_all.new.passings c.as_mut_slice-2.result.now c.args.plan.now.passings.ok.0 long c.as_mut_slice-2.ensures.value in
    exchange_fault g.D.W.Wire.told g.D.W.Wire.is_joined c.args.round c.in-Err.fault _ c.args.plan.now _ c.pass_all.new.wires.items c.node_fault.ensures
    (exchange_part g.D.W.Wire.told g.D.W.Wire.is_joined _ c.args.plan.now _ c.drain_all.new.ends c.pass_all.new.wires.items c.drain_all.new.passings (written _ c.args.plan.now.ends.items c.drain_all.new.ends c.as_mut_slice.result.now c.args.plan.now.ends.ok.0 (drained.size ∙ ap length (sym c.as_mut_slice.ensures.value)) c.as_mut_slice.ensures.value)
    (passings_are (λ b. (goal.Machine-dyn g (b.vtable, b.value)).meaning b.value) c.args.plan.now.nodes c.args.plan.now.agents c.args.plan.now.kept.items c.args.plan.now.ends.items c.drain_all.new.ends c.args.cells.now c.drain_all.new.cells c.drain_all.new.passings c.requires.woven c.drain_all.ensures.quiet drained)
    (taken_first c.args.plan.now.ends.items c.drain_all.new.ends _ (taken_one (λ b. (goal.Machine-dyn g (b.vtable, b.value)).meaning b.value) c.args.plan.now.nodes c.args.plan.now.agents c.args.plan.now.kept.items c.args.plan.now.ends.items c.drain_all.new.ends c.args.cells.now c.drain_all.new.cells c.drain_all.new.passings c.requires.woven c.drain_all.ensures.quiet drained))
    (subst (λ ps. HaveCarriedFirst g.D.W.Wire.told g.D.W.Wire.is_joined (lost_in {T = Unit {0}} (Err c.in-Err.fault)) (loads c.args.plan.now.nodes ps) c.args.plan.now.wires.items c.pass_all.new.wires.items) here c.in-Err.ensures.loads))

pub returns-in_err-feed_all-clause-letters : goal.returns-in_err-feed_all-clause-letters
returns-in_err-feed_all-clause-letters g c =
    let idle = idle_slices (home c.args.plan.now.nodes c.args.plan.now.agents) c.args.plan.now.kept.items c.as_slice-2.result.now c.args.plan.now.passings.items c.as_mut_slice-2.result.now c.as_slice-2.ensures.value c.as_mut_slice-2.ensures.value c.requires.ready.idle in
    let drained = drained_slices (λ b. (goal.Machine-dyn g (b.vtable, b.value)).meaning b.value) (home c.args.plan.now.nodes c.args.plan.now.agents) c.args.cells.now c.args.plan.now.kept.items c.as_slice-2.result.now c.args.plan.now.ends.items c.as_mut_slice.result.now c.drain_all.new.ends c.drain_all.new.passings c.as_slice-2.ensures.value c.as_mut_slice.ensures.value (c.in_ok-drain_all.ensures.drained (home c.args.plan.now.nodes c.args.plan.now.agents) idle) in
    let long = drained.counted ∙ sym c.requires.ready.idle.size ∙ ap length (sym c.as_mut_slice-2.ensures.value) in
    let here = c.as_mut_slice-3.ensures.value ∙ written _ c.args.plan.now.passings.items c.drain_all.new.passings c.as_mut_slice-2.result.now c.args.plan.now.passings.ok.0 long c.as_mut_slice-2.ensures.value in
    let ends = written _ c.args.plan.now.ends.items c.drain_all.new.ends c.as_mut_slice.result.now c.args.plan.now.ends.ok.0 (drained.size ∙ ap length (sym c.as_mut_slice.ensures.value)) c.as_mut_slice.ensures.value in
    let same_ends : EachAre AreSameEnds c.args.plan.now.ends.items c.drain_all.new.ends = subst (λ es. EachAre AreSameEnds es c.drain_all.new.ends) c.as_mut_slice.ensures.value c.drain_all.ensures.ends in
    let more : EachAre AreSameEnds c.drain_all.new.ends c.feed_all.new.ends = subst (λ es. EachAre AreSameEnds es c.feed_all.new.ends) (c.as_mut_slice-5.ensures.value ∙ ends) c.feed_all.ensures.ends in
    taken_kept g.D.W.Wire.told g.D.W.Wire.is_joined (Unit {0}) c.from_residual-in_err-feed_all.result _ c.args.plan.now _ (returns-in_err-feed_all-clause-keeps g c) c.from_residual-in_err-feed_all.ensures.1
    (exchange_part g.D.W.Wire.told g.D.W.Wire.is_joined _ c.args.plan.now _ c.feed_all.new.ends c.pass_all.new.wires.items c.drain_all.new.passings (twice_written _ c.args.plan.now.ends.items c.drain_all.new.ends c.as_mut_slice.result.now c.feed_all.new.ends c.as_mut_slice-5.result.now c.args.plan.now.ends.ok.0 (drained.size ∙ ap length (sym c.as_mut_slice.ensures.value)) c.as_mut_slice.ensures.value c.feed_all.ensures.sizes.1 c.as_mut_slice-5.ensures.value)
    (passings_are (λ b. (goal.Machine-dyn g (b.vtable, b.value)).meaning b.value) c.args.plan.now.nodes c.args.plan.now.agents c.args.plan.now.kept.items c.args.plan.now.ends.items c.drain_all.new.ends c.args.cells.now c.drain_all.new.cells c.drain_all.new.passings c.requires.woven c.drain_all.ensures.quiet drained)
    (taken_more c.args.plan.now.ends.items c.drain_all.new.ends c.feed_all.new.ends _ same_ends more (taken_one (λ b. (goal.Machine-dyn g (b.vtable, b.value)).meaning b.value) c.args.plan.now.nodes c.args.plan.now.agents c.args.plan.now.kept.items c.args.plan.now.ends.items c.drain_all.new.ends c.args.cells.now c.drain_all.new.cells c.drain_all.new.passings c.requires.woven c.drain_all.ensures.quiet drained))
    (first_whole g.D.W.Wire.told g.D.W.Wire.is_joined _ _ c.args.plan.now.wires.items c.pass_all.new.wires.items
    (subst (λ ps. AreTurnedWith g.D.W.Wire.told g.D.W.Wire.is_joined 0 (loads c.args.plan.now.nodes ps) c.args.plan.now.wires.items c.pass_all.new.wires.items) here c.in_default.ensures.loads)))

pub returns-in_err-note_all-clause-letters : goal.returns-in_err-note_all-clause-letters
returns-in_err-note_all-clause-letters g c =
    let idle = idle_slices (home c.args.plan.now.nodes c.args.plan.now.agents) c.args.plan.now.kept.items c.as_slice-2.result.now c.args.plan.now.passings.items c.as_mut_slice-2.result.now c.as_slice-2.ensures.value c.as_mut_slice-2.ensures.value c.requires.ready.idle in
    let drained = drained_slices (λ b. (goal.Machine-dyn g (b.vtable, b.value)).meaning b.value) (home c.args.plan.now.nodes c.args.plan.now.agents) c.args.cells.now c.args.plan.now.kept.items c.as_slice-2.result.now c.args.plan.now.ends.items c.as_mut_slice.result.now c.drain_all.new.ends c.drain_all.new.passings c.as_slice-2.ensures.value c.as_mut_slice.ensures.value (c.in_ok-drain_all.ensures.drained (home c.args.plan.now.nodes c.args.plan.now.agents) idle) in
    let long = drained.counted ∙ sym c.requires.ready.idle.size ∙ ap length (sym c.as_mut_slice-2.ensures.value) in
    let here = c.as_mut_slice-3.ensures.value ∙ written _ c.args.plan.now.passings.items c.drain_all.new.passings c.as_mut_slice-2.result.now c.args.plan.now.passings.ok.0 long c.as_mut_slice-2.ensures.value in
    let ends = written _ c.args.plan.now.ends.items c.drain_all.new.ends c.as_mut_slice.result.now c.args.plan.now.ends.ok.0 (drained.size ∙ ap length (sym c.as_mut_slice.ensures.value)) c.as_mut_slice.ensures.value in
    let same_ends : EachAre AreSameEnds c.args.plan.now.ends.items c.drain_all.new.ends = subst (λ es. EachAre AreSameEnds es c.drain_all.new.ends) c.as_mut_slice.ensures.value c.drain_all.ensures.ends in
    let more : EachAre AreSameEnds c.drain_all.new.ends c.feed_all.new.ends = subst (λ es. EachAre AreSameEnds es c.feed_all.new.ends) (c.as_mut_slice-5.ensures.value ∙ ends) c.feed_all.ensures.ends in
    taken_kept g.D.W.Wire.told g.D.W.Wire.is_joined (Unit {0}) c.from_residual-in_err-note_all.result _ c.args.plan.now _ (returns-in_err-note_all-clause-keeps g c) c.from_residual-in_err-note_all.ensures.1
    (exchange_part g.D.W.Wire.told g.D.W.Wire.is_joined _ c.args.plan.now _ c.feed_all.new.ends c.pass_all.new.wires.items c.drain_all.new.passings (twice_written _ c.args.plan.now.ends.items c.drain_all.new.ends c.as_mut_slice.result.now c.feed_all.new.ends c.as_mut_slice-5.result.now c.args.plan.now.ends.ok.0 (drained.size ∙ ap length (sym c.as_mut_slice.ensures.value)) c.as_mut_slice.ensures.value c.feed_all.ensures.sizes.1 c.as_mut_slice-5.ensures.value)
    (passings_are (λ b. (goal.Machine-dyn g (b.vtable, b.value)).meaning b.value) c.args.plan.now.nodes c.args.plan.now.agents c.args.plan.now.kept.items c.args.plan.now.ends.items c.drain_all.new.ends c.args.cells.now c.drain_all.new.cells c.drain_all.new.passings c.requires.woven c.drain_all.ensures.quiet drained)
    (taken_more c.args.plan.now.ends.items c.drain_all.new.ends c.feed_all.new.ends _ same_ends more (taken_one (λ b. (goal.Machine-dyn g (b.vtable, b.value)).meaning b.value) c.args.plan.now.nodes c.args.plan.now.agents c.args.plan.now.kept.items c.args.plan.now.ends.items c.drain_all.new.ends c.args.cells.now c.drain_all.new.cells c.drain_all.new.passings c.requires.woven c.drain_all.ensures.quiet drained))
    (first_whole g.D.W.Wire.told g.D.W.Wire.is_joined _ _ c.args.plan.now.wires.items c.pass_all.new.wires.items
    (subst (λ ps. AreTurnedWith g.D.W.Wire.told g.D.W.Wire.is_joined 0 (loads c.args.plan.now.nodes ps) c.args.plan.now.wires.items c.pass_all.new.wires.items) here c.in_default.ensures.loads)))

pub returns-clause-letters : goal.returns-clause-letters
returns-clause-letters g c =
    let idle = idle_slices (home c.args.plan.now.nodes c.args.plan.now.agents) c.args.plan.now.kept.items c.as_slice-2.result.now c.args.plan.now.passings.items c.as_mut_slice-2.result.now c.as_slice-2.ensures.value c.as_mut_slice-2.ensures.value c.requires.ready.idle in
    let drained = drained_slices (λ b. (goal.Machine-dyn g (b.vtable, b.value)).meaning b.value) (home c.args.plan.now.nodes c.args.plan.now.agents) c.args.cells.now c.args.plan.now.kept.items c.as_slice-2.result.now c.args.plan.now.ends.items c.as_mut_slice.result.now c.drain_all.new.ends c.drain_all.new.passings c.as_slice-2.ensures.value c.as_mut_slice.ensures.value (c.in_ok-drain_all.ensures.drained (home c.args.plan.now.nodes c.args.plan.now.agents) idle) in
    let long = drained.counted ∙ sym c.requires.ready.idle.size ∙ ap length (sym c.as_mut_slice-2.ensures.value) in
    let here = c.as_mut_slice-3.ensures.value ∙ written _ c.args.plan.now.passings.items c.drain_all.new.passings c.as_mut_slice-2.result.now c.args.plan.now.passings.ok.0 long c.as_mut_slice-2.ensures.value in
    let one = long_written _ c.args.plan.now.passings.items c.drain_all.new.passings c.as_mut_slice-2.result.now c.args.plan.now.passings.ok.0 long c.as_mut_slice-2.ensures.value in
    let longer = sym (each_long SamePassing c.as_mut_slice-3.result.now c.pass_all.new.passings c.pass_all.ensures.same) in
    let passed = c.as_mut_slice-6.ensures.value ∙ written _ _ c.pass_all.new.passings c.as_mut_slice-3.result.now one longer c.as_mut_slice-3.ensures.value in
    let ends = written _ c.args.plan.now.ends.items c.drain_all.new.ends c.as_mut_slice.result.now c.args.plan.now.ends.ok.0 (drained.size ∙ ap length (sym c.as_mut_slice.ensures.value)) c.as_mut_slice.ensures.value in
    let same : EachAre SamePassing c.drain_all.new.passings c.pass_all.new.passings = subst (λ ps. EachAre SamePassing ps c.pass_all.new.passings) here c.pass_all.ensures.same in
    let fed = fed_slices (λ b. (goal.Machine-dyn g (b.vtable, b.value)).meaning b.value) c.feed_all.new.cells c.args.plan.now.kept.items c.as_mut_slice-4.result.now c.feed_all.new.kept c.drain_all.new.ends c.as_mut_slice-5.result.now c.feed_all.new.ends c.pass_all.new.passings c.as_mut_slice-6.result.now c.as_mut_slice-4.ensures.value (c.as_mut_slice-5.ensures.value ∙ ends) passed c.in_ok-feed_all.ensures.fed in
    let same_ends : EachAre AreSameEnds c.args.plan.now.ends.items c.drain_all.new.ends = subst (λ es. EachAre AreSameEnds es c.drain_all.new.ends) c.as_mut_slice.ensures.value c.drain_all.ensures.ends in
    exchange_whole g.D.W.Wire.told g.D.W.Wire.is_joined c.args.plan.now _ c.feed_all.new.ends c.pass_all.new.wires.items c.drain_all.new.passings (twice_written _ c.args.plan.now.ends.items c.drain_all.new.ends c.as_mut_slice.result.now c.feed_all.new.ends c.as_mut_slice-5.result.now c.args.plan.now.ends.ok.0 (drained.size ∙ ap length (sym c.as_mut_slice.ensures.value)) c.as_mut_slice.ensures.value c.feed_all.ensures.sizes.1 c.as_mut_slice-5.ensures.value)
    (passings_are (λ b. (goal.Machine-dyn g (b.vtable, b.value)).meaning b.value) c.args.plan.now.nodes c.args.plan.now.agents c.args.plan.now.kept.items c.args.plan.now.ends.items c.drain_all.new.ends c.args.cells.now c.drain_all.new.cells c.drain_all.new.passings c.requires.woven c.drain_all.ensures.quiet drained)
    (taken_still c.args.plan.now.ends.items c.drain_all.new.ends c.feed_all.new.ends _ same_ends
    (drain_stays (λ b. (goal.Machine-dyn g (b.vtable, b.value)).meaning b.value) c.args.plan.now.nodes c.args.plan.now.agents c.args.plan.now.kept.items c.args.plan.now.ends.items c.drain_all.new.ends c.args.cells.now c.drain_all.new.cells c.drain_all.new.passings c.requires.woven c.drain_all.ensures.quiet drained c.pass_all.new.passings c.feed_all.new.kept c.feed_all.new.ends c.feed_all.new.cells same c.feed_all.ensures.quiet fed)
    (taken_one (λ b. (goal.Machine-dyn g (b.vtable, b.value)).meaning b.value) c.args.plan.now.nodes c.args.plan.now.agents c.args.plan.now.kept.items c.args.plan.now.ends.items c.drain_all.new.ends c.args.cells.now c.drain_all.new.cells c.drain_all.new.passings c.requires.woven c.drain_all.ensures.quiet drained))
    (subst (λ ps. AreTurnedWith g.D.W.Wire.told g.D.W.Wire.is_joined 0 (loads c.args.plan.now.nodes ps) c.args.plan.now.wires.items c.pass_all.new.wires.items) here c.in_default.ensures.loads)
