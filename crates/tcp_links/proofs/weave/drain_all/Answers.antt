use Rattle.std.proofs.Common.{◌≡◌, ℕ, get_or, length, ◌∙◌, subst, length-set, arith}
use Rattle.std.proofs.lemmas.Option.{slice_get-get_or}
use Rattle.agent_workers.proofs.ListLaws.{element_at}
use Rattle.agent_workers.proofs.JoinLaws.{each_stays, each_stays_then}
use Rattle.tcp_links.specs.Woven.{HaveDrained}
use Rattle.tcp_links.proofs.WeaveLaws.{drained_none, drain_inside, drain_next, sent_next, drain_turn}
use Rattle.tcp_links.proofs.LeftLaws.{all_ends_none, all_ends_set, all_feeds_none, all_feeds_set}
use Rattle.tcp_links.proofs.weave.drain_all.Goals as goal

pub loop-place-init : goal.loop-place-init
loop-place-init g c = record {
  quiet = each_stays (λ b. (goal.Machine-dyn g (b.vtable, b.value)).meaning b.value) c.args.cells.now;
  ends = c.requires.sizes;
  same = all_ends_none c.args.ends.now;
  feeds = all_feeds_none c.args.ends.now;
  passings = c.requires.idle.1.size;
  drained = λ node idle. drained_none (λ b. (goal.Machine-dyn g (b.vtable, b.value)).meaning b.value) node c.args.cells.now c.args.kept.now c.args.ends.now c.args.passings.now idle;
}

pub drain_at-requires-clause-inside : goal.drain_at-requires-clause-inside
drain_at-requires-clause-inside g c =
    let at_w = element_at c.args.kept.now c.loop-place.place c.index-kept-place.result c.loop-place-test.true c.index-kept-place.is in
    drain_inside (λ b. (goal.Machine-dyn g (b.vtable, b.value)).meaning b.value) c.loop-place.place c.args.cells.now c.loop-place.cells c.args.kept.now c.args.ends.now c.index-kept-place.result c.requires.can c.loop-place.invariant.quiet at_w

pub drain_at-requires-clause-can : goal.drain_at-requires-clause-can
drain_at-requires-clause-can g c =
    let test = c.loop-place-test.true in
    let i = c.loop-place.invariant in
    let long = i.ends in
    let at_w = element_at c.args.kept.now c.loop-place.place c.index-kept-place.result test c.index-kept-place.is in
    let at_d = slice_get-get_or c.loop-place.ends c.loop-place.place c.index-ends-place.result (omega (arith, test, long)) in
    drain_next (λ b. (goal.Machine-dyn g (b.vtable, b.value)).meaning b.value) c.requires.idle.0 c.loop-place.place c.args.cells.now c.loop-place.cells c.args.kept.now c.args.ends.now c.loop-place.ends c.loop-place.passings
    c.index-kept-place.result (get_or c.loop-place.ends c.loop-place.place c.index-ends-place.result) i.quiet (i.drained c.requires.idle.0 c.requires.idle.1) at_w at_d c.requires.can

pub drain_at-requires-clause-sent : goal.drain_at-requires-clause-sent
drain_at-requires-clause-sent g c =
    let test = c.loop-place-test.true in
    let i = c.loop-place.invariant in
    let long = i.ends in
    let at_w = element_at c.args.kept.now c.loop-place.place c.index-kept-place.result test c.index-kept-place.is in
    let at_d = slice_get-get_or c.loop-place.ends c.loop-place.place c.index-ends-place.result (omega (arith, test, long)) in
    sent_next (λ b. (goal.Machine-dyn g (b.vtable, b.value)).meaning b.value) c.requires.idle.0 c.loop-place.place c.args.cells.now c.loop-place.cells c.args.kept.now c.args.ends.now c.loop-place.ends c.loop-place.passings
    c.index-kept-place.result (get_or c.loop-place.ends c.loop-place.place c.index-ends-place.result) i.quiet (i.drained c.requires.idle.0 c.requires.idle.1) at_w at_d c.args.still.now c.requires.drained

pub drain_at-requires-clause-link : goal.drain_at-requires-clause-link
drain_at-requires-clause-link g c =
    let test = c.loop-place-test.true in
    let i = c.loop-place.invariant in
    let many = i.passings in
    let at_w = element_at c.args.kept.now c.loop-place.place c.index-kept-place.result test c.index-kept-place.is in
    let at_p = slice_get-get_or c.loop-place.passings c.loop-place.place c.index-passings-place.result (omega (arith, test, many)) in
    let led = ((i.drained c.requires.idle.0 c.requires.idle.1).passing c.loop-place.place c.index-kept-place.result (get_or c.loop-place.passings c.loop-place.place c.index-passings-place.result) at_w at_p).0 in
    (led.from, led.to)

pub drain_at-requires-clause-idle : goal.drain_at-requires-clause-idle
drain_at-requires-clause-idle g c =
    let test = c.loop-place-test.true in
    let i = c.loop-place.invariant in
    let many = i.passings in
    let at_p = slice_get-get_or c.loop-place.passings c.loop-place.place c.index-passings-place.result (omega (arith, test, many)) in
    (i.drained c.requires.idle.0 c.requires.idle.1).idle c.loop-place.place (get_or c.loop-place.passings c.loop-place.place c.index-passings-place.result) (omega arith) at_p

pub returns-in_err-drain_at-clause-quiet : goal.returns-in_err-drain_at-clause-quiet
returns-in_err-drain_at-clause-quiet g c =
    each_stays_then (λ b. (goal.Machine-dyn g (b.vtable, b.value)).meaning b.value) c.args.cells.now c.loop-place.cells c.drain_at.new.cells c.loop-place.invariant.quiet c.drain_at.ensures.quiet

pub loop-place-preserved : goal.loop-place-preserved
loop-place-preserved g c =
    let test = c.loop-place-test.true in
    let i = c.loop-place.invariant in
    let long = i.ends in
    let many = i.passings in
    let at_w = element_at c.args.kept.now c.loop-place.place c.index-kept-place.result test c.index-kept-place.is in
    let at_d = slice_get-get_or c.loop-place.ends c.loop-place.place c.index-ends-place.result (omega (arith, test, long)) in
    let at_p = slice_get-get_or c.loop-place.passings c.loop-place.place c.index-passings-place.result (omega (arith, test, many)) in
    record {
      quiet = each_stays_then (λ b. (goal.Machine-dyn g (b.vtable, b.value)).meaning b.value) c.args.cells.now c.loop-place.cells c.drain_at.new.cells i.quiet c.drain_at.ensures.quiet;
      ends = length-set c.loop-place.ends c.loop-place.place c.drain_at.new.ends ∙ i.ends;
      same = all_ends_set c.args.ends.now c.loop-place.ends c.loop-place.place c.index-ends-place.result c.drain_at.new.ends i.same (omega (arith, test, long)) c.drain_at.ensures.ends;
      feeds = all_feeds_set c.args.ends.now c.loop-place.ends c.loop-place.place c.index-ends-place.result c.drain_at.new.ends i.feeds (omega (arith, test, long)) c.drain_at.ensures.feeds;
      passings = length-set c.loop-place.passings c.loop-place.place c.drain_at.new.passing ∙ i.passings;
      drained = λ node idle. drain_turn (λ b. (goal.Machine-dyn g (b.vtable, b.value)).meaning b.value) node c.loop-place.place c.args.cells.now c.loop-place.cells c.args.kept.now c.args.ends.now c.loop-place.ends c.loop-place.passings
          c.index-kept-place.result (get_or c.loop-place.ends c.loop-place.place c.index-ends-place.result) c.drain_at.new.ends (get_or c.loop-place.passings c.loop-place.place c.index-passings-place.result) c.drain_at.new.passing
          (i.drained node idle) i.quiet at_w at_d at_p c.drain_at.ensures.passing c.in_ok-drain_at.ensures.drained;
    }

pub returns-clause-drained : goal.returns-clause-drained
returns-clause-drained g c = λ node idle.
    let test = c.loop-place-test.false in
    let end = c.loop-place.auto.place-end in
    let all : c.loop-place.place ≡ length c.args.kept.now = omega (arith, test, end) in
    subst (λ (n : ℕ). HaveDrained (λ b. (goal.Machine-dyn g (b.vtable, b.value)).meaning b.value) node n c.args.cells.now c.args.kept.now c.args.ends.now c.loop-place.ends c.loop-place.passings) all (c.loop-place.invariant.drained node idle)

pub returns-in_err-drain_at-clause-ends : goal.returns-in_err-drain_at-clause-ends
returns-in_err-drain_at-clause-ends g c =
    let test = c.loop-place-test.true in
    let long = c.loop-place.invariant.ends in
    all_ends_set c.args.ends.now c.loop-place.ends c.loop-place.place c.index-ends-place.result c.drain_at.new.ends c.loop-place.invariant.same (omega (arith, test, long)) c.drain_at.ensures.ends

pub returns-clause-ends : goal.returns-clause-ends
returns-clause-ends g c = c.loop-place.invariant.same

pub returns-in_err-drain_at-clause-feeds : goal.returns-in_err-drain_at-clause-feeds
returns-in_err-drain_at-clause-feeds g c =
    let test = c.loop-place-test.true in
    let long = c.loop-place.invariant.ends in
    all_feeds_set c.args.ends.now c.loop-place.ends c.loop-place.place c.index-ends-place.result c.drain_at.new.ends c.loop-place.invariant.feeds (omega (arith, test, long)) c.drain_at.ensures.feeds

pub returns-clause-feeds : goal.returns-clause-feeds
returns-clause-feeds g c = c.loop-place.invariant.feeds
