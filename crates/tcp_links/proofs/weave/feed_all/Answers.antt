use Rattle.std.proofs.Common.{◌≡◌, ℕ, ◌∙◌, get_or, length, sym, subst, arith}
use Rattle.std.proofs.lemmas.Option.{slice_get-get_or}
use Rattle.agent_workers.proofs.JoinLaws.{each_stays, each_stays_then}
use Rattle.tcp_links.specs.Woven.{HaveFed, AreEmptied}
use Rattle.tcp_links.proofs.WeaveLaws.{feed_inside, feed_next, feed_turn, taken_next, link_next, note_next, emptied_turn, emptied_none, fed_none}
use Rattle.tcp_links.proofs.LeftLaws.{all_ends_none, all_ends_set}
use Rattle.tcp_links.proofs.PartLaws.{keep_none, keep_next}
use Rattle.tcp_links.proofs.NotedLaws.{all_to_fed, fed_set, fed_but_one, set_but_one}
use Rattle.tcp_links.proofs.weave.feed_all.Goals as goal

pub loop-place-init : goal.loop-place-init
loop-place-init g c = record {
  quiet = each_stays (λ b. (goal.Machine-dyn g (b.vtable, b.value)).meaning b.value) c.args.cells.now;
  fed = fed_none (λ b. (goal.Machine-dyn g (b.vtable, b.value)).meaning b.value) c.args.cells.now c.args.kept.now c.args.ends.now c.args.passings.now;
  same = all_ends_none c.args.ends.now;
  kept = keep_none c.args.kept.now c.args.passings.now;
  noted = all_to_fed c.args.kept.now c.args.ends.now c.args.passings.now c.requires.sizes.0 c.requires.sizes.1;
  left = emptied_none c.args.passings.now;
}

pub feed_at-requires-clause-inside : goal.feed_at-requires-clause-inside
feed_at-requires-clause-inside g c =
    let test = c.loop-place-test.true in
    let i = c.loop-place.invariant in
    let wires = i.fed.wires in
    let at_w = slice_get-get_or c.loop-place.kept c.loop-place.place c.index-kept-place.result (omega (arith, test, wires)) in
    feed_inside (λ b. (goal.Machine-dyn g (b.vtable, b.value)).meaning b.value) c.loop-place.place c.args.cells.now c.loop-place.cells c.args.kept.now c.loop-place.kept c.args.ends.now c.loop-place.ends c.args.passings.now (get_or c.loop-place.kept c.loop-place.place c.index-kept-place.result) c.requires.can i.quiet i.fed at_w

pub feed_at-requires-clause-can : goal.feed_at-requires-clause-can
feed_at-requires-clause-can g c =
    let test = c.loop-place-test.true in
    let i = c.loop-place.invariant in
    let wires = i.fed.wires in
    let at_w = slice_get-get_or c.loop-place.kept c.loop-place.place c.index-kept-place.result (omega (arith, test, wires)) in
    let size = i.fed.size in
    let long = c.requires.sizes.0 in
    let at_d = slice_get-get_or c.loop-place.ends c.loop-place.place c.index-ends-place.result (omega (arith, test, size, long)) in
    feed_next (λ b. (goal.Machine-dyn g (b.vtable, b.value)).meaning b.value) c.loop-place.place c.args.cells.now c.loop-place.cells c.args.kept.now c.loop-place.kept c.args.ends.now c.loop-place.ends c.args.passings.now (get_or c.loop-place.kept c.loop-place.place c.index-kept-place.result) (get_or c.loop-place.ends c.loop-place.place c.index-ends-place.result)
    c.requires.can i.quiet i.fed at_w at_d

pub feed_at-requires-clause-taken : goal.feed_at-requires-clause-taken
feed_at-requires-clause-taken g c =
    let test = c.loop-place-test.true in
    let i = c.loop-place.invariant in
    let wires = i.fed.wires in
    let at_w = slice_get-get_or c.loop-place.kept c.loop-place.place c.index-kept-place.result (omega (arith, test, wires)) in
    let size = i.fed.size in
    let long = c.requires.sizes.0 in
    let at_d = slice_get-get_or c.loop-place.ends c.loop-place.place c.index-ends-place.result (omega (arith, test, size, long)) in
    taken_next (λ b. (goal.Machine-dyn g (b.vtable, b.value)).meaning b.value) c.loop-place.place c.args.cells.now c.loop-place.cells c.args.kept.now c.loop-place.kept c.args.ends.now c.loop-place.ends c.args.passings.now (get_or c.loop-place.kept c.loop-place.place c.index-kept-place.result) (get_or c.loop-place.ends c.loop-place.place c.index-ends-place.result)
    c.args.still.now c.requires.taken i.quiet i.fed at_w at_d

pub feed_at-requires-clause-link : goal.feed_at-requires-clause-link
feed_at-requires-clause-link g c =
    let test = c.loop-place-test.true in
    let i = c.loop-place.invariant in
    let wires = i.fed.wires in
    let more = i.left.size in
    let many = c.requires.sizes.1 in
    let at_w = slice_get-get_or c.loop-place.kept c.loop-place.place c.index-kept-place.result (omega (arith, test, wires)) in
    let at_q = slice_get-get_or c.loop-place.passings c.loop-place.place c.index-passings-place.result (omega (arith, test, more, many)) in
    link_next (λ b. (goal.Machine-dyn g (b.vtable, b.value)).meaning b.value) c.loop-place.place c.loop-place.cells c.args.kept.now c.loop-place.kept c.args.ends.now c.loop-place.ends c.args.passings.now c.loop-place.passings
    (get_or c.loop-place.kept c.loop-place.place c.index-kept-place.result) (get_or c.loop-place.passings c.loop-place.place c.index-passings-place.result) c.requires.links i.fed i.left at_w at_q

pub returns-in_err-feed_at-clause-quiet : goal.returns-in_err-feed_at-clause-quiet
returns-in_err-feed_at-clause-quiet g c =
    each_stays_then (λ b. (goal.Machine-dyn g (b.vtable, b.value)).meaning b.value) c.args.cells.now c.loop-place.cells c.feed_at.new.cells c.loop-place.invariant.quiet c.feed_at.ensures.quiet

pub loop-place-preserved : goal.loop-place-preserved
loop-place-preserved g c =
    let test = c.loop-place-test.true in
    let i = c.loop-place.invariant in
    let wires = i.fed.wires in
    let at_w = slice_get-get_or c.loop-place.kept c.loop-place.place c.index-kept-place.result (omega (arith, test, wires)) in
    let size = i.fed.size in
    let long = c.requires.sizes.0 in
    let at_d = slice_get-get_or c.loop-place.ends c.loop-place.place c.index-ends-place.result (omega (arith, test, size, long)) in
    let left = i.left.rest c.loop-place.place (omega arith) in
    let more = i.left.size in
    let many = c.requires.sizes.1 in
    let at_q = slice_get-get_or c.loop-place.passings c.loop-place.place c.index-passings-place.result (omega (arith, test, more, many)) in
    let at_p = sym left ∙ at_q in
    record {
      quiet = each_stays_then (λ b. (goal.Machine-dyn g (b.vtable, b.value)).meaning b.value) c.args.cells.now c.loop-place.cells c.feed_at.new.cells i.quiet c.feed_at.ensures.quiet;
      fed = feed_turn (λ b. (goal.Machine-dyn g (b.vtable, b.value)).meaning b.value) c.loop-place.place c.loop-place.cells c.feed_at.new.cells c.args.kept.now c.loop-place.kept c.args.ends.now c.loop-place.ends c.args.passings.now
          (get_or c.loop-place.kept c.loop-place.place c.index-kept-place.result) c.feed_at.new.link (get_or c.loop-place.ends c.loop-place.place c.index-ends-place.result) c.feed_at.new.ends (get_or c.loop-place.passings c.loop-place.place c.index-passings-place.result) i.fed c.requires.can.apart c.feed_at.ensures.quiet c.feed_at.ensures.known at_w at_d at_p c.in_ok-feed_at.ensures.fed;
      same = all_ends_set c.args.ends.now c.loop-place.ends c.loop-place.place c.index-ends-place.result c.feed_at.new.ends i.same (omega (arith, test, size, long)) c.feed_at.ensures.ends;
      kept = keep_next (λ b. (goal.Machine-dyn g (b.vtable, b.value)).meaning b.value) c.loop-place.place c.loop-place.cells c.args.kept.now c.loop-place.kept c.args.ends.now c.loop-place.ends c.args.passings.now c.loop-place.passings (get_or c.loop-place.kept c.loop-place.place c.index-kept-place.result) c.feed_at.new.link (get_or c.loop-place.passings c.loop-place.place c.index-passings-place.result) i.fed i.left i.kept at_w at_q c.feed_at.ensures.kept;
      noted = λ t. fed_set c.loop-place.kept c.loop-place.ends c.loop-place.place c.feed_at.new.link c.feed_at.new.ends (i.noted t)
          (c.in_ok-feed_at.ensures.all (note_next (λ b. (goal.Machine-dyn g (b.vtable, b.value)).meaning b.value) c.loop-place.place c.loop-place.cells c.args.kept.now c.loop-place.kept c.args.ends.now c.loop-place.ends c.args.passings.now c.loop-place.passings
          (get_or c.loop-place.kept c.loop-place.place c.index-kept-place.result) (get_or c.loop-place.ends c.loop-place.place c.index-ends-place.result) (get_or c.loop-place.passings c.loop-place.place c.index-passings-place.result) i.fed i.left at_w at_d at_q t));
      left = emptied_turn c.loop-place.place c.args.passings.now c.loop-place.passings (get_or c.loop-place.passings c.loop-place.place c.index-passings-place.result) c.feed_at.new.passing i.left at_q c.in_ok-feed_at.ensures.left;
    }

pub returns-clause-fed : goal.returns-clause-fed
returns-clause-fed g c =
    let test = c.loop-place-test.false in
    let end = c.loop-place.auto.place-end in
    let all : c.loop-place.place ≡ length c.args.kept.now = omega (arith, test, end) in
    subst (λ (n : ℕ). HaveFed (λ b. (goal.Machine-dyn g (b.vtable, b.value)).meaning b.value) n c.loop-place.cells c.args.kept.now c.loop-place.kept c.args.ends.now c.loop-place.ends c.args.passings.now) all c.loop-place.invariant.fed

pub returns-clause-left : goal.returns-clause-left
returns-clause-left g c =
    let test = c.loop-place-test.false in
    let end = c.loop-place.auto.place-end in
    let all : c.loop-place.place ≡ length c.args.kept.now = omega (arith, test, end) in
    subst (λ (n : ℕ). AreEmptied n c.args.passings.now c.loop-place.passings) all c.loop-place.invariant.left

pub returns-in_err-feed_at-clause-ends : goal.returns-in_err-feed_at-clause-ends
returns-in_err-feed_at-clause-ends g c =
    let test = c.loop-place-test.true in
    let i = c.loop-place.invariant in
    let size = i.fed.size in
    let long = c.requires.sizes.0 in
    all_ends_set c.args.ends.now c.loop-place.ends c.loop-place.place c.index-ends-place.result c.feed_at.new.ends i.same (omega (arith, test, size, long)) c.feed_at.ensures.ends

pub returns-in_err-feed_at-clause-kept : goal.returns-in_err-feed_at-clause-kept
returns-in_err-feed_at-clause-kept g c =
    let test = c.loop-place-test.true in
    let i = c.loop-place.invariant in
    let wires = i.fed.wires in
    let more = i.left.size in
    let many = c.requires.sizes.1 in
    let at_w = slice_get-get_or c.loop-place.kept c.loop-place.place c.index-kept-place.result (omega (arith, test, wires)) in
    let at_q = slice_get-get_or c.loop-place.passings c.loop-place.place c.index-passings-place.result (omega (arith, test, more, many)) in
    keep_next (λ b. (goal.Machine-dyn g (b.vtable, b.value)).meaning b.value) c.loop-place.place c.loop-place.cells c.args.kept.now c.loop-place.kept c.args.ends.now c.loop-place.ends c.args.passings.now c.loop-place.passings (get_or c.loop-place.kept c.loop-place.place c.index-kept-place.result) c.feed_at.new.link (get_or c.loop-place.passings c.loop-place.place c.index-passings-place.result) i.fed i.left i.kept at_w at_q c.feed_at.ensures.kept

pub returns-clause-ends : goal.returns-clause-ends
returns-clause-ends g c = c.loop-place.invariant.same

pub returns-clause-kept : goal.returns-clause-kept
returns-clause-kept g c = c.loop-place.invariant.kept

pub returns-in_err-feed_at-clause-noted : goal.returns-in_err-feed_at-clause-noted
returns-in_err-feed_at-clause-noted g c = λ t.
    let test = c.loop-place-test.true in
    let i = c.loop-place.invariant in
    let wires = i.fed.wires in
    let at_w = slice_get-get_or c.loop-place.kept c.loop-place.place c.index-kept-place.result (omega (arith, test, wires)) in
    let size = i.fed.size in
    let long = c.requires.sizes.0 in
    let at_d = slice_get-get_or c.loop-place.ends c.loop-place.place c.index-ends-place.result (omega (arith, test, size, long)) in
    let more = i.left.size in
    let many = c.requires.sizes.1 in
    let at_q = slice_get-get_or c.loop-place.passings c.loop-place.place c.index-passings-place.result (omega (arith, test, more, many)) in
    set_but_one c.loop-place.kept c.loop-place.ends c.loop-place.place c.feed_at.new.link c.feed_at.new.ends (i.noted t) (omega (arith, test, wires)) (omega (arith, test, size, long))
    (c.feed_at.ensures.noted (note_next (λ b. (goal.Machine-dyn g (b.vtable, b.value)).meaning b.value) c.loop-place.place c.loop-place.cells c.args.kept.now c.loop-place.kept c.args.ends.now c.loop-place.ends c.args.passings.now c.loop-place.passings
    (get_or c.loop-place.kept c.loop-place.place c.index-kept-place.result) (get_or c.loop-place.ends c.loop-place.place c.index-ends-place.result) (get_or c.loop-place.passings c.loop-place.place c.index-passings-place.result) i.fed i.left at_w at_d at_q t))

pub returns-clause-noted : goal.returns-clause-noted
returns-clause-noted g c = λ t. fed_but_one c.loop-place.kept c.loop-place.ends (c.loop-place.invariant.noted t)

pub returns-clause-all : goal.returns-clause-all
returns-clause-all g c = c.loop-place.invariant.noted
