use Rattle.std.proofs.Common.{◌≡◌, ℕ, ◌-◌, ◌<◌, ◌∙◌, List, length, subst, arith}
use Rattle.protocol_steps.specs.declared.message.Message.{Message}
use Rattle.fifo_links.specs.Link.{taken_from}
use Rattle.worker_laws.specs.Cells.{Lane, lane}
use Rattle.agent_cells.specs.State.{state_of, tails_in}
use Rattle.tcp_links.proofs.DrainLaws.{IsSoFar, tail_still, head_then, prefix_more, prefix_then, all_taken, less_left, drained_then, stays_then, tail_quiet, cell_so_far}
use Rattle.tcp_links.proofs.drain.drain_link.Goals as goal

pub loop-alloc-smaller : goal.loop-alloc-smaller
loop-alloc-smaller g c =
    let e = c.settle_tail.ensures in
    let i = c.loop-alloc.invariant in
    let one = tail_quiet (λ b. (goal.Machine-dyn g (b.vtable, b.value)).meaning b.value) c.loop-alloc.cell c.settle_tail.new.self c.args.to e.cell e.quiet e.tails e.heads e.begun e.fault e.visits in
    let whole = stays_then (λ b. (goal.Machine-dyn g (b.vtable, b.value)).meaning b.value) c.args.cell.now c.loop-alloc.cell c.settle_tail.new.self i.quiet one in
    let far = cell_so_far (λ b. (goal.Machine-dyn g (b.vtable, b.value)).meaning b.value) c.args.cell.now c.settle_tail.new.self c.args.to c.settle_tail.result c.settle_tail.new.head whole e.cell c.requires.peer e.settled in
    let n : ℕ = length (taken_from c.take_found.new.inner) in
    let less = less_left (state_of (λ b. (goal.Machine-dyn g (b.vtable, b.value)).meaning b.value) c.settle_tail.new.self) c.args.to c.settle_tail.result n c.settle_tail.new.head far c.loop-alloc-test.true c.in_ok-take_found.ensures.known in
    subst (λ (ls : List Lane). length (lane c.args.to ls) - n < length (lane c.args.to ls) - length (taken_from c.loop-alloc.inner)) whole.quiet.sent
    (subst (λ (es : List (ℕ × Message)). length (lane c.args.to (state_of (λ b. (goal.Machine-dyn g (b.vtable, b.value)).meaning b.value) c.settle_tail.new.self).sent) - n
    < length (lane c.args.to (state_of (λ b. (goal.Machine-dyn g (b.vtable, b.value)).meaning b.value) c.settle_tail.new.self).sent) - length es) e.taken less)

pub loop-alloc-preserved : goal.loop-alloc-preserved
loop-alloc-preserved g c =
    let e = c.settle_tail.ensures in
    let i = c.loop-alloc.invariant in
    let one = tail_quiet (λ b. (goal.Machine-dyn g (b.vtable, b.value)).meaning b.value) c.loop-alloc.cell c.settle_tail.new.self c.args.to e.cell e.quiet e.tails e.heads e.begun e.fault e.visits in
    record {
      cell = e.cell;
      quiet = stays_then (λ b. (goal.Machine-dyn g (b.vtable, b.value)).meaning b.value) c.args.cell.now c.loop-alloc.cell c.settle_tail.new.self i.quiet one;
      joined = tail_still (tails_in c.loop-alloc.cell) (tails_in c.settle_tail.new.self) c.args.to c.loop-alloc.inner c.take_found.new.inner i.joined e.tails.same
          (head_then c.loop-alloc.inner c.settle_tail.new.head c.take_found.new.inner e.head c.take_found.ensures.end);
      end = head_then c.args.inner.now c.settle_tail.new.head c.take_found.new.inner (head_then c.args.inner.now c.loop-alloc.inner c.settle_tail.new.head i.end e.head) c.take_found.ensures.end;
      drained = drained_then c.args.inner.now c.loop-alloc.inner c.settle_tail.new.head c.take_found.new.inner _ _ _ i.drained e.taken c.in_ok-take_found.ensures.drained;
    }

pub returns-clause-all : goal.returns-clause-all
returns-clause-all g c =
    let e = c.settle_tail.ensures in
    let i = c.loop-alloc.invariant in
    let none = c.loop-alloc-test.false in
    let one = tail_quiet (λ b. (goal.Machine-dyn g (b.vtable, b.value)).meaning b.value) c.loop-alloc.cell c.settle_tail.new.self c.args.to e.cell e.quiet e.tails e.heads e.begun e.fault e.visits in
    let whole = stays_then (λ b. (goal.Machine-dyn g (b.vtable, b.value)).meaning b.value) c.args.cell.now c.loop-alloc.cell c.settle_tail.new.self i.quiet one in
    let far = cell_so_far (λ b. (goal.Machine-dyn g (b.vtable, b.value)).meaning b.value) c.args.cell.now c.settle_tail.new.self c.args.to c.settle_tail.result c.settle_tail.new.head whole e.cell c.requires.peer e.settled in
    let zero : c.settle_tail.result ≡ 0 = omega (arith, none) in
    all_taken (state_of (λ b. (goal.Machine-dyn g (b.vtable, b.value)).meaning b.value) c.settle_tail.new.self) c.args.to c.settle_tail.new.head
    (subst (λ (n : ℕ). IsSoFar (state_of (λ b. (goal.Machine-dyn g (b.vtable, b.value)).meaning b.value) c.settle_tail.new.self) c.args.to n c.settle_tail.new.head) zero far)

pub returns-in_err-take_found-clause-more : goal.returns-in_err-take_found-clause-more
returns-in_err-take_found-clause-more g c = prefix_then (taken_from c.args.inner.now) (taken_from c.settle_tail.new.head) (taken_from c.take_found.new.inner) (prefix_more (taken_from c.args.inner.now) (taken_from c.settle_tail.new.head) c.loop-alloc.invariant.drained.more (c.settle_tail.ensures.taken ∙ c.loop-alloc.invariant.drained.taken)) c.take_found.ensures.more

pub returns-clause-more : goal.returns-clause-more
returns-clause-more g c = prefix_more (taken_from c.args.inner.now) (taken_from c.settle_tail.new.head) c.loop-alloc.invariant.drained.more (c.settle_tail.ensures.taken ∙ c.loop-alloc.invariant.drained.taken)
