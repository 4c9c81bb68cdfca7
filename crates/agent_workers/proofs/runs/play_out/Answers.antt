use Rattle.std.proofs.Common.{sym, ◌∙◌, arith}
use Rattle.worker_laws.specs.StampCounts.{IsMoved}
use Rattle.agent_workers.specs.Joined.{states_of}
use Rattle.agent_workers.specs.Turns.{sprint_limit, SomeFailed}
use Rattle.agent_workers.specs.Broken.{HaveBrokenOff}
use Rattle.agent_workers.proofs.BreakLaws.{err_on, left_more, partly_of}
use Rattle.agent_workers.proofs.RunLaws.{same_all, same_then, none_played, all_played, busy_played, ended_states, whole_round, played_on, idle_on, fine_still, so_far_start, so_far_on, shared_none, shared_on, shared_all}
use Rattle.agent_workers.proofs.runs.play_out.Goals as goal

pub loop-init : goal.loop-init
loop-init g c = let none = c.requires.none in record {
  joined = c.requires.joined;
  begun = c.requires.begun;
  same = same_all (λ b. (goal.Machine-dyn g (b.vtable, b.value)).meaning b.value) c.args.cells.now;
  fine = c.requires.fine;
  so_far = so_far_start (λ b. (goal.Machine-dyn g (b.vtable, b.value)).meaning b.value) c.args.workers c.args.budget c.args.cells.now;
  deliveries = sym none;
  progress = omega arith;
  within = λ lt. lt;
  awake = ended_states (λ b. (goal.Machine-dyn g (b.vtable, b.value)).meaning b.value) c.args.cells.now ∙ sym c.if-all_ended.ensures;
}

pub returns-then-all_ended-clause-played : goal.returns-then-all_ended-clause-played
returns-then-all_ended-clause-played g c = record {
  played = all_played c.args.budget (states_of (λ b. (goal.Machine-dyn g (b.vtable, b.value)).meaning b.value) c.args.cells.now) (states_of (λ b. (goal.Machine-dyn g (b.vtable, b.value)).meaning b.value) c.args.cells.now) (none_played c.args.budget (states_of (λ b. (goal.Machine-dyn g (b.vtable, b.value)).meaning b.value) c.args.cells.now));
  stopped = (sym c.requires.none, ended_states (λ b. (goal.Machine-dyn g (b.vtable, b.value)).meaning b.value) c.args.cells.now ∙ sym c.if-all_ended.ensures);
}

pub returns-then-all_ended-2-clause-played : goal.returns-then-all_ended-2-clause-played
returns-then-all_ended-2-clause-played g c = let i = c.loop.invariant in let was = i.deliveries in let more = c.in_ok-taken.ensures.counted in record {
  played = played_on (λ b. (goal.Machine-dyn g (b.vtable, b.value)).meaning b.value) c.args.budget c.loop.deliveries c.args.cells.now c.loop.cells c.play_round.new.cells i.so_far.played was (i.within c.loop-test.true) i.awake c.in_ok-taken.ensures.round;
  stopped = (omega (arith, was, more), ended_states (λ b. (goal.Machine-dyn g (b.vtable, b.value)).meaning b.value) c.play_round.new.cells ∙ sym c.if-all_ended-2.ensures);
}

pub returns-then-deliveries-budget-clause-played : goal.returns-then-deliveries-budget-clause-played
returns-then-deliveries-budget-clause-played g c = let i = c.loop.invariant in let was = i.deliveries in let more = c.in_ok-taken.ensures.counted in let spent = c.if-deliveries-budget.true in record {
  played = played_on (λ b. (goal.Machine-dyn g (b.vtable, b.value)).meaning b.value) c.args.budget c.loop.deliveries c.args.cells.now c.loop.cells c.play_round.new.cells i.so_far.played was (i.within c.loop-test.true) i.awake c.in_ok-taken.ensures.round;
  stopped = (omega (arith, was, more), ended_states (λ b. (goal.Machine-dyn g (b.vtable, b.value)).meaning b.value) c.play_round.new.cells ∙ sym c.if-all_ended-2.ensures, omega (arith, was, more, spent));
}

pub returns-then-taken-eq0-clause-played : goal.returns-then-taken-eq0-clause-played
returns-then-taken-eq0-clause-played g c = let i = c.loop.invariant in let was = i.deliveries in let more = c.in_ok-taken.ensures.counted in let none = c.if-taken-eq0.true in let less = i.within c.loop-test.true in record {
  played = played_on (λ b. (goal.Machine-dyn g (b.vtable, b.value)).meaning b.value) c.args.budget c.loop.deliveries c.args.cells.now c.loop.cells c.play_round.new.cells i.so_far.played was less i.awake c.in_ok-taken.ensures.round;
  stopped = (
    omega (arith, was, more),
    ended_states (λ b. (goal.Machine-dyn g (b.vtable, b.value)).meaning b.value) c.play_round.new.cells ∙ sym c.if-all_ended-2.ensures,
    record {
      before = states_of (λ b. (goal.Machine-dyn g (b.vtable, b.value)).meaning b.value) c.loop.cells;
      played = busy_played c.args.budget (states_of (λ b. (goal.Machine-dyn g (b.vtable, b.value)).meaning b.value) c.args.cells.now) (states_of (λ b. (goal.Machine-dyn g (b.vtable, b.value)).meaning b.value) c.loop.cells) i.so_far.played;
      less = omega (arith, was, less);
      round = whole_round (λ b. (goal.Machine-dyn g (b.vtable, b.value)).meaning b.value) c.loop.cells c.play_round.new.cells c.in_ok-taken.ensures.round;
      none = omega (arith, more, none);
    },
  );
}

pub returns-then-taken-eq0-clause-still : goal.returns-then-taken-eq0-clause-still
returns-then-taken-eq0-clause-still g c = let i = c.loop.invariant in let was = i.deliveries in let more = c.in_ok-taken.ensures.counted in let none = c.if-taken-eq0.true in
    idle_on (λ b. (goal.Machine-dyn g (b.vtable, b.value)).meaning b.value) c.args.budget c.loop.deliveries c.args.cells.now c.loop.cells c.play_round.new.cells i.so_far.played was (i.within c.loop-test.true) i.awake c.in_ok-taken.ensures.round (omega (arith, more, none))

pub loop-preserved : goal.loop-preserved
loop-preserved g c = let i = c.loop.invariant in let was = i.deliveries in let more = c.in_ok-taken.ensures.counted in let some = c.if-taken-eq0.false in let less = c.if-deliveries-budget.false in let grown = i.progress in record {
  joined = c.play_round.ensures.joined;
  begun = c.play_round.ensures.begun;
  same = same_then (λ b. (goal.Machine-dyn g (b.vtable, b.value)).meaning b.value) c.args.cells.now c.loop.cells c.play_round.new.cells i.same c.play_round.ensures.same;
  fine = fine_still (λ b. (goal.Machine-dyn g (b.vtable, b.value)).meaning b.value) c.loop.cells c.play_round.new.cells c.in_ok-taken.ensures.fine i.fine;
  so_far = so_far_on (λ b. (goal.Machine-dyn g (b.vtable, b.value)).meaning b.value) c.args.workers c.useful_workers-most.result c.args.budget c.loop.deliveries c.args.cells.now c.loop.cells c.play_round.new.cells c.useful_workers-most.ensures.most i.so_far was (i.within c.loop-test.true) i.awake (omega (arith, more, some)) c.in_ok-taken.ensures.round c.in_ok-taken.ensures.parts;
  deliveries = omega (arith, was, more);
  progress = omega (arith, grown, some);
  within = λ _. omega (arith, less);
  awake = ended_states (λ b. (goal.Machine-dyn g (b.vtable, b.value)).meaning b.value) c.play_round.new.cells ∙ sym c.if-all_ended-2.ensures;
}

pub returns-clause-played : goal.returns-clause-played
returns-clause-played g c = let i = c.loop.invariant in let was = i.deliveries in let grown = i.progress in let test = c.loop-test.false in record {
  played = all_played c.args.budget (states_of (λ b. (goal.Machine-dyn g (b.vtable, b.value)).meaning b.value) c.args.cells.now) (states_of (λ b. (goal.Machine-dyn g (b.vtable, b.value)).meaning b.value) c.loop.cells) i.so_far.played;
  stopped = (was, i.awake, omega (arith, was, grown, test));
}

pub returns-in_err-taken-clause-err : goal.returns-in_err-taken-clause-err
returns-in_err-taken-clause-err g c = err_on c.from_residual.result _ (λ f. SomeFailed f c.play_round.new.cells) c.from_residual.ensures.1 c.in_err-taken.ensures.err

pub returns-in_err-taken-clause-left : goal.returns-in_err-taken-clause-left
returns-in_err-taken-clause-left g c = let i = c.loop.invariant in let was = i.deliveries in let less = i.within c.loop-test.true in
    err_on c.from_residual.result _ (λ f. HaveBrokenOff (λ b. (goal.Machine-dyn g (b.vtable, b.value)).meaning b.value) f c.args.workers c.args.budget (states_of (λ b. (goal.Machine-dyn g (b.vtable, b.value)).meaning b.value) c.args.cells.now) c.play_round.new.cells) c.from_residual.ensures.1
    (record { before = states_of (λ b. (goal.Machine-dyn g (b.vtable, b.value)).meaning b.value) c.loop.cells; played = busy_played c.args.budget (states_of (λ b. (goal.Machine-dyn g (b.vtable, b.value)).meaning b.value) c.args.cells.now) (states_of (λ b. (goal.Machine-dyn g (b.vtable, b.value)).meaning b.value) c.loop.cells) i.so_far.played; less = omega (arith, was, less); broken = partly_of (λ b. (goal.Machine-dyn g (b.vtable, b.value)).meaning b.value) _ IsMoved sprint_limit c.args.workers c.loop.cells c.play_round.new.cells i.fine (left_more (λ b. (goal.Machine-dyn g (b.vtable, b.value)).meaning b.value) _ IsMoved c.useful_workers-most.result c.args.workers c.loop.cells c.play_round.new.cells c.useful_workers-most.ensures.most c.in_err-taken.ensures.left) })

pub returns-then-all_ended-clause-parts : goal.returns-then-all_ended-clause-parts
returns-then-all_ended-clause-parts g c = shared_none (λ b. (goal.Machine-dyn g (b.vtable, b.value)).meaning b.value) c.args.workers c.args.budget c.args.cells.now

pub returns-then-all_ended-2-clause-parts : goal.returns-then-all_ended-2-clause-parts
returns-then-all_ended-2-clause-parts g c = let i = c.loop.invariant in
    shared_on (λ b. (goal.Machine-dyn g (b.vtable, b.value)).meaning b.value) c.args.workers c.useful_workers-most.result c.args.budget c.loop.deliveries c.args.cells.now c.loop.cells c.play_round.new.cells c.useful_workers-most.ensures.most i.so_far i.deliveries (i.within c.loop-test.true) i.awake c.in_ok-taken.ensures.round c.in_ok-taken.ensures.parts

pub returns-then-deliveries-budget-clause-parts : goal.returns-then-deliveries-budget-clause-parts
returns-then-deliveries-budget-clause-parts g c = let i = c.loop.invariant in
    shared_on (λ b. (goal.Machine-dyn g (b.vtable, b.value)).meaning b.value) c.args.workers c.useful_workers-most.result c.args.budget c.loop.deliveries c.args.cells.now c.loop.cells c.play_round.new.cells c.useful_workers-most.ensures.most i.so_far i.deliveries (i.within c.loop-test.true) i.awake c.in_ok-taken.ensures.round c.in_ok-taken.ensures.parts

pub returns-then-taken-eq0-clause-parts : goal.returns-then-taken-eq0-clause-parts
returns-then-taken-eq0-clause-parts g c = let i = c.loop.invariant in
    shared_on (λ b. (goal.Machine-dyn g (b.vtable, b.value)).meaning b.value) c.args.workers c.useful_workers-most.result c.args.budget c.loop.deliveries c.args.cells.now c.loop.cells c.play_round.new.cells c.useful_workers-most.ensures.most i.so_far i.deliveries (i.within c.loop-test.true) i.awake c.in_ok-taken.ensures.round c.in_ok-taken.ensures.parts

pub returns-clause-parts : goal.returns-clause-parts
returns-clause-parts g c = shared_all (λ b. (goal.Machine-dyn g (b.vtable, b.value)).meaning b.value) c.args.workers c.args.budget c.args.cells.now c.loop.cells c.loop.invariant.so_far

pub returns-in_err-taken-clause-same : goal.returns-in_err-taken-clause-same
returns-in_err-taken-clause-same g c = same_then (λ b. (goal.Machine-dyn g (b.vtable, b.value)).meaning b.value) c.args.cells.now c.loop.cells c.play_round.new.cells c.loop.invariant.same c.play_round.ensures.same

pub returns-then-all_ended-2-clause-same : goal.returns-then-all_ended-2-clause-same
returns-then-all_ended-2-clause-same g c = same_then (λ b. (goal.Machine-dyn g (b.vtable, b.value)).meaning b.value) c.args.cells.now c.loop.cells c.play_round.new.cells c.loop.invariant.same c.play_round.ensures.same

pub returns-then-deliveries-budget-clause-same : goal.returns-then-deliveries-budget-clause-same
returns-then-deliveries-budget-clause-same g c = same_then (λ b. (goal.Machine-dyn g (b.vtable, b.value)).meaning b.value) c.args.cells.now c.loop.cells c.play_round.new.cells c.loop.invariant.same c.play_round.ensures.same

pub returns-then-taken-eq0-clause-same : goal.returns-then-taken-eq0-clause-same
returns-then-taken-eq0-clause-same g c = same_then (λ b. (goal.Machine-dyn g (b.vtable, b.value)).meaning b.value) c.args.cells.now c.loop.cells c.play_round.new.cells c.loop.invariant.same c.play_round.ensures.same

pub returns-then-all_ended-clause-same : goal.returns-then-all_ended-clause-same
returns-then-all_ended-clause-same g c = same_all (λ b. (goal.Machine-dyn g (b.vtable, b.value)).meaning b.value) c.args.cells.now
