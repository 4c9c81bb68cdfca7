use Rattle.std.proofs.Common.{inl, inr, subst}
use Rattle.agent_workers.specs.Joined.{states_of}
use Rattle.agent_workers.specs.Turns.{SomeFailed}
use Rattle.agent_workers.specs.Broken.{HaveBrokenOff}
use Rattle.agent_workers.proofs.BreakLaws.{left_on}
use Rattle.agent_workers.proofs.RoundLaws.{sound_from}
use Rattle.agent_workers.proofs.JoinLaws.{quiet_same, sound_still}
use Rattle.agent_workers.proofs.RunLaws.{same_then, begun_all, joined_all, fine_all, none_yet, whole_run, due_run, still_run, never_ends}
use Rattle.agent_workers.proofs.runs.run_all.Goals as goal

pub play_out-requires-clause-joined : goal.play_out-requires-clause-joined
play_out-requires-clause-joined g c κs within = joined_all (λ b. (goal.Machine-dyn g (b.vtable, b.value)).meaning b.value) c.args.cells.now c.begin_all.new.cells c.requires.joined c.in_ok-begin_all.ensures.started

pub play_out-requires-clause-begun : goal.play_out-requires-clause-begun
play_out-requires-clause-begun g c κs within = begun_all (λ b. (goal.Machine-dyn g (b.vtable, b.value)).meaning b.value) c.args.cells.now c.begin_all.new.cells c.in_ok-begin_all.ensures.started

pub play_out-requires-clause-none : goal.play_out-requires-clause-none
play_out-requires-clause-none g c κs within = none_yet (λ b. (goal.Machine-dyn g (b.vtable, b.value)).meaning b.value) c.args.cells.now c.begin_all.new.cells c.requires.joined c.in_ok-begin_all.ensures.started

pub play_out-requires-clause-fine : goal.play_out-requires-clause-fine
play_out-requires-clause-fine g c κs within = fine_all (λ b. (goal.Machine-dyn g (b.vtable, b.value)).meaning b.value) c.args.cells.now c.begin_all.new.cells c.in_ok-begin_all.ensures.started

pub settle_all-requires-clause-sound : goal.settle_all-requires-clause-sound
settle_all-requires-clause-sound g c = sound_from (λ b. (goal.Machine-dyn g (b.vtable, b.value)).meaning b.value) c.play_out.new.cells c.play_out.ensures.begun

pub settle_all-requires-in-Err-StampEnd-clause-sound : goal.settle_all-requires-in-Err-StampEnd-clause-sound
settle_all-requires-in-Err-StampEnd-clause-sound g c = sound_from (λ b. (goal.Machine-dyn g (b.vtable, b.value)).meaning b.value) c.play_out.new.cells c.play_out.ensures.begun

pub unreachable-requires : goal.unreachable-requires
unreachable-requires g c = let is = c.in-Err-StampEnd.field-0-is in
    never_ends (λ b. (goal.Machine-dyn g (b.vtable, b.value)).meaning b.value) c.args.workers c.args.budget c.args.cells.now c.begin_all.new.cells c.play_out.new.cells c.settle_all-in-Err-StampEnd.new.cells c.requires.budget c.requires.joined c.in_ok-begin_all.ensures.started
    (subst (λ f. HaveBrokenOff (λ b. (goal.Machine-dyn g (b.vtable, b.value)).meaning b.value) f c.args.workers c.args.budget (states_of (λ b. (goal.Machine-dyn g (b.vtable, b.value)).meaning b.value) c.begin_all.new.cells) c.play_out.new.cells) is c.in-Err-StampEnd.ensures.left) c.play_out.ensures.joined c.settle_all-in-Err-StampEnd.ensures.settled (subst (λ f. SomeFailed f c.play_out.new.cells) is c.in-Err-StampEnd.ensures.err)

pub returns-in-Ok : goal.returns-in-Ok
returns-in-Ok g c = record {
  same = same_then (λ b. (goal.Machine-dyn g (b.vtable, b.value)).meaning b.value) c.args.cells.now c.play_out.new.cells c.settle_all.new.cells (same_then (λ b. (goal.Machine-dyn g (b.vtable, b.value)).meaning b.value) c.args.cells.now c.begin_all.new.cells c.play_out.new.cells c.begin_all.ensures.same c.play_out.ensures.same) (quiet_same (λ b. (goal.Machine-dyn g (b.vtable, b.value)).meaning b.value) c.play_out.new.cells c.settle_all.new.cells c.settle_all.ensures.settled.quiet);
  sound = sound_still (λ b. (goal.Machine-dyn g (b.vtable, b.value)).meaning b.value) c.play_out.new.cells c.settle_all.new.cells (sound_from (λ b. (goal.Machine-dyn g (b.vtable, b.value)).meaning b.value) c.play_out.new.cells c.play_out.ensures.begun) c.settle_all.ensures.settled.quiet;
  run = whole_run (λ b. (goal.Machine-dyn g (b.vtable, b.value)).meaning b.value) c.args.budget c.args.cells.now c.begin_all.new.cells c.play_out.new.cells c.settle_all.new.cells c.in-Ok.end c.requires.joined c.in_ok-begin_all.ensures.started c.in-Ok.ensures.played c.settle_all.ensures.settled;
  rounds = due_run (λ b. (goal.Machine-dyn g (b.vtable, b.value)).meaning b.value) c.args.budget c.args.cells.now c.begin_all.new.cells c.play_out.new.cells c.settle_all.new.cells c.in-Ok.end c.requires.joined c.in_ok-begin_all.ensures.started c.in-Ok.ensures.played c.settle_all.ensures.settled;
  still = still_run (λ b. (goal.Machine-dyn g (b.vtable, b.value)).meaning b.value) c.args.budget c.args.cells.now c.begin_all.new.cells c.play_out.new.cells c.settle_all.new.cells c.in-Ok.end c.requires.joined c.in_ok-begin_all.ensures.started c.in-Ok.ensures.played c.in-Ok.ensures.still c.settle_all.ensures.settled;
  parts = record { started = c.begin_all.new.cells; played = c.play_out.new.cells; starts = c.in_ok-begin_all.ensures.started; rounds = c.in-Ok.ensures.parts; quiet = c.settle_all.ensures.settled.quiet };
  left = tt;
}

pub returns-in-Err-NoMemory-clause-same : goal.returns-in-Err-NoMemory-clause-same
returns-in-Err-NoMemory-clause-same g c = same_then (λ b. (goal.Machine-dyn g (b.vtable, b.value)).meaning b.value) c.args.cells.now c.begin_all.new.cells c.play_out.new.cells c.begin_all.ensures.same c.play_out.ensures.same

pub returns-in-Err-NoMemory-clause-sound : goal.returns-in-Err-NoMemory-clause-sound
returns-in-Err-NoMemory-clause-sound g c = sound_from (λ b. (goal.Machine-dyn g (b.vtable, b.value)).meaning b.value) c.play_out.new.cells c.play_out.ensures.begun

pub returns-in-Err-NoMemory-clause-left : goal.returns-in-Err-NoMemory-clause-left
returns-in-Err-NoMemory-clause-left g c = let is = c.in-Err-NoMemory.field-0-is in inr (record {
  started = c.begin_all.new.cells;
  starts = c.in_ok-begin_all.ensures.started;
  broken = subst (λ f. HaveBrokenOff (λ b. (goal.Machine-dyn g (b.vtable, b.value)).meaning b.value) f c.args.workers c.args.budget (states_of (λ b. (goal.Machine-dyn g (b.vtable, b.value)).meaning b.value) c.begin_all.new.cells) c.play_out.new.cells) is c.in-Err-NoMemory.ensures.left;
  failed = subst (λ f. SomeFailed f c.play_out.new.cells) is c.in-Err-NoMemory.ensures.err;
})

pub returns-in_err-begin_all-clause-left : goal.returns-in_err-begin_all-clause-left
returns-in_err-begin_all-clause-left g c = left_on c.from_residual.result (inl c.in_err-begin_all.ensures.left)
