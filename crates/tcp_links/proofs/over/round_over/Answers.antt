use Rattle.std.proofs.Common.{◌∙◌, refl, subst, inr, arith}
use Rattle.worker_laws.specs.StampCounts.{IsMoved}
use Rattle.agent_workers.specs.Joined.{states_of}
use Rattle.agent_workers.specs.Turns.{sprint_limit, SomeFailed}
use Rattle.agent_workers.specs.Broken.{ArePartlyPlayed}
use Rattle.agent_workers.proofs.BreakLaws.{partly_of}
use Rattle.agent_workers.proofs.JoinLaws.{quiet_same}
use Rattle.agent_workers.proofs.RoundLaws.{sound_from, begun_still}
use Rattle.agent_workers.proofs.RunLaws.{fine_still}
use Rattle.tcp_links.specs.Faults.{IsOtherFault}
use Rattle.tcp_links.specs.Over.{IsRoundFault}
use Rattle.tcp_links.proofs.OverLaws.{err_on, nothing_on, cause_on, joined_quiet, joined_over, joined_back, fine_quiet, over_played, over_forgot, round_made, round_fault, broken_made}
use Rattle.tcp_links.proofs.SharedLaws.{shared_over}
use Rattle.tcp_links.proofs.LeftLaws.{keeps_same, keeps_then, same_then}
use Rattle.node_exchange.proofs.TurnLaws.{turned_less}
use Rattle.tcp_links.proofs.LostLaws.{turned_on}
use Rattle.tcp_links.proofs.CarriedLaws.{taken_on, plan_part}
use Rattle.tcp_links.specs.Left.{AreNotedAfter}
use Rattle.tcp_links.proofs.NotedLaws.{all_kept_fed, fed_but_one}
use Rattle.tcp_links.proofs.ExchangeLaws.{woven_kept}
use Rattle.tcp_links.proofs.over.round_over.Goals as goal

pub exchange-requires-clause-plan : goal.exchange-requires-clause-plan
exchange-requires-clause-plan g c κs within = c.requires.over.plan

pub exchange-requires-clause-woven : goal.exchange-requires-clause-woven
exchange-requires-clause-woven g c κs within = c.requires.over.woven

pub exchange-requires-clause-ready : goal.exchange-requires-clause-ready
exchange-requires-clause-ready g c κs within = c.requires.over.ready

pub exchange-requires-clause-sound : goal.exchange-requires-clause-sound
exchange-requires-clause-sound g c κs within = sound_from (λ b. (goal.Machine-dyn g (b.vtable, b.value)).meaning b.value) c.args.cells.now c.requires.begun

pub play_round-requires-clause-joined : goal.play_round-requires-clause-joined
play_round-requires-clause-joined g c κs within = joined_over (λ b. (goal.Machine-dyn g (b.vtable, b.value)).meaning b.value) c.args.plan.now c.exchange.new.plan c.exchange.new.cells c.in_ok-exchange.ensures.exchanged.over.nodes (joined_quiet (λ b. (goal.Machine-dyn g (b.vtable, b.value)).meaning b.value) c.args.plan.now.nodes c.args.cells.now c.exchange.new.cells c.requires.joined c.exchange.ensures.quiet)

pub play_round-requires-clause-begun : goal.play_round-requires-clause-begun
play_round-requires-clause-begun g c κs within = begun_still (λ b. (goal.Machine-dyn g (b.vtable, b.value)).meaning b.value) c.args.cells.now c.exchange.new.cells c.requires.begun c.exchange.ensures.quiet

pub returns-in_err-exchange-clause-joined : goal.returns-in_err-exchange-clause-joined
returns-in_err-exchange-clause-joined g c = joined_quiet (λ b. (goal.Machine-dyn g (b.vtable, b.value)).meaning b.value) c.args.plan.now.nodes c.args.cells.now c.exchange.new.cells c.requires.joined c.exchange.ensures.quiet

pub returns-in_err-exchange-clause-begun : goal.returns-in_err-exchange-clause-begun
returns-in_err-exchange-clause-begun g c = begun_still (λ b. (goal.Machine-dyn g (b.vtable, b.value)).meaning b.value) c.args.cells.now c.exchange.new.cells c.requires.begun c.exchange.ensures.quiet

pub returns-in_err-exchange-clause-cause : goal.returns-in_err-exchange-clause-cause
returns-in_err-exchange-clause-cause g c = cause_on (Unit {0}) _ _ _ c.from_residual.result _ refl c.from_residual.ensures.1 c.in_err-exchange.ensures.cause

pub returns-in_err-exchange-clause-left : goal.returns-in_err-exchange-clause-left
returns-in_err-exchange-clause-left g c = err_on c.from_residual.result _ (IsRoundFault (λ b. (goal.Machine-dyn g (b.vtable, b.value)).meaning b.value) c.args.workers c.args.round c.args.plan.now c.args.cells.now c.exchange.new.plan.kept.items c.exchange.new.cells) c.from_residual.ensures.1 (round_fault (λ b. (goal.Machine-dyn g (b.vtable, b.value)).meaning b.value) c.args.workers c.args.round c.args.plan.now c.exchange.new.plan.kept.items c.args.cells.now c.exchange.new.cells _ c.in_err-exchange.ensures.left)

pub returns-in-Err-NoMemory-clause-left : goal.returns-in-Err-NoMemory-clause-left
returns-in-Err-NoMemory-clause-left g c = inr (record {
  ready = states_of (λ b. (goal.Machine-dyn g (b.vtable, b.value)).meaning b.value) c.exchange.new.cells;
  exchange = c.in_ok-exchange.ensures.exchanged.exchange;
  partly = subst (λ f. ArePartlyPlayed (λ b. (goal.Machine-dyn g (b.vtable, b.value)).meaning b.value) f IsMoved sprint_limit c.args.workers (states_of (λ b. (goal.Machine-dyn g (b.vtable, b.value)).meaning b.value) c.exchange.new.cells) c.play_round.new.cells) c.in-Err-NoMemory.field-0-is (partly_of (λ b. (goal.Machine-dyn g (b.vtable, b.value)).meaning b.value) _ IsMoved sprint_limit c.args.workers c.exchange.new.cells c.play_round.new.cells (fine_quiet (λ b. (goal.Machine-dyn g (b.vtable, b.value)).meaning b.value) c.args.cells.now c.exchange.new.cells c.exchange.ensures.quiet c.requires.fine) c.in-Err-NoMemory.ensures.left);
})

pub returns-in_err-exchange-clause-honest : goal.returns-in_err-exchange-clause-honest
returns-in_err-exchange-clause-honest g c = λ h. (nothing_on c.from_residual.result _ _ c.from_residual.ensures.1, err_on c.from_residual.result _ IsOtherFault c.from_residual.ensures.1 (c.in_err-exchange.ensures.honest h).1)

pub returns-in-Ok-clause-joined : goal.returns-in-Ok-clause-joined
returns-in-Ok-clause-joined g c = joined_back (λ b. (goal.Machine-dyn g (b.vtable, b.value)).meaning b.value) c.args.plan.now c.exchange.new.plan c.play_round.new.cells c.in_ok-exchange.ensures.exchanged.over.nodes c.play_round.ensures.joined

pub returns-in-Ok-clause-over : goal.returns-in-Ok-clause-over
returns-in-Ok-clause-over g c = over_played (λ b. (goal.Machine-dyn g (b.vtable, b.value)).meaning b.value) c.args.plan.now c.exchange.new.plan c.args.cells.now c.exchange.new.cells c.play_round.new.cells c.in_ok-exchange.ensures.exchanged c.play_round.ensures.same c.in-Ok.ensures.round

pub returns-in-Ok-clause-honest : goal.returns-in-Ok-clause-honest
returns-in-Ok-clause-honest g c = λ h. ((c.in_ok-exchange.ensures.honest h).0, tt)

pub returns-in-Err-StampEnd-clause-joined : goal.returns-in-Err-StampEnd-clause-joined
returns-in-Err-StampEnd-clause-joined g c = joined_back (λ b. (goal.Machine-dyn g (b.vtable, b.value)).meaning b.value) c.args.plan.now c.exchange.new.plan c.play_round.new.cells c.in_ok-exchange.ensures.exchanged.over.nodes c.play_round.ensures.joined

pub returns-in-Err-StampEnd-clause-over : goal.returns-in-Err-StampEnd-clause-over
returns-in-Err-StampEnd-clause-over g c = over_forgot (λ b. (goal.Machine-dyn g (b.vtable, b.value)).meaning b.value) c.args.plan.now c.exchange.new.plan _ c.args.cells.now c.exchange.new.cells c.play_round.new.cells c.in_ok-exchange.ensures.exchanged c.play_round.ensures.same refl refl refl refl refl refl c.clear.ensures.items

pub returns-in-Err-StampEnd-clause-honest : goal.returns-in-Err-StampEnd-clause-honest
returns-in-Err-StampEnd-clause-honest g c = λ h. ((c.in_ok-exchange.ensures.honest h).0, tt)

pub returns-in-Err-NoMemory-clause-joined : goal.returns-in-Err-NoMemory-clause-joined
returns-in-Err-NoMemory-clause-joined g c = joined_back (λ b. (goal.Machine-dyn g (b.vtable, b.value)).meaning b.value) c.args.plan.now c.exchange.new.plan c.play_round.new.cells c.in_ok-exchange.ensures.exchanged.over.nodes c.play_round.ensures.joined

pub returns-in-Err-NoMemory-clause-honest : goal.returns-in-Err-NoMemory-clause-honest
returns-in-Err-NoMemory-clause-honest g c = λ h. (tt, tt)

pub returns-in-Ok-clause-round : goal.returns-in-Ok-clause-round
returns-in-Ok-clause-round g c = round_made (λ b. (goal.Machine-dyn g (b.vtable, b.value)).meaning b.value) c.args.plan.now c.exchange.new.plan c.args.cells.now c.exchange.new.cells c.play_round.new.cells c.in-Ok.taken c.in_ok-exchange.ensures.exchanged c.exchange.ensures.quiet c.in-Ok.ensures.round c.in-Ok.ensures.counted c.in-Ok.ensures.most (fine_still (λ b. (goal.Machine-dyn g (b.vtable, b.value)).meaning b.value) c.exchange.new.cells c.play_round.new.cells c.in-Ok.ensures.fine (fine_quiet (λ b. (goal.Machine-dyn g (b.vtable, b.value)).meaning b.value) c.args.cells.now c.exchange.new.cells c.exchange.ensures.quiet c.requires.fine))

pub returns-in-Err-StampEnd-clause-round : goal.returns-in-Err-StampEnd-clause-round
returns-in-Err-StampEnd-clause-round g c = broken_made (λ b. (goal.Machine-dyn g (b.vtable, b.value)).meaning b.value) c.args.workers c.args.plan.now c.exchange.new.plan _ c.args.cells.now c.exchange.new.cells c.play_round.new.cells c.in_ok-exchange.ensures.exchanged refl (subst (λ f. ArePartlyPlayed (λ b. (goal.Machine-dyn g (b.vtable, b.value)).meaning b.value) f IsMoved sprint_limit c.args.workers (states_of (λ b. (goal.Machine-dyn g (b.vtable, b.value)).meaning b.value) c.exchange.new.cells) c.play_round.new.cells) c.in-Err-StampEnd.field-0-is (partly_of (λ b. (goal.Machine-dyn g (b.vtable, b.value)).meaning b.value) _ IsMoved sprint_limit c.args.workers c.exchange.new.cells c.play_round.new.cells (fine_quiet (λ b. (goal.Machine-dyn g (b.vtable, b.value)).meaning b.value) c.args.cells.now c.exchange.new.cells c.exchange.ensures.quiet c.requires.fine) c.in-Err-StampEnd.ensures.left)) (subst (λ f. SomeFailed f c.play_round.new.cells) c.in-Err-StampEnd.field-0-is c.in-Err-StampEnd.ensures.err)

pub returns-in_err-exchange-clause-size : goal.returns-in_err-exchange-clause-size
returns-in_err-exchange-clause-size g c = c.exchange.ensures.quiet.size

pub returns-in-Ok-clause-size : goal.returns-in-Ok-clause-size
returns-in-Ok-clause-size g c = c.play_round.ensures.same.size ∙ c.exchange.ensures.quiet.size

pub returns-in-Err-StampEnd-clause-size : goal.returns-in-Err-StampEnd-clause-size
returns-in-Err-StampEnd-clause-size g c = c.play_round.ensures.same.size ∙ c.exchange.ensures.quiet.size

pub returns-in-Err-NoMemory-clause-size : goal.returns-in-Err-NoMemory-clause-size
returns-in-Err-NoMemory-clause-size g c = c.play_round.ensures.same.size ∙ c.exchange.ensures.quiet.size

pub returns-in-Ok-clause-parts : goal.returns-in-Ok-clause-parts
returns-in-Ok-clause-parts g c = shared_over (λ b. (goal.Machine-dyn g (b.vtable, b.value)).meaning b.value) c.args.workers c.args.workers c.args.plan.now.nodes c.exchange.new.plan.nodes c.args.cells.now c.exchange.new.cells c.play_round.new.cells (omega arith) c.in_ok-exchange.ensures.exchanged.over.nodes c.exchange.ensures.quiet c.in-Ok.ensures.parts

pub returns-in_err-exchange-clause-same : goal.returns-in_err-exchange-clause-same
returns-in_err-exchange-clause-same g c = quiet_same (λ b. (goal.Machine-dyn g (b.vtable, b.value)).meaning b.value) c.args.cells.now c.exchange.new.cells c.exchange.ensures.quiet

pub returns-in_err-exchange-clause-keeps : goal.returns-in_err-exchange-clause-keeps
returns-in_err-exchange-clause-keeps g c = c.exchange.ensures.keeps

pub returns-in-Ok-clause-same : goal.returns-in-Ok-clause-same
returns-in-Ok-clause-same g c = same_then (λ b. (goal.Machine-dyn g (b.vtable, b.value)).meaning b.value) c.args.cells.now c.exchange.new.cells c.play_round.new.cells (quiet_same (λ b. (goal.Machine-dyn g (b.vtable, b.value)).meaning b.value) c.args.cells.now c.exchange.new.cells c.exchange.ensures.quiet) c.play_round.ensures.same

pub returns-in-Ok-clause-keeps : goal.returns-in-Ok-clause-keeps
returns-in-Ok-clause-keeps g c = c.exchange.ensures.keeps

pub returns-in-Err-StampEnd-clause-same : goal.returns-in-Err-StampEnd-clause-same
returns-in-Err-StampEnd-clause-same g c = same_then (λ b. (goal.Machine-dyn g (b.vtable, b.value)).meaning b.value) c.args.cells.now c.exchange.new.cells c.play_round.new.cells (quiet_same (λ b. (goal.Machine-dyn g (b.vtable, b.value)).meaning b.value) c.args.cells.now c.exchange.new.cells c.exchange.ensures.quiet) c.play_round.ensures.same

pub returns-in-Err-StampEnd-clause-keeps : goal.returns-in-Err-StampEnd-clause-keeps
returns-in-Err-StampEnd-clause-keeps g c = keeps_then c.args.plan.now c.exchange.new.plan _ c.exchange.ensures.keeps (keeps_same c.exchange.new.plan _ refl refl refl)

pub returns-in-Err-NoMemory-clause-same : goal.returns-in-Err-NoMemory-clause-same
returns-in-Err-NoMemory-clause-same g c = same_then (λ b. (goal.Machine-dyn g (b.vtable, b.value)).meaning b.value) c.args.cells.now c.exchange.new.cells c.play_round.new.cells (quiet_same (λ b. (goal.Machine-dyn g (b.vtable, b.value)).meaning b.value) c.args.cells.now c.exchange.new.cells c.exchange.ensures.quiet) c.play_round.ensures.same

pub returns-in-Err-NoMemory-clause-keeps : goal.returns-in-Err-NoMemory-clause-keeps
returns-in-Err-NoMemory-clause-keeps g c = c.exchange.ensures.keeps

pub returns-in_err-exchange-clause-wires : goal.returns-in_err-exchange-clause-wires
returns-in_err-exchange-clause-wires g c = turned_on g.D.W.Wire.told g.D.W.Wire.is_joined c.args.plan.now.wires.items c.exchange.new.plan.wires.items (Unit {0}) c.from_residual.result _ c.from_residual.ensures.1 c.in_err-exchange.ensures.wires

pub returns-in-Ok-clause-wires : goal.returns-in-Ok-clause-wires
returns-in-Ok-clause-wires g c = c.in_ok-exchange.ensures.wires

pub returns-in-Err-StampEnd-clause-wires : goal.returns-in-Err-StampEnd-clause-wires
returns-in-Err-StampEnd-clause-wires g c = c.in_ok-exchange.ensures.wires

pub returns-in-Err-NoMemory-clause-wires : goal.returns-in-Err-NoMemory-clause-wires
returns-in-Err-NoMemory-clause-wires g c = turned_less g.D.W.Wire.told g.D.W.Wire.is_joined 1 c.args.plan.now.wires.items c.exchange.new.plan.wires.items c.in_ok-exchange.ensures.wires

pub returns-in_err-exchange-clause-noted : goal.returns-in_err-exchange-clause-noted
returns-in_err-exchange-clause-noted g c = err_on c.from_residual.result _ (λ e. AreNotedAfter e c.exchange.new.plan.kept.items c.exchange.new.plan.ends.items) c.from_residual.ensures.1 c.in_err-exchange.ensures.noted

pub returns-in-Err-NoMemory-clause-noted : goal.returns-in-Err-NoMemory-clause-noted
returns-in-Err-NoMemory-clause-noted g c =
    fed_but_one c.exchange.new.plan.kept.items c.exchange.new.plan.ends.items (all_kept_fed c.exchange.new.plan.kept.items c.exchange.new.plan.ends.items
    (woven_kept (λ b. (goal.Machine-dyn g (b.vtable, b.value)).meaning b.value) c.exchange.new.plan.nodes c.exchange.new.plan.agents c.exchange.new.plan.kept.items c.exchange.new.plan.ends.items c.exchange.new.cells c.in_ok-exchange.ensures.exchanged.over.woven))

pub returns-in_err-exchange-clause-carried : goal.returns-in_err-exchange-clause-carried
returns-in_err-exchange-clause-carried g c = λ all. (nothing_on c.from_residual.result _ _ c.from_residual.ensures.1, err_on c.from_residual.result _ IsOtherFault c.from_residual.ensures.1 (c.in_err-exchange.ensures.carried all).1)

pub returns-in-Ok-clause-carried : goal.returns-in-Ok-clause-carried
returns-in-Ok-clause-carried g c = λ all. ((c.in_ok-exchange.ensures.carried all).0, tt)

pub returns-in-Err-StampEnd-clause-carried : goal.returns-in-Err-StampEnd-clause-carried
returns-in-Err-StampEnd-clause-carried g c = λ all. ((c.in_ok-exchange.ensures.carried all).0, tt)

pub returns-in-Err-NoMemory-clause-carried : goal.returns-in-Err-NoMemory-clause-carried
returns-in-Err-NoMemory-clause-carried g c = λ all. (tt, tt)

pub returns-in_err-exchange-clause-letters : goal.returns-in_err-exchange-clause-letters
returns-in_err-exchange-clause-letters g c = taken_on g.D.W.Wire.told g.D.W.Wire.is_joined (Unit {0}) c.from_residual.result _ c.args.plan.now c.exchange.new.plan c.from_residual.ensures.1 c.in_err-exchange.ensures.letters

pub returns-in-Ok-clause-letters : goal.returns-in-Ok-clause-letters
returns-in-Ok-clause-letters g c = c.in_ok-exchange.ensures.letters

pub returns-in-Err-StampEnd-clause-letters : goal.returns-in-Err-StampEnd-clause-letters
returns-in-Err-StampEnd-clause-letters g c = c.in_ok-exchange.ensures.letters

pub returns-in-Err-NoMemory-clause-letters : goal.returns-in-Err-NoMemory-clause-letters
returns-in-Err-NoMemory-clause-letters g c = plan_part g.D.W.Wire.told g.D.W.Wire.is_joined 1 c.args.plan.now c.exchange.new.plan c.in_ok-exchange.ensures.letters
