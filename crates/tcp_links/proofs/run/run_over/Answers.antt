use Rattle.std.proofs.Common.{◌∙◌, refl, sym, subst, inl, inr}
use Rattle.agent_cells.proofs.CellLaws.{written}
use Rattle.agent_workers.specs.Joined.{states_of}
use Rattle.agent_workers.specs.Run.{views_of}
use Rattle.agent_workers.proofs.JoinLaws.{quiet_same, sound_still}
use Rattle.agent_workers.proofs.RoundLaws.{sound_from}
use Rattle.agent_workers.proofs.RunLaws.{begun_all, fine_all}
use Rattle.node_exchange.specs.Honest.{AreHonest}
use Rattle.tcp_links.specs.declared.over.Played.{Played}
use Rattle.tcp_links.specs.declared.fault.NodeFault.TheVariants.{Differs}
use Rattle.tcp_links.specs.Ends.{IsLeftBy}
use Rattle.tcp_links.specs.Faults.{IsOtherFault}
use Rattle.tcp_links.proofs.OverLaws.{err_on, nothing_on, cause_on, joined_over, joined_quiet}
use Rattle.tcp_links.proofs.RunLaws.{held_in, differs_in, never_differ, starts_over, joined_start, none_start, over_start, held_start, new_over, left_come, fault_last, differs_kept, no_break, last_run, last_duly, last_still, last_held}
use Rattle.tcp_links.proofs.SharedLaws.{run_shared}
use Rattle.tcp_links.specs.Left.{IsTakenOut, AreNotedAfter}
use Rattle.tcp_links.proofs.LeftLaws.{keeps_none, keeps_same, keeps_then, taken_long, same_then}
use Rattle.node_exchange.proofs.TurnLaws.{turned_none, turned_then}
use Rattle.node_exchange.proofs.WholeLaws.{turned_back}
use Rattle.node_exchange.specs.Turned.{AreTurned}
use Rattle.tcp_links.proofs.LostLaws.{turned_on}
use Rattle.tcp_links.proofs.CarriedLaws.{links_then, links_passed, exchange_none, plan_part, plan_then, plan_part_then}
use Rattle.tcp_links.proofs.SentLaws.{links_played, taken_sent, sent_on, sent_last}
use Rattle.tcp_links.proofs.NotedLaws.{kept_out, fed_but_one, on_fault}
use Rattle.tcp_links.proofs.ExchangeLaws.{woven_kept}
use Rattle.tcp_links.proofs.RunLaws.{linked_fed}
use Rattle.tcp_links.proofs.run.run_over.Goals as goal

pub play_over-requires-clause-over : goal.play_over-requires-clause-over
play_over-requires-clause-over g c κs within = over_start (λ b. (goal.Machine-dyn g (b.vtable, b.value)).meaning b.value) c.args.plan.now c.args.cells.now c.begin_all.new.cells c.requires.plan c.requires.linked c.requires.joined c.in_ok-begin_all.ensures.started c.requires.idle c.requires.unseen

pub play_over-requires-clause-joined : goal.play_over-requires-clause-joined
play_over-requires-clause-joined g c κs within = joined_start (λ b. (goal.Machine-dyn g (b.vtable, b.value)).meaning b.value) c.args.plan.now.nodes c.args.cells.now c.begin_all.new.cells c.requires.joined c.in_ok-begin_all.ensures.started

pub play_over-requires-clause-begun : goal.play_over-requires-clause-begun
play_over-requires-clause-begun g c κs within = begun_all (λ b. (goal.Machine-dyn g (b.vtable, b.value)).meaning b.value) c.args.cells.now c.begin_all.new.cells c.in_ok-begin_all.ensures.started

pub play_over-requires-clause-fine : goal.play_over-requires-clause-fine
play_over-requires-clause-fine g c κs within = fine_all (λ b. (goal.Machine-dyn g (b.vtable, b.value)).meaning b.value) c.args.cells.now c.begin_all.new.cells c.in_ok-begin_all.ensures.started

pub play_over-requires-clause-none : goal.play_over-requires-clause-none
play_over-requires-clause-none g c κs within = none_start (λ b. (goal.Machine-dyn g (b.vtable, b.value)).meaning b.value) c.args.plan.now.nodes c.args.cells.now c.begin_all.new.cells c.requires.joined c.in_ok-begin_all.ensures.started

pub exchange-requires-clause-plan : goal.exchange-requires-clause-plan
exchange-requires-clause-plan g c κs within = c.in_ok-play.ensures.over.plan

pub exchange-requires-clause-woven : goal.exchange-requires-clause-woven
exchange-requires-clause-woven g c κs within = c.in_ok-play.ensures.over.woven

pub exchange-requires-clause-ready : goal.exchange-requires-clause-ready
exchange-requires-clause-ready g c κs within = c.in_ok-play.ensures.over.ready

pub exchange-requires-clause-joined : goal.exchange-requires-clause-joined
exchange-requires-clause-joined g c κs within = joined_over (λ b. (goal.Machine-dyn g (b.vtable, b.value)).meaning b.value) c.args.plan.now c.play_over.new.plan c.play_over.new.cells c.in_ok-play.ensures.over.nodes c.play_over.ensures.joined

pub exchange-requires-clause-sound : goal.exchange-requires-clause-sound
exchange-requires-clause-sound g c κs within = sound_from (λ b. (goal.Machine-dyn g (b.vtable, b.value)).meaning b.value) c.play_over.new.cells c.play_over.ensures.begun

pub settle_all-requires-clause-joined : goal.settle_all-requires-clause-joined
settle_all-requires-clause-joined g c = joined_over (λ b. (goal.Machine-dyn g (b.vtable, b.value)).meaning b.value) c.args.plan.now c.exchange.new.plan c.exchange.new.cells (c.in_ok-exchange.ensures.exchanged.over.nodes ∙ c.in_ok-play.ensures.over.nodes) (joined_quiet (λ b. (goal.Machine-dyn g (b.vtable, b.value)).meaning b.value) c.args.plan.now.nodes c.play_over.new.cells c.exchange.new.cells c.play_over.ensures.joined c.exchange.ensures.quiet)

pub settle_all-requires-clause-sound : goal.settle_all-requires-clause-sound
settle_all-requires-clause-sound g c = sound_still (λ b. (goal.Machine-dyn g (b.vtable, b.value)).meaning b.value) c.play_over.new.cells c.exchange.new.cells (sound_from (λ b. (goal.Machine-dyn g (b.vtable, b.value)).meaning b.value) c.play_over.new.cells c.play_over.ensures.begun) c.exchange.ensures.quiet

pub clear_links-requires-clause-agents : goal.clear_links-requires-clause-agents
clear_links-requires-clause-agents g c = c.in_ok-exchange.ensures.exchanged.over.plan.agents

pub clear_links-requires-clause-nodes : goal.clear_links-requires-clause-nodes
clear_links-requires-clause-nodes g c = c.in_ok-exchange.ensures.exchanged.over.plan.nodes

pub clear_links-requires-clause-wires : goal.clear_links-requires-clause-wires
clear_links-requires-clause-wires g c = c.in_ok-exchange.ensures.exchanged.over.plan.wires

pub returns-in_err-begin_all-clause-size : goal.returns-in_err-begin_all-clause-size
returns-in_err-begin_all-clause-size g c = c.begin_all.ensures.same.size

pub returns-in_err-play-clause-size : goal.returns-in_err-play-clause-size
returns-in_err-play-clause-size g c = c.play_over.ensures.size ∙ c.in_ok-begin_all.ensures.started.size

pub returns-in_err-play-clause-cause : goal.returns-in_err-play-clause-cause
returns-in_err-play-clause-cause g c = cause_on Played _ _ _ c.from_residual-in_err-play.result _ refl c.from_residual-in_err-play.ensures.1 c.in_err-play.ensures.cause

pub returns-in_err-play-clause-honest : goal.returns-in_err-play-clause-honest
returns-in_err-play-clause-honest g c = λ h. (nothing_on c.from_residual-in_err-play.result _ _ c.from_residual-in_err-play.ensures.1, err_on c.from_residual-in_err-play.result _ IsOtherFault c.from_residual-in_err-play.ensures.1 (c.in_err-play.ensures.honest h (held_start (λ b. (goal.Machine-dyn g (b.vtable, b.value)).meaning b.value) c.args.plan.now c.args.cells.now c.requires.plan c.requires.linked)).1)

pub returns-in_err-exchange-clause-size : goal.returns-in_err-exchange-clause-size
returns-in_err-exchange-clause-size g c = c.exchange.ensures.quiet.size ∙ c.play_over.ensures.size ∙ c.in_ok-begin_all.ensures.started.size

pub returns-in_err-exchange-clause-cause : goal.returns-in_err-exchange-clause-cause
returns-in_err-exchange-clause-cause g c = cause_on (Unit {0}) _ _ _ c.from_residual-in_err-exchange.result _ c.in_ok-play.ensures.cause c.from_residual-in_err-exchange.ensures.1 c.in_err-exchange.ensures.cause

pub returns-in_err-exchange-clause-dialer : goal.returns-in_err-exchange-clause-dialer
returns-in_err-exchange-clause-dialer g c = λ d. c.exchange.ensures.dialer (c.play_over.ensures.dialer d)

pub returns-in_err-exchange-clause-honest : goal.returns-in_err-exchange-clause-honest
returns-in_err-exchange-clause-honest g c = λ h. (nothing_on c.from_residual-in_err-exchange.result _ _ c.from_residual-in_err-exchange.ensures.1, err_on c.from_residual-in_err-exchange.result _ IsOtherFault c.from_residual-in_err-exchange.ensures.1 (c.in_err-exchange.ensures.honest (c.in_ok-play.ensures.honest h (held_start (λ b. (goal.Machine-dyn g (b.vtable, b.value)).meaning b.value) c.args.plan.now c.args.cells.now c.requires.plan c.requires.linked)).0.0).1)

pub returns-in-Some-clause-size : goal.returns-in-Some-clause-size
returns-in-Some-clause-size g c = c.settle_all.ensures.settled.quiet.size ∙ c.exchange.ensures.quiet.size ∙ c.play_over.ensures.size ∙ c.in_ok-begin_all.ensures.started.size

pub returns-in-Some-clause-cause : goal.returns-in-Some-clause-cause
returns-in-Some-clause-cause g c = c.in_ok-exchange.ensures.cause ∙ c.in_ok-play.ensures.cause

pub returns-in-Some-clause-dialer : goal.returns-in-Some-clause-dialer
returns-in-Some-clause-dialer g c = λ d. c.exchange.ensures.dialer (c.play_over.ensures.dialer d)

pub returns-in-Some-clause-honest : goal.returns-in-Some-clause-honest
returns-in-Some-clause-honest g c = λ h. absurd (never_differ c.as_mut_slice.result.now _ (held_in _ _ (sym c.as_mut_slice.ensures.value) ((c.in_ok-exchange.ensures.honest (c.in_ok-play.ensures.honest h (held_start (λ b. (goal.Machine-dyn g (b.vtable, b.value)).meaning b.value) c.args.plan.now c.args.cells.now c.requires.plan c.requires.linked)).0.0).0.1 (c.in_ok-play.ensures.honest h (held_start (λ b. (goal.Machine-dyn g (b.vtable, b.value)).meaning b.value) c.args.plan.now c.args.cells.now c.requires.plan c.requires.linked)).0.1)) c.in-Some.ensures.found)

pub unreachable-requires : goal.unreachable-requires
unreachable-requires g c = no_break (λ b. (goal.Machine-dyn g (b.vtable, b.value)).meaning b.value) c.args.budget c.in_ok-play.play.rounds (views_of (λ b. (goal.Machine-dyn g (b.vtable, b.value)).meaning b.value) c.args.cells.now) (states_of (λ b. (goal.Machine-dyn g (b.vtable, b.value)).meaning b.value) c.begin_all.new.cells) c.args.plan.now c.play_over.new.plan c.play_over.new.cells c.in_ok-play.play.end (starts_over (λ b. (goal.Machine-dyn g (b.vtable, b.value)).meaning b.value) c.args.plan.now.nodes c.args.cells.now c.begin_all.new.cells c.requires.joined c.in_ok-begin_all.ensures.started) c.in_ok-play.ensures.over c.in_ok-play.ensures.played c.exchange.new.plan c.exchange.new.cells c.settle_all.new.cells c.in_ok-exchange.ensures.exchanged c.settle_all.ensures.settled (held_in _ _ c.as_mut_slice.ensures.value c.in_default.ensures.found) c.in-None.is

pub returns-clause-size : goal.returns-clause-size
returns-clause-size g c = c.settle_all.ensures.settled.quiet.size ∙ c.exchange.ensures.quiet.size ∙ c.play_over.ensures.size ∙ c.in_ok-begin_all.ensures.started.size

pub returns-clause-cause : goal.returns-clause-cause
returns-clause-cause g c = c.in_ok-exchange.ensures.cause ∙ c.in_ok-play.ensures.cause

pub returns-clause-dialer : goal.returns-clause-dialer
returns-clause-dialer g c = λ d. c.exchange.ensures.dialer (c.play_over.ensures.dialer d)

pub returns-clause-run : goal.returns-clause-run
returns-clause-run g c = last_run (λ b. (goal.Machine-dyn g (b.vtable, b.value)).meaning b.value) c.args.budget c.in_ok-play.play.rounds (views_of (λ b. (goal.Machine-dyn g (b.vtable, b.value)).meaning b.value) c.args.cells.now) (states_of (λ b. (goal.Machine-dyn g (b.vtable, b.value)).meaning b.value) c.begin_all.new.cells) c.args.plan.now c.play_over.new.plan c.play_over.new.cells c.in_ok-play.play.end (starts_over (λ b. (goal.Machine-dyn g (b.vtable, b.value)).meaning b.value) c.args.plan.now.nodes c.args.cells.now c.begin_all.new.cells c.requires.joined c.in_ok-begin_all.ensures.started) c.in_ok-play.ensures.over c.in_ok-play.ensures.played c.exchange.new.plan c.exchange.new.cells c.settle_all.new.cells c.in_ok-exchange.ensures.exchanged c.settle_all.ensures.settled (held_in _ _ c.as_mut_slice.ensures.value c.in_default.ensures.found) c.in-Some-end.end c.in-Some-end.is

pub returns-clause-rounds : goal.returns-clause-rounds
returns-clause-rounds g c = last_duly (λ b. (goal.Machine-dyn g (b.vtable, b.value)).meaning b.value) c.args.budget c.in_ok-play.play.rounds (views_of (λ b. (goal.Machine-dyn g (b.vtable, b.value)).meaning b.value) c.args.cells.now) (states_of (λ b. (goal.Machine-dyn g (b.vtable, b.value)).meaning b.value) c.begin_all.new.cells) c.args.plan.now c.play_over.new.plan c.play_over.new.cells c.in_ok-play.play.end (starts_over (λ b. (goal.Machine-dyn g (b.vtable, b.value)).meaning b.value) c.args.plan.now.nodes c.args.cells.now c.begin_all.new.cells c.requires.joined c.in_ok-begin_all.ensures.started) c.in_ok-play.ensures.over c.in_ok-play.ensures.played c.exchange.new.plan c.exchange.new.cells c.settle_all.new.cells c.in_ok-exchange.ensures.exchanged c.settle_all.ensures.settled (held_in _ _ c.as_mut_slice.ensures.value c.in_default.ensures.found) c.in-Some-end.end c.in-Some-end.is

pub returns-clause-still : goal.returns-clause-still
returns-clause-still g c = last_still (λ b. (goal.Machine-dyn g (b.vtable, b.value)).meaning b.value) c.args.budget c.in_ok-play.play.rounds (views_of (λ b. (goal.Machine-dyn g (b.vtable, b.value)).meaning b.value) c.args.cells.now) (states_of (λ b. (goal.Machine-dyn g (b.vtable, b.value)).meaning b.value) c.begin_all.new.cells) c.args.plan.now c.play_over.new.plan c.play_over.new.cells c.in_ok-play.play.end (starts_over (λ b. (goal.Machine-dyn g (b.vtable, b.value)).meaning b.value) c.args.plan.now.nodes c.args.cells.now c.begin_all.new.cells c.requires.joined c.in_ok-begin_all.ensures.started) c.in_ok-play.ensures.over c.in_ok-play.ensures.played c.exchange.new.plan c.exchange.new.cells c.settle_all.new.cells c.in_ok-exchange.ensures.exchanged c.settle_all.ensures.settled (held_in _ _ c.as_mut_slice.ensures.value c.in_default.ensures.found) c.in-Some-end.end c.in-Some-end.is

pub returns-clause-held : goal.returns-clause-held
returns-clause-held g c = last_held (λ b. (goal.Machine-dyn g (b.vtable, b.value)).meaning b.value) c.args.budget c.in_ok-play.play.rounds (views_of (λ b. (goal.Machine-dyn g (b.vtable, b.value)).meaning b.value) c.args.cells.now) (states_of (λ b. (goal.Machine-dyn g (b.vtable, b.value)).meaning b.value) c.begin_all.new.cells) c.args.plan.now c.play_over.new.plan c.play_over.new.cells c.in_ok-play.play.end (starts_over (λ b. (goal.Machine-dyn g (b.vtable, b.value)).meaning b.value) c.args.plan.now.nodes c.args.cells.now c.begin_all.new.cells c.requires.joined c.in_ok-begin_all.ensures.started) c.in_ok-play.ensures.over c.in_ok-play.ensures.played c.exchange.new.plan c.exchange.new.cells c.settle_all.new.cells c.in_ok-exchange.ensures.exchanged c.settle_all.ensures.settled (held_in _ _ c.as_mut_slice.ensures.value c.in_default.ensures.found) c.in-Some-end.end c.in-Some-end.is

pub returns-clause-plan : goal.returns-clause-plan
returns-clause-plan g c = new_over (λ b. (goal.Machine-dyn g (b.vtable, b.value)).meaning b.value) c.args.plan.now c.play_over.new.plan c.exchange.new.plan c.clear_links.new.plan c.play_over.new.cells c.exchange.new.cells c.in_ok-play.ensures.over c.in_ok-exchange.ensures.exchanged.over c.clear_links.ensures.new

pub returns-clause-honest : goal.returns-clause-honest
returns-clause-honest g c = λ h. (subst (λ ws. AreHonest g.D.W.Wire.told g.D.W.Wire.is_joined ws) (sym c.clear_links.ensures.wires) (c.in_ok-exchange.ensures.honest (c.in_ok-play.ensures.honest h (held_start (λ b. (goal.Machine-dyn g (b.vtable, b.value)).meaning b.value) c.args.plan.now c.args.cells.now c.requires.plan c.requires.linked)).0.0).0.0, tt)

pub returns-clause-parts : goal.returns-clause-parts
returns-clause-parts g c = run_shared (λ b. (goal.Machine-dyn g (b.vtable, b.value)).meaning b.value) c.args.workers c.args.plan.now.nodes c.args.cells.now c.begin_all.new.cells c.play_over.new.cells c.exchange.new.cells c.settle_all.new.cells c.in_ok-play.play.end c.in-Some-end.end c.in-Some-end.is c.in_ok-begin_all.ensures.started c.in_ok-play.ensures.parts c.exchange.ensures.quiet c.settle_all.ensures.settled.quiet

pub returns-in_err-begin_all-clause-same : goal.returns-in_err-begin_all-clause-same
returns-in_err-begin_all-clause-same g c = c.begin_all.ensures.same

pub returns-in_err-begin_all-clause-sound : goal.returns-in_err-begin_all-clause-sound
returns-in_err-begin_all-clause-sound g c = c.begin_all.ensures.sound

pub returns-in_err-play-clause-same : goal.returns-in_err-play-clause-same
returns-in_err-play-clause-same g c = same_then (λ b. (goal.Machine-dyn g (b.vtable, b.value)).meaning b.value) c.args.cells.now c.begin_all.new.cells c.play_over.new.cells c.begin_all.ensures.same c.play_over.ensures.same

pub returns-in_err-play-clause-sound : goal.returns-in_err-play-clause-sound
returns-in_err-play-clause-sound g c = sound_from (λ b. (goal.Machine-dyn g (b.vtable, b.value)).meaning b.value) c.play_over.new.cells c.play_over.ensures.begun

pub returns-in_err-exchange-clause-same : goal.returns-in_err-exchange-clause-same
returns-in_err-exchange-clause-same g c = same_then (λ b. (goal.Machine-dyn g (b.vtable, b.value)).meaning b.value) c.args.cells.now c.play_over.new.cells c.exchange.new.cells (same_then (λ b. (goal.Machine-dyn g (b.vtable, b.value)).meaning b.value) c.args.cells.now c.begin_all.new.cells c.play_over.new.cells c.begin_all.ensures.same c.play_over.ensures.same) (quiet_same (λ b. (goal.Machine-dyn g (b.vtable, b.value)).meaning b.value) c.play_over.new.cells c.exchange.new.cells c.exchange.ensures.quiet)

pub returns-in_err-exchange-clause-sound : goal.returns-in_err-exchange-clause-sound
returns-in_err-exchange-clause-sound g c = sound_still (λ b. (goal.Machine-dyn g (b.vtable, b.value)).meaning b.value) c.play_over.new.cells c.exchange.new.cells (sound_from (λ b. (goal.Machine-dyn g (b.vtable, b.value)).meaning b.value) c.play_over.new.cells c.play_over.ensures.begun) c.exchange.ensures.quiet

pub returns-in-Some-clause-same : goal.returns-in-Some-clause-same
returns-in-Some-clause-same g c = same_then (λ b. (goal.Machine-dyn g (b.vtable, b.value)).meaning b.value) c.args.cells.now c.exchange.new.cells c.settle_all.new.cells (same_then (λ b. (goal.Machine-dyn g (b.vtable, b.value)).meaning b.value) c.args.cells.now c.play_over.new.cells c.exchange.new.cells (same_then (λ b. (goal.Machine-dyn g (b.vtable, b.value)).meaning b.value) c.args.cells.now c.begin_all.new.cells c.play_over.new.cells c.begin_all.ensures.same c.play_over.ensures.same) (quiet_same (λ b. (goal.Machine-dyn g (b.vtable, b.value)).meaning b.value) c.play_over.new.cells c.exchange.new.cells c.exchange.ensures.quiet)) (quiet_same (λ b. (goal.Machine-dyn g (b.vtable, b.value)).meaning b.value) c.exchange.new.cells c.settle_all.new.cells c.settle_all.ensures.settled.quiet)

pub returns-in-Some-clause-sound : goal.returns-in-Some-clause-sound
returns-in-Some-clause-sound g c = sound_still (λ b. (goal.Machine-dyn g (b.vtable, b.value)).meaning b.value) c.exchange.new.cells c.settle_all.new.cells (sound_still (λ b. (goal.Machine-dyn g (b.vtable, b.value)).meaning b.value) c.play_over.new.cells c.exchange.new.cells (sound_from (λ b. (goal.Machine-dyn g (b.vtable, b.value)).meaning b.value) c.play_over.new.cells c.play_over.ensures.begun) c.exchange.ensures.quiet) c.settle_all.ensures.settled.quiet

pub returns-clause-same : goal.returns-clause-same
returns-clause-same g c = same_then (λ b. (goal.Machine-dyn g (b.vtable, b.value)).meaning b.value) c.args.cells.now c.exchange.new.cells c.settle_all.new.cells (same_then (λ b. (goal.Machine-dyn g (b.vtable, b.value)).meaning b.value) c.args.cells.now c.play_over.new.cells c.exchange.new.cells (same_then (λ b. (goal.Machine-dyn g (b.vtable, b.value)).meaning b.value) c.args.cells.now c.begin_all.new.cells c.play_over.new.cells c.begin_all.ensures.same c.play_over.ensures.same) (quiet_same (λ b. (goal.Machine-dyn g (b.vtable, b.value)).meaning b.value) c.play_over.new.cells c.exchange.new.cells c.exchange.ensures.quiet)) (quiet_same (λ b. (goal.Machine-dyn g (b.vtable, b.value)).meaning b.value) c.exchange.new.cells c.settle_all.new.cells c.settle_all.ensures.settled.quiet)

pub returns-clause-sound : goal.returns-clause-sound
returns-clause-sound g c = sound_still (λ b. (goal.Machine-dyn g (b.vtable, b.value)).meaning b.value) c.exchange.new.cells c.settle_all.new.cells (sound_still (λ b. (goal.Machine-dyn g (b.vtable, b.value)).meaning b.value) c.play_over.new.cells c.exchange.new.cells (sound_from (λ b. (goal.Machine-dyn g (b.vtable, b.value)).meaning b.value) c.play_over.new.cells c.play_over.ensures.begun) c.exchange.ensures.quiet) c.settle_all.ensures.settled.quiet

pub returns-in_err-begin_all-clause-wires : goal.returns-in_err-begin_all-clause-wires
returns-in_err-begin_all-clause-wires g c = turned_none g.D.W.Wire.told g.D.W.Wire.is_joined _ c.args.plan.now.wires.items

pub returns-in_err-play-clause-wires : goal.returns-in_err-play-clause-wires
returns-in_err-play-clause-wires g c = turned_on g.D.W.Wire.told g.D.W.Wire.is_joined c.args.plan.now.wires.items c.play_over.new.plan.wires.items Played c.from_residual-in_err-play.result _ c.from_residual-in_err-play.ensures.1 c.in_err-play.ensures.wires

pub returns-in_err-exchange-clause-wires : goal.returns-in_err-exchange-clause-wires
returns-in_err-exchange-clause-wires g c = turned_on g.D.W.Wire.told g.D.W.Wire.is_joined c.args.plan.now.wires.items c.exchange.new.plan.wires.items (Unit {0}) c.from_residual-in_err-exchange.result _ c.from_residual-in_err-exchange.ensures.1 (turned_then g.D.W.Wire.told g.D.W.Wire.is_joined _ c.args.plan.now.wires.items c.play_over.new.plan.wires.items c.exchange.new.plan.wires.items c.in_ok-play.ensures.wires c.in_err-exchange.ensures.wires)

pub returns-in-Some-clause-wires : goal.returns-in-Some-clause-wires
returns-in-Some-clause-wires g c = turned_then g.D.W.Wire.told g.D.W.Wire.is_joined 0 c.args.plan.now.wires.items c.play_over.new.plan.wires.items c.exchange.new.plan.wires.items c.in_ok-play.ensures.wires c.in_ok-exchange.ensures.wires

pub returns-clause-wires : goal.returns-clause-wires
returns-clause-wires g c = subst (λ ws. AreTurned g.D.W.Wire.told g.D.W.Wire.is_joined 0 c.args.plan.now.wires.items ws) (sym c.clear_links.ensures.wires) (turned_then g.D.W.Wire.told g.D.W.Wire.is_joined 0 c.args.plan.now.wires.items c.play_over.new.plan.wires.items c.exchange.new.plan.wires.items c.in_ok-play.ensures.wires c.in_ok-exchange.ensures.wires)

pub returns-in_err-begin_all-clause-noted : goal.returns-in_err-begin_all-clause-noted
returns-in_err-begin_all-clause-noted g c = err_on c.from_residual.result _ (λ e. AreNotedAfter e c.args.plan.now.kept.items c.args.plan.now.ends.items) c.from_residual.ensures.1 (fed_but_one c.args.plan.now.kept.items c.args.plan.now.ends.items (linked_fed (λ b. (goal.Machine-dyn g (b.vtable, b.value)).meaning b.value) c.args.plan.now c.args.cells.now c.requires.plan c.requires.linked c.requires.joined))

pub returns-in_err-play-clause-noted : goal.returns-in_err-play-clause-noted
returns-in_err-play-clause-noted g c = err_on c.from_residual-in_err-play.result _ (λ e. AreNotedAfter e c.play_over.new.plan.kept.items c.play_over.new.plan.ends.items) c.from_residual-in_err-play.ensures.1 c.in_err-play.ensures.noted

pub returns-in_err-exchange-clause-noted : goal.returns-in_err-exchange-clause-noted
returns-in_err-exchange-clause-noted g c = err_on c.from_residual-in_err-exchange.result _ (λ e. AreNotedAfter e c.exchange.new.plan.kept.items c.exchange.new.plan.ends.items) c.from_residual-in_err-exchange.ensures.1 c.in_err-exchange.ensures.noted

pub returns-in-Some-clause-noted : goal.returns-in-Some-clause-noted
returns-in-Some-clause-noted g c =
    let out = subst (λ ws. IsTakenOut c.in-Some.difference ws c.compare.new.kept) c.as_mut_slice.ensures.value c.in-Some.ensures.left in
    let kept = written _ c.exchange.new.plan.kept.items c.compare.new.kept c.as_mut_slice.result.now c.exchange.new.plan.kept.ok.0 (taken_long c.in-Some.difference c.as_mut_slice.result.now c.compare.new.kept c.in-Some.ensures.left) c.as_mut_slice.ensures.value in
    subst (λ ws. AreNotedAfter (Differs c.in-Some.difference) ws c.exchange.new.plan.ends.items) (sym kept) (kept_out c.in-Some.difference c.exchange.new.plan.kept.items c.compare.new.kept c.exchange.new.plan.ends.items out
    (woven_kept (λ b. (goal.Machine-dyn g (b.vtable, b.value)).meaning b.value) c.exchange.new.plan.nodes c.exchange.new.plan.agents c.exchange.new.plan.kept.items c.exchange.new.plan.ends.items c.exchange.new.cells c.in_ok-exchange.ensures.exchanged.over.woven))

pub returns-in_err-begin_all-clause-keeps : goal.returns-in_err-begin_all-clause-keeps
returns-in_err-begin_all-clause-keeps g c = on_fault c.from_residual.result (keeps_none c.args.plan.now)

pub returns-in_err-play-clause-keeps : goal.returns-in_err-play-clause-keeps
returns-in_err-play-clause-keeps g c = on_fault c.from_residual-in_err-play.result c.play_over.ensures.keeps

pub returns-in_err-exchange-clause-keeps : goal.returns-in_err-exchange-clause-keeps
returns-in_err-exchange-clause-keeps g c = on_fault c.from_residual-in_err-exchange.result (keeps_then c.args.plan.now c.play_over.new.plan c.exchange.new.plan c.play_over.ensures.keeps c.exchange.ensures.keeps)

pub returns-in-Some-clause-keeps : goal.returns-in-Some-clause-keeps
returns-in-Some-clause-keeps g c = keeps_then c.args.plan.now c.exchange.new.plan _ (keeps_then c.args.plan.now c.play_over.new.plan c.exchange.new.plan c.play_over.ensures.keeps c.exchange.ensures.keeps) (keeps_same c.exchange.new.plan _ refl refl refl)

pub returns-in_err-begin_all-clause-left : goal.returns-in_err-begin_all-clause-left
returns-in_err-begin_all-clause-left g c = err_on c.from_residual.result _ (IsLeftBy (λ b. (goal.Machine-dyn g (b.vtable, b.value)).meaning b.value) c.args.workers c.args.budget c.args.plan.now c.args.cells.now c.args.plan.now.kept.items c.args.plan.now.ends.items c.begin_all.new.cells) c.from_residual.ensures.1 (inl (record { none = refl; same = refl; cells = inr c.in_err-begin_all.ensures.left }))

pub returns-in_err-play-clause-left : goal.returns-in_err-play-clause-left
returns-in_err-play-clause-left g c = err_on c.from_residual-in_err-play.result _ (IsLeftBy (λ b. (goal.Machine-dyn g (b.vtable, b.value)).meaning b.value) c.args.workers c.args.budget c.args.plan.now c.args.cells.now c.play_over.new.plan.kept.items c.play_over.new.plan.ends.items c.play_over.new.cells) c.from_residual-in_err-play.ensures.1
    (left_come (λ b. (goal.Machine-dyn g (b.vtable, b.value)).meaning b.value) c.args.workers c.args.budget c.args.plan.now c.play_over.new.plan.kept.items c.play_over.new.plan.ends.items c.args.cells.now c.play_over.new.cells (states_of (λ b. (goal.Machine-dyn g (b.vtable, b.value)).meaning b.value) c.begin_all.new.cells) _ (starts_over (λ b. (goal.Machine-dyn g (b.vtable, b.value)).meaning b.value) c.args.plan.now.nodes c.args.cells.now c.begin_all.new.cells c.requires.joined c.in_ok-begin_all.ensures.started) c.in_err-play.ensures.left)

pub returns-in_err-exchange-clause-left : goal.returns-in_err-exchange-clause-left
returns-in_err-exchange-clause-left g c = err_on c.from_residual-in_err-exchange.result _ (IsLeftBy (λ b. (goal.Machine-dyn g (b.vtable, b.value)).meaning b.value) c.args.workers c.args.budget c.args.plan.now c.args.cells.now c.exchange.new.plan.kept.items c.exchange.new.plan.ends.items c.exchange.new.cells) c.from_residual-in_err-exchange.ensures.1
    (left_come (λ b. (goal.Machine-dyn g (b.vtable, b.value)).meaning b.value) c.args.workers c.args.budget c.args.plan.now c.exchange.new.plan.kept.items c.exchange.new.plan.ends.items c.args.cells.now c.exchange.new.cells (states_of (λ b. (goal.Machine-dyn g (b.vtable, b.value)).meaning b.value) c.begin_all.new.cells) _ (starts_over (λ b. (goal.Machine-dyn g (b.vtable, b.value)).meaning b.value) c.args.plan.now.nodes c.args.cells.now c.begin_all.new.cells c.requires.joined c.in_ok-begin_all.ensures.started)
    (fault_last (λ b. (goal.Machine-dyn g (b.vtable, b.value)).meaning b.value) c.args.budget c.in_ok-play.play.rounds (views_of (λ b. (goal.Machine-dyn g (b.vtable, b.value)).meaning b.value) c.args.cells.now) (states_of (λ b. (goal.Machine-dyn g (b.vtable, b.value)).meaning b.value) c.begin_all.new.cells) c.args.plan.now c.play_over.new.plan c.play_over.new.cells c.in_ok-play.play.end (starts_over (λ b. (goal.Machine-dyn g (b.vtable, b.value)).meaning b.value) c.args.plan.now.nodes c.args.cells.now c.begin_all.new.cells c.requires.joined c.in_ok-begin_all.ensures.started) c.in_ok-play.ensures.over c.in_ok-play.ensures.played c.args.workers c.exchange.new.plan c.exchange.new.cells _ c.in_err-exchange.ensures.left))

pub returns-in-Some-clause-left : goal.returns-in-Some-clause-left
returns-in-Some-clause-left g c =
    let out = subst (λ ws. IsTakenOut c.in-Some.difference ws c.compare.new.kept) c.as_mut_slice.ensures.value c.in-Some.ensures.left in
    let kept = written _ c.exchange.new.plan.kept.items c.compare.new.kept c.as_mut_slice.result.now c.exchange.new.plan.kept.ok.0 (taken_long c.in-Some.difference c.as_mut_slice.result.now c.compare.new.kept c.in-Some.ensures.left) c.as_mut_slice.ensures.value in
    left_come (λ b. (goal.Machine-dyn g (b.vtable, b.value)).meaning b.value) c.args.workers c.args.budget c.args.plan.now _ c.exchange.new.plan.ends.items c.args.cells.now c.settle_all.new.cells (states_of (λ b. (goal.Machine-dyn g (b.vtable, b.value)).meaning b.value) c.begin_all.new.cells) (Differs c.in-Some.difference) (starts_over (λ b. (goal.Machine-dyn g (b.vtable, b.value)).meaning b.value) c.args.plan.now.nodes c.args.cells.now c.begin_all.new.cells c.requires.joined c.in_ok-begin_all.ensures.started)
    (differs_kept (λ b. (goal.Machine-dyn g (b.vtable, b.value)).meaning b.value) c.args.budget c.in_ok-play.play.rounds (views_of (λ b. (goal.Machine-dyn g (b.vtable, b.value)).meaning b.value) c.args.cells.now) (states_of (λ b. (goal.Machine-dyn g (b.vtable, b.value)).meaning b.value) c.begin_all.new.cells) c.args.plan.now c.play_over.new.plan c.play_over.new.cells c.in_ok-play.play.end (starts_over (λ b. (goal.Machine-dyn g (b.vtable, b.value)).meaning b.value) c.args.plan.now.nodes c.args.cells.now c.begin_all.new.cells c.requires.joined c.in_ok-begin_all.ensures.started) c.in_ok-play.ensures.over c.in_ok-play.ensures.played c.exchange.new.plan c.exchange.new.cells c.settle_all.new.cells c.in_ok-exchange.ensures.exchanged c.settle_all.ensures.settled c.args.workers c.in-Some.difference _ (differs_in _ _ _ c.as_mut_slice.ensures.value c.in-Some.ensures.found) (subst (λ ws. IsTakenOut c.in-Some.difference c.exchange.new.plan.kept.items ws) (sym kept) out))

pub returns-in_err-play-clause-carried : goal.returns-in_err-play-clause-carried
returns-in_err-play-clause-carried g c = λ all. err_on c.from_residual-in_err-play.result _ IsOtherFault c.from_residual-in_err-play.ensures.1 (c.in_err-play.ensures.carried all (held_start (λ b. (goal.Machine-dyn g (b.vtable, b.value)).meaning b.value) c.args.plan.now c.args.cells.now c.requires.plan c.requires.linked)).1

pub returns-in_err-exchange-clause-carried : goal.returns-in_err-exchange-clause-carried
returns-in_err-exchange-clause-carried g c = λ all. err_on c.from_residual-in_err-exchange.result _ IsOtherFault c.from_residual-in_err-exchange.ensures.1 (c.in_err-exchange.ensures.carried all).1

pub returns-in-Some-clause-carried : goal.returns-in-Some-clause-carried
returns-in-Some-clause-carried g c = λ all.
    let held = (c.in_ok-play.ensures.carried (turned_back g.D.W.Wire.told g.D.W.Wire.is_joined c.play_over.new.plan.wires.items c.exchange.new.plan.wires.items c.in_ok-exchange.ensures.wires all) (held_start (λ b. (goal.Machine-dyn g (b.vtable, b.value)).meaning b.value) c.args.plan.now c.args.cells.now c.requires.plan c.requires.linked)).0 in
    absurd (never_differ c.as_mut_slice.result.now _ (held_in _ _ (sym c.as_mut_slice.ensures.value) ((c.in_ok-exchange.ensures.carried all).0 held)) c.in-Some.ensures.found)

pub returns-in_err-begin_all-clause-letters : goal.returns-in_err-begin_all-clause-letters
returns-in_err-begin_all-clause-letters g c = sent_on g.D.W.Wire.told g.D.W.Wire.is_joined (Unit {0}) c.from_residual.result _ c.args.plan.now c.args.plan.now _ c.from_residual.ensures.1 (exchange_none g.D.W.Wire.told g.D.W.Wire.is_joined _ c.args.plan.now c.args.plan.now.ends.items c.args.plan.now.wires.items (keeps_none c.args.plan.now).ends refl)

pub returns-in_err-play-clause-letters : goal.returns-in_err-play-clause-letters
returns-in_err-play-clause-letters g c = sent_on g.D.W.Wire.told g.D.W.Wire.is_joined Played c.from_residual-in_err-play.result _ c.args.plan.now c.play_over.new.plan _ c.from_residual-in_err-play.ensures.1 c.in_err-play.ensures.letters

pub returns-in_err-exchange-clause-letters : goal.returns-in_err-exchange-clause-letters
returns-in_err-exchange-clause-letters g c = sent_on g.D.W.Wire.told g.D.W.Wire.is_joined (Unit {0}) c.from_residual-in_err-exchange.result _ c.args.plan.now c.exchange.new.plan _ c.from_residual-in_err-exchange.ensures.1
    (plan_part_then g.D.W.Wire.told g.D.W.Wire.is_joined _ c.args.plan.now c.play_over.new.plan c.exchange.new.plan c.play_over.ensures.keeps (links_played (λ b. (goal.Machine-dyn g (b.vtable, b.value)).meaning b.value) _ _ _ _ _ c.play_over.new.cells _ c.in_ok-play.play.end c.in_ok-play.ensures.played) c.in_ok-play.ensures.letters c.in_err-exchange.ensures.letters)

pub returns-in-Some-clause-letters : goal.returns-in-Some-clause-letters
returns-in-Some-clause-letters g c = plan_part g.D.W.Wire.told g.D.W.Wire.is_joined 0 c.args.plan.now c.exchange.new.plan (plan_then g.D.W.Wire.told g.D.W.Wire.is_joined c.args.plan.now c.play_over.new.plan c.exchange.new.plan c.play_over.ensures.keeps (links_played (λ b. (goal.Machine-dyn g (b.vtable, b.value)).meaning b.value) _ _ _ _ _ c.play_over.new.cells _ c.in_ok-play.play.end c.in_ok-play.ensures.played) c.in_ok-play.ensures.letters c.in_ok-exchange.ensures.letters)

pub returns-clause-letters : goal.returns-clause-letters
returns-clause-letters g c =
    let links = links_then c.args.plan.now.kept.items c.play_over.new.plan.kept.items c.exchange.new.plan.kept.items (links_played (λ b. (goal.Machine-dyn g (b.vtable, b.value)).meaning b.value) _ _ _ _ _ c.play_over.new.cells _ c.in_ok-play.play.end c.in_ok-play.ensures.played) (links_passed _ _ c.in_ok-exchange.ensures.exchanged.exchange.passed) in
    sent_last g.D.W.Wire.told g.D.W.Wire.is_joined c.args.plan.now c.exchange.new.plan c.clear_links.new.plan (states_of (λ b. (goal.Machine-dyn g (b.vtable, b.value)).meaning b.value) c.settle_all.new.cells) c.clear_links.ensures.wires (plan_then g.D.W.Wire.told g.D.W.Wire.is_joined c.args.plan.now c.play_over.new.plan c.exchange.new.plan c.play_over.ensures.keeps (links_played (λ b. (goal.Machine-dyn g (b.vtable, b.value)).meaning b.value) _ _ _ _ _ c.play_over.new.cells _ c.in_ok-play.play.end c.in_ok-play.ensures.played) c.in_ok-play.ensures.letters c.in_ok-exchange.ensures.letters)
    (λ drained h. taken_sent (λ b. (goal.Machine-dyn g (b.vtable, b.value)).meaning b.value) c.args.plan.now c.exchange.new.plan c.args.cells.now c.exchange.new.cells c.settle_all.new.cells drained c.requires.plan c.requires.linked (keeps_then c.args.plan.now c.play_over.new.plan c.exchange.new.plan c.play_over.ensures.keeps c.exchange.ensures.keeps) links
    c.in_ok-exchange.ensures.exchanged.told c.settle_all.ensures.settled.quiet h)
