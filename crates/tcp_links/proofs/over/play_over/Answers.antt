use Rattle.std.proofs.Common.{ℕ, ◌+◌, ◌∙◌, Option, refl, sym, subst, arith}
use Rattle.worker_laws.specs.OneNode.{home}
use Rattle.agent_workers.specs.Joined.{states_of}
use Rattle.agent_workers.proofs.RunLaws.{ended_states, same_all}
use Rattle.tcp_links.specs.Faults.{IsOtherFault}
use Rattle.tcp_links.specs.Over.{IsRoundOver}
use Rattle.tcp_links.specs.Ends.{IsFaultOver}
use Rattle.tcp_links.proofs.OverLaws.{err_on, nothing_on, cause_on, joined_over, joined_back, over_self, over_then, none_over, all_over, ended_to, broken_to, fault_over, due_on, busy_on, rest_on, idle_on, broken_on}
use Rattle.tcp_links.specs.Shared.{ArePlayedSharedOver}
use Rattle.tcp_links.proofs.SharedLaws.{if_ended, if_broken, shared_at, shared_start, shared_all, shared_more, shared_last}
use Rattle.tcp_links.proofs.LeftLaws.{keeps_none, keeps_then, same_then}
use Rattle.node_exchange.proofs.TurnLaws.{turned_none, turned_then}
use Rattle.node_exchange.proofs.WholeLaws.{turned_back}
use Rattle.tcp_links.proofs.LostLaws.{turned_on}
use Rattle.tcp_links.proofs.CarriedLaws.{links_rounds, plan_none, plan_then, plan_part_then, taken_on}
use Rattle.tcp_links.specs.Left.{AreNotedAfter}
use Rattle.tcp_links.proofs.over.play_over.Goals as goal

pub loop-round-init : goal.loop-round-init
loop-round-init g c = record {
  shared = shared_start (λ b. (goal.Machine-dyn g (b.vtable, b.value)).meaning b.value) c.args.workers c.args.plan.now.nodes c.args.cells.now;
  size = refl;
  same = same_all (λ b. (goal.Machine-dyn g (b.vtable, b.value)).meaning b.value) c.args.cells.now;
  keeps = keeps_none c.args.plan.now;
  wires = turned_none g.D.W.Wire.told g.D.W.Wire.is_joined 0 c.args.plan.now.wires.items;
  letters = plan_none g.D.W.Wire.told g.D.W.Wire.is_joined c.args.plan.now;
  joined = c.requires.joined;
  begun = c.requires.begun;
  fine = c.requires.fine;
  over = c.requires.over;
  played = none_over (home c.args.plan.now.nodes c.args.plan.now.agents) c.args.budget c.args.plan.now.kept.items (states_of (λ b. (goal.Machine-dyn g (b.vtable, b.value)).meaning b.value) c.args.cells.now);
  deliveries = sym c.requires.none;
  progress = omega arith;
  most = omega arith;
  within = λ lt. lt;
  awake = ended_states (λ b. (goal.Machine-dyn g (b.vtable, b.value)).meaning b.value) c.args.cells.now ∙ sym c.if-all_ended.ensures;
  faults = refl;
  dialer = λ d. d;
  honest = λ h held. h;
  held = λ h held. held;
  carried = λ all held. held;
}

pub returns-then-all_ended-clause-over : goal.returns-then-all_ended-clause-over
returns-then-all_ended-clause-over g c = c.requires.over

pub returns-then-all_ended-clause-played : goal.returns-then-all_ended-clause-played
returns-then-all_ended-clause-played g c = ended_to (λ b. (goal.Machine-dyn g (b.vtable, b.value)).meaning b.value) (home c.args.plan.now.nodes c.args.plan.now.agents) c.args.budget c.args.plan.now.kept.items (states_of (λ b. (goal.Machine-dyn g (b.vtable, b.value)).meaning b.value) c.args.cells.now) c.args.plan.now.kept.items c.args.cells.now 0 _ _ _ c.ended.ensures (record {
  played = all_over (home c.args.plan.now.nodes c.args.plan.now.agents) c.args.budget 0 c.args.plan.now.kept.items (states_of (λ b. (goal.Machine-dyn g (b.vtable, b.value)).meaning b.value) c.args.cells.now) c.args.plan.now.kept.items (states_of (λ b. (goal.Machine-dyn g (b.vtable, b.value)).meaning b.value) c.args.cells.now) (none_over (home c.args.plan.now.nodes c.args.plan.now.agents) c.args.budget c.args.plan.now.kept.items (states_of (λ b. (goal.Machine-dyn g (b.vtable, b.value)).meaning b.value) c.args.cells.now));
  stopped = (sym c.requires.none, ended_states (λ b. (goal.Machine-dyn g (b.vtable, b.value)).meaning b.value) c.args.cells.now ∙ sym c.if-all_ended.ensures);
  idle = tt;
})

pub returns-then-all_ended-clause-honest : goal.returns-then-all_ended-clause-honest
returns-then-all_ended-clause-honest g c = λ h held. ((h, held), tt)

pub round_over-requires-clause-over : goal.round_over-requires-clause-over
round_over-requires-clause-over g c κs within = over_self (λ b. (goal.Machine-dyn g (b.vtable, b.value)).meaning b.value) c.args.plan.now c.loop-round.plan c.loop-round.cells c.loop-round.invariant.over

pub round_over-requires-clause-joined : goal.round_over-requires-clause-joined
round_over-requires-clause-joined g c κs within = joined_over (λ b. (goal.Machine-dyn g (b.vtable, b.value)).meaning b.value) c.args.plan.now c.loop-round.plan c.loop-round.cells c.loop-round.invariant.over.nodes c.loop-round.invariant.joined

pub returns-in_err-taken-clause-size : goal.returns-in_err-taken-clause-size
returns-in_err-taken-clause-size g c = c.round_over.ensures.size ∙ c.loop-round.invariant.size

pub returns-in_err-taken-clause-joined : goal.returns-in_err-taken-clause-joined
returns-in_err-taken-clause-joined g c = joined_back (λ b. (goal.Machine-dyn g (b.vtable, b.value)).meaning b.value) c.args.plan.now c.loop-round.plan c.round_over.new.cells c.loop-round.invariant.over.nodes c.round_over.ensures.joined

pub returns-in_err-taken-clause-cause : goal.returns-in_err-taken-clause-cause
returns-in_err-taken-clause-cause g c = cause_on (Option ℕ) _ _ _ c.from_residual.result _ c.loop-round.invariant.faults c.from_residual.ensures.1 c.in_err-taken.ensures.cause

pub returns-in_err-taken-clause-dialer : goal.returns-in_err-taken-clause-dialer
returns-in_err-taken-clause-dialer g c = λ d. c.round_over.ensures.dialer (c.loop-round.invariant.dialer d)

pub returns-in_err-taken-clause-left : goal.returns-in_err-taken-clause-left
returns-in_err-taken-clause-left g c = err_on c.from_residual.result _ (IsFaultOver (λ b. (goal.Machine-dyn g (b.vtable, b.value)).meaning b.value) c.args.plan.now.nodes (home c.args.plan.now.nodes c.args.plan.now.agents) c.args.workers c.args.budget c.args.plan.now.kept.items (states_of (λ b. (goal.Machine-dyn g (b.vtable, b.value)).meaning b.value) c.args.cells.now) c.round_over.new.plan.kept.items c.round_over.new.plan.ends.items c.round_over.new.cells) c.from_residual.ensures.1
    (fault_over (λ b. (goal.Machine-dyn g (b.vtable, b.value)).meaning b.value) c.args.budget c.loop-round.round c.args.plan.now.kept.items (states_of (λ b. (goal.Machine-dyn g (b.vtable, b.value)).meaning b.value) c.args.cells.now) c.args.plan.now c.loop-round.plan c.loop-round.cells c.loop-round.invariant.over c.loop-round.invariant.played c.loop-round.deliveries c.loop-round.invariant.deliveries (c.loop-round.invariant.within c.loop-round-test.true) c.useful_workers-most.result c.args.workers c.useful_workers-most.ensures.most c.round_over.new.plan c.round_over.new.cells _ c.in_err-taken.ensures.left)

pub returns-in_err-taken-clause-honest : goal.returns-in_err-taken-clause-honest
returns-in_err-taken-clause-honest g c = λ h held. (nothing_on c.from_residual.result _ _ c.from_residual.ensures.1, err_on c.from_residual.result _ IsOtherFault c.from_residual.ensures.1 (c.in_err-taken.ensures.honest (c.loop-round.invariant.honest h held)).1)

pub returns-in_default-clause-size : goal.returns-in_default-clause-size
returns-in_default-clause-size g c = c.round_over.ensures.size ∙ c.loop-round.invariant.size

pub returns-in_default-clause-joined : goal.returns-in_default-clause-joined
returns-in_default-clause-joined g c = joined_back (λ b. (goal.Machine-dyn g (b.vtable, b.value)).meaning b.value) c.args.plan.now c.loop-round.plan c.round_over.new.cells c.loop-round.invariant.over.nodes c.round_over.ensures.joined

pub returns-in_default-clause-over : goal.returns-in_default-clause-over
returns-in_default-clause-over g c = over_then (λ b. (goal.Machine-dyn g (b.vtable, b.value)).meaning b.value) c.args.plan.now c.loop-round.plan c.round_over.new.plan c.loop-round.cells c.round_over.new.cells c.loop-round.invariant.over c.in_ok-taken.ensures.over

pub returns-in_default-clause-cause : goal.returns-in_default-clause-cause
returns-in_default-clause-cause g c = c.in_ok-taken.ensures.cause ∙ c.loop-round.invariant.faults

pub returns-in_default-clause-dialer : goal.returns-in_default-clause-dialer
returns-in_default-clause-dialer g c = λ d. c.round_over.ensures.dialer (c.loop-round.invariant.dialer d)

pub returns-in_default-clause-honest : goal.returns-in_default-clause-honest
returns-in_default-clause-honest g c = λ h held. let on = (c.in_ok-taken.ensures.honest (c.loop-round.invariant.honest h held)).0 in ((on.0, on.1 (c.loop-round.invariant.held h held)), tt)

pub returns-in_default-clause-played : goal.returns-in_default-clause-played
returns-in_default-clause-played g c = broken_to (λ b. (goal.Machine-dyn g (b.vtable, b.value)).meaning b.value) (home c.args.plan.now.nodes c.args.plan.now.agents) c.args.budget c.args.plan.now.kept.items (states_of (λ b. (goal.Machine-dyn g (b.vtable, b.value)).meaning b.value) c.args.cells.now) c.round_over.new.plan.kept.items c.round_over.new.cells (c.loop-round.round + 1) _ _ c.broken.ensures (broken_on (λ b. (goal.Machine-dyn g (b.vtable, b.value)).meaning b.value) c.args.budget c.loop-round.round c.args.plan.now.kept.items (states_of (λ b. (goal.Machine-dyn g (b.vtable, b.value)).meaning b.value) c.args.cells.now) c.args.plan.now c.loop-round.plan c.loop-round.cells c.loop-round.invariant.over c.loop-round.invariant.played c.loop-round.deliveries c.loop-round.invariant.deliveries (c.loop-round.invariant.within c.loop-round-test.true) c.round_over.new.plan c.round_over.new.cells c.requires.budget c.loop-round.invariant.joined.few (subst (λ o. IsRoundOver (λ b. (goal.Machine-dyn g (b.vtable, b.value)).meaning b.value) c.loop-round.plan c.loop-round.cells c.round_over.new.plan c.round_over.new.cells o) c.in_default.is c.in_ok-taken.ensures.round))

pub returns-then-all_ended-2-clause-size : goal.returns-then-all_ended-2-clause-size
returns-then-all_ended-2-clause-size g c = c.round_over.ensures.size ∙ c.loop-round.invariant.size

pub returns-then-all_ended-2-clause-joined : goal.returns-then-all_ended-2-clause-joined
returns-then-all_ended-2-clause-joined g c = joined_back (λ b. (goal.Machine-dyn g (b.vtable, b.value)).meaning b.value) c.args.plan.now c.loop-round.plan c.round_over.new.cells c.loop-round.invariant.over.nodes c.round_over.ensures.joined

pub returns-then-all_ended-2-clause-over : goal.returns-then-all_ended-2-clause-over
returns-then-all_ended-2-clause-over g c = over_then (λ b. (goal.Machine-dyn g (b.vtable, b.value)).meaning b.value) c.args.plan.now c.loop-round.plan c.round_over.new.plan c.loop-round.cells c.round_over.new.cells c.loop-round.invariant.over c.in_ok-taken.ensures.over

pub returns-then-all_ended-2-clause-cause : goal.returns-then-all_ended-2-clause-cause
returns-then-all_ended-2-clause-cause g c = c.in_ok-taken.ensures.cause ∙ c.loop-round.invariant.faults

pub returns-then-all_ended-2-clause-dialer : goal.returns-then-all_ended-2-clause-dialer
returns-then-all_ended-2-clause-dialer g c = λ d. c.round_over.ensures.dialer (c.loop-round.invariant.dialer d)

pub returns-then-all_ended-2-clause-honest : goal.returns-then-all_ended-2-clause-honest
returns-then-all_ended-2-clause-honest g c = λ h held. let on = (c.in_ok-taken.ensures.honest (c.loop-round.invariant.honest h held)).0 in ((on.0, on.1 (c.loop-round.invariant.held h held)), tt)

pub returns-then-all_ended-2-clause-played : goal.returns-then-all_ended-2-clause-played
returns-then-all_ended-2-clause-played g c = let was = c.loop-round.invariant.deliveries in let made = (subst (λ o. IsRoundOver (λ b. (goal.Machine-dyn g (b.vtable, b.value)).meaning b.value) c.loop-round.plan c.loop-round.cells c.round_over.new.plan c.round_over.new.cells o) c.in-Some.is c.in_ok-taken.ensures.round) in let more = made.counted in
    ended_to (λ b. (goal.Machine-dyn g (b.vtable, b.value)).meaning b.value) (home c.args.plan.now.nodes c.args.plan.now.agents) c.args.budget c.args.plan.now.kept.items (states_of (λ b. (goal.Machine-dyn g (b.vtable, b.value)).meaning b.value) c.args.cells.now) c.round_over.new.plan.kept.items c.round_over.new.cells (c.loop-round.round + 1) _ _ _ c.ended-then-all_ended-2.ensures (record { played = (due_on (λ b. (goal.Machine-dyn g (b.vtable, b.value)).meaning b.value) c.args.budget c.loop-round.round c.args.plan.now.kept.items (states_of (λ b. (goal.Machine-dyn g (b.vtable, b.value)).meaning b.value) c.args.cells.now) c.args.plan.now c.loop-round.plan c.loop-round.cells c.loop-round.invariant.over c.loop-round.invariant.played c.loop-round.deliveries c.loop-round.invariant.deliveries (c.loop-round.invariant.within c.loop-round-test.true) c.round_over.new.plan c.round_over.new.cells c.in-Some.taken (subst (λ o. IsRoundOver (λ b. (goal.Machine-dyn g (b.vtable, b.value)).meaning b.value) c.loop-round.plan c.loop-round.cells c.round_over.new.plan c.round_over.new.cells o) c.in-Some.is c.in_ok-taken.ensures.round) c.loop-round.invariant.awake); stopped = (omega (arith, was, more), ended_states (λ b. (goal.Machine-dyn g (b.vtable, b.value)).meaning b.value) c.round_over.new.cells ∙ sym c.if-all_ended-2.ensures); idle = tt })

pub returns-then-deliveries-budget-clause-size : goal.returns-then-deliveries-budget-clause-size
returns-then-deliveries-budget-clause-size g c = c.round_over.ensures.size ∙ c.loop-round.invariant.size

pub returns-then-deliveries-budget-clause-joined : goal.returns-then-deliveries-budget-clause-joined
returns-then-deliveries-budget-clause-joined g c = joined_back (λ b. (goal.Machine-dyn g (b.vtable, b.value)).meaning b.value) c.args.plan.now c.loop-round.plan c.round_over.new.cells c.loop-round.invariant.over.nodes c.round_over.ensures.joined

pub returns-then-deliveries-budget-clause-over : goal.returns-then-deliveries-budget-clause-over
returns-then-deliveries-budget-clause-over g c = over_then (λ b. (goal.Machine-dyn g (b.vtable, b.value)).meaning b.value) c.args.plan.now c.loop-round.plan c.round_over.new.plan c.loop-round.cells c.round_over.new.cells c.loop-round.invariant.over c.in_ok-taken.ensures.over

pub returns-then-deliveries-budget-clause-cause : goal.returns-then-deliveries-budget-clause-cause
returns-then-deliveries-budget-clause-cause g c = c.in_ok-taken.ensures.cause ∙ c.loop-round.invariant.faults

pub returns-then-deliveries-budget-clause-dialer : goal.returns-then-deliveries-budget-clause-dialer
returns-then-deliveries-budget-clause-dialer g c = λ d. c.round_over.ensures.dialer (c.loop-round.invariant.dialer d)

pub returns-then-deliveries-budget-clause-honest : goal.returns-then-deliveries-budget-clause-honest
returns-then-deliveries-budget-clause-honest g c = λ h held. let on = (c.in_ok-taken.ensures.honest (c.loop-round.invariant.honest h held)).0 in ((on.0, on.1 (c.loop-round.invariant.held h held)), tt)

pub returns-then-deliveries-budget-clause-played : goal.returns-then-deliveries-budget-clause-played
returns-then-deliveries-budget-clause-played g c = let was = c.loop-round.invariant.deliveries in let made = (subst (λ o. IsRoundOver (λ b. (goal.Machine-dyn g (b.vtable, b.value)).meaning b.value) c.loop-round.plan c.loop-round.cells c.round_over.new.plan c.round_over.new.cells o) c.in-Some.is c.in_ok-taken.ensures.round) in let more = made.counted in
    ended_to (λ b. (goal.Machine-dyn g (b.vtable, b.value)).meaning b.value) (home c.args.plan.now.nodes c.args.plan.now.agents) c.args.budget c.args.plan.now.kept.items (states_of (λ b. (goal.Machine-dyn g (b.vtable, b.value)).meaning b.value) c.args.cells.now) c.round_over.new.plan.kept.items c.round_over.new.cells (c.loop-round.round + 1) _ _ _ c.ended-then-deliveries-budget.ensures (record { played = (due_on (λ b. (goal.Machine-dyn g (b.vtable, b.value)).meaning b.value) c.args.budget c.loop-round.round c.args.plan.now.kept.items (states_of (λ b. (goal.Machine-dyn g (b.vtable, b.value)).meaning b.value) c.args.cells.now) c.args.plan.now c.loop-round.plan c.loop-round.cells c.loop-round.invariant.over c.loop-round.invariant.played c.loop-round.deliveries c.loop-round.invariant.deliveries (c.loop-round.invariant.within c.loop-round-test.true) c.round_over.new.plan c.round_over.new.cells c.in-Some.taken (subst (λ o. IsRoundOver (λ b. (goal.Machine-dyn g (b.vtable, b.value)).meaning b.value) c.loop-round.plan c.loop-round.cells c.round_over.new.plan c.round_over.new.cells o) c.in-Some.is c.in_ok-taken.ensures.round) c.loop-round.invariant.awake); stopped = (omega (arith, was, more), ended_states (λ b. (goal.Machine-dyn g (b.vtable, b.value)).meaning b.value) c.round_over.new.cells ∙ sym c.if-all_ended-2.ensures, (let spent = c.if-deliveries-budget.true in omega (arith, was, more, spent))); idle = tt })

pub returns-then-taken-eq0-clause-size : goal.returns-then-taken-eq0-clause-size
returns-then-taken-eq0-clause-size g c = c.round_over.ensures.size ∙ c.loop-round.invariant.size

pub returns-then-taken-eq0-clause-joined : goal.returns-then-taken-eq0-clause-joined
returns-then-taken-eq0-clause-joined g c = joined_back (λ b. (goal.Machine-dyn g (b.vtable, b.value)).meaning b.value) c.args.plan.now c.loop-round.plan c.round_over.new.cells c.loop-round.invariant.over.nodes c.round_over.ensures.joined

pub returns-then-taken-eq0-clause-over : goal.returns-then-taken-eq0-clause-over
returns-then-taken-eq0-clause-over g c = over_then (λ b. (goal.Machine-dyn g (b.vtable, b.value)).meaning b.value) c.args.plan.now c.loop-round.plan c.round_over.new.plan c.loop-round.cells c.round_over.new.cells c.loop-round.invariant.over c.in_ok-taken.ensures.over

pub returns-then-taken-eq0-clause-cause : goal.returns-then-taken-eq0-clause-cause
returns-then-taken-eq0-clause-cause g c = c.in_ok-taken.ensures.cause ∙ c.loop-round.invariant.faults

pub returns-then-taken-eq0-clause-dialer : goal.returns-then-taken-eq0-clause-dialer
returns-then-taken-eq0-clause-dialer g c = λ d. c.round_over.ensures.dialer (c.loop-round.invariant.dialer d)

pub returns-then-taken-eq0-clause-honest : goal.returns-then-taken-eq0-clause-honest
returns-then-taken-eq0-clause-honest g c = λ h held. let on = (c.in_ok-taken.ensures.honest (c.loop-round.invariant.honest h held)).0 in ((on.0, on.1 (c.loop-round.invariant.held h held)), tt)

pub returns-then-taken-eq0-clause-played : goal.returns-then-taken-eq0-clause-played
returns-then-taken-eq0-clause-played g c = let was = c.loop-round.invariant.deliveries in let made = (subst (λ o. IsRoundOver (λ b. (goal.Machine-dyn g (b.vtable, b.value)).meaning b.value) c.loop-round.plan c.loop-round.cells c.round_over.new.plan c.round_over.new.cells o) c.in-Some.is c.in_ok-taken.ensures.round) in let more = made.counted in
    ended_to (λ b. (goal.Machine-dyn g (b.vtable, b.value)).meaning b.value) (home c.args.plan.now.nodes c.args.plan.now.agents) c.args.budget c.args.plan.now.kept.items (states_of (λ b. (goal.Machine-dyn g (b.vtable, b.value)).meaning b.value) c.args.cells.now) c.round_over.new.plan.kept.items c.round_over.new.cells (c.loop-round.round + 1) _ _ _ c.ended-then-taken-eq0.ensures (record { played = (due_on (λ b. (goal.Machine-dyn g (b.vtable, b.value)).meaning b.value) c.args.budget c.loop-round.round c.args.plan.now.kept.items (states_of (λ b. (goal.Machine-dyn g (b.vtable, b.value)).meaning b.value) c.args.cells.now) c.args.plan.now c.loop-round.plan c.loop-round.cells c.loop-round.invariant.over c.loop-round.invariant.played c.loop-round.deliveries c.loop-round.invariant.deliveries (c.loop-round.invariant.within c.loop-round-test.true) c.round_over.new.plan c.round_over.new.cells c.in-Some.taken (subst (λ o. IsRoundOver (λ b. (goal.Machine-dyn g (b.vtable, b.value)).meaning b.value) c.loop-round.plan c.loop-round.cells c.round_over.new.plan c.round_over.new.cells o) c.in-Some.is c.in_ok-taken.ensures.round) c.loop-round.invariant.awake); stopped = (omega (arith, was, more), ended_states (λ b. (goal.Machine-dyn g (b.vtable, b.value)).meaning b.value) c.round_over.new.cells ∙ sym c.if-all_ended-2.ensures, idle_on (λ b. (goal.Machine-dyn g (b.vtable, b.value)).meaning b.value) c.args.budget c.loop-round.round c.args.plan.now.kept.items (states_of (λ b. (goal.Machine-dyn g (b.vtable, b.value)).meaning b.value) c.args.cells.now) c.args.plan.now c.loop-round.plan c.loop-round.cells c.loop-round.invariant.over c.loop-round.invariant.played c.loop-round.deliveries c.loop-round.invariant.deliveries (c.loop-round.invariant.within c.loop-round-test.true) c.round_over.new.plan c.round_over.new.cells c.in-Some.taken (subst (λ o. IsRoundOver (λ b. (goal.Machine-dyn g (b.vtable, b.value)).meaning b.value) c.loop-round.plan c.loop-round.cells c.round_over.new.plan c.round_over.new.cells o) c.in-Some.is c.in_ok-taken.ensures.round) c.loop-round.invariant.awake c.if-taken-eq0.true); idle = rest_on (λ b. (goal.Machine-dyn g (b.vtable, b.value)).meaning b.value) c.args.budget c.loop-round.round c.args.plan.now.kept.items (states_of (λ b. (goal.Machine-dyn g (b.vtable, b.value)).meaning b.value) c.args.cells.now) c.args.plan.now c.loop-round.plan c.loop-round.cells c.loop-round.invariant.over c.loop-round.invariant.played c.loop-round.deliveries c.loop-round.invariant.deliveries (c.loop-round.invariant.within c.loop-round-test.true) c.round_over.new.plan c.round_over.new.cells c.in-Some.taken (subst (λ o. IsRoundOver (λ b. (goal.Machine-dyn g (b.vtable, b.value)).meaning b.value) c.loop-round.plan c.loop-round.cells c.round_over.new.plan c.round_over.new.cells o) c.in-Some.is c.in_ok-taken.ensures.round) c.loop-round.invariant.awake c.if-taken-eq0.true })

pub loop-round-preserved : goal.loop-round-preserved
loop-round-preserved g c = let i = c.loop-round.invariant in let was = i.deliveries in let made = (subst (λ o. IsRoundOver (λ b. (goal.Machine-dyn g (b.vtable, b.value)).meaning b.value) c.loop-round.plan c.loop-round.cells c.round_over.new.plan c.round_over.new.cells o) c.in-Some.is c.in_ok-taken.ensures.round) in let more = made.counted in let some = c.if-taken-eq0.false in let less = c.if-deliveries-budget.false in let grown = i.progress in let test = c.loop-round-test.true in record {
  shared = shared_more (λ b. (goal.Machine-dyn g (b.vtable, b.value)).meaning b.value) c.args.workers c.args.plan.now.nodes c.args.cells.now c.loop-round.cells c.round_over.new.cells i.shared i.awake (shared_at (λ b. (goal.Machine-dyn g (b.vtable, b.value)).meaning b.value) c.args.workers c.useful_workers-most.result c.args.plan.now.nodes c.loop-round.plan.nodes c.loop-round.cells c.round_over.new.cells _ c.in-Some.taken c.useful_workers-most.ensures.most c.loop-round.invariant.over.nodes c.in-Some.is c.in_ok-taken.ensures.parts) (omega (arith, more, some));
  size = c.round_over.ensures.size ∙ c.loop-round.invariant.size;
  same = same_then (λ b. (goal.Machine-dyn g (b.vtable, b.value)).meaning b.value) c.args.cells.now c.loop-round.cells c.round_over.new.cells c.loop-round.invariant.same c.round_over.ensures.same;
  keeps = keeps_then c.args.plan.now c.loop-round.plan c.round_over.new.plan c.loop-round.invariant.keeps c.round_over.ensures.keeps;
  wires = turned_then g.D.W.Wire.told g.D.W.Wire.is_joined 0 c.args.plan.now.wires.items c.loop-round.plan.wires.items c.round_over.new.plan.wires.items c.loop-round.invariant.wires c.in_ok-taken.ensures.wires;
  letters = plan_then g.D.W.Wire.told g.D.W.Wire.is_joined c.args.plan.now c.loop-round.plan c.round_over.new.plan c.loop-round.invariant.keeps (links_rounds _ _ _ _ c.loop-round.invariant.played.rounds _ _ c.loop-round.invariant.played.are) c.loop-round.invariant.letters c.in_ok-taken.ensures.letters;
  joined = joined_back (λ b. (goal.Machine-dyn g (b.vtable, b.value)).meaning b.value) c.args.plan.now c.loop-round.plan c.round_over.new.cells c.loop-round.invariant.over.nodes c.round_over.ensures.joined;
  begun = c.round_over.ensures.begun;
  fine = made.fine;
  over = over_then (λ b. (goal.Machine-dyn g (b.vtable, b.value)).meaning b.value) c.args.plan.now c.loop-round.plan c.round_over.new.plan c.loop-round.cells c.round_over.new.cells c.loop-round.invariant.over c.in_ok-taken.ensures.over;
  played = busy_on (λ b. (goal.Machine-dyn g (b.vtable, b.value)).meaning b.value) c.args.budget c.loop-round.round c.args.plan.now.kept.items (states_of (λ b. (goal.Machine-dyn g (b.vtable, b.value)).meaning b.value) c.args.cells.now) c.args.plan.now c.loop-round.plan c.loop-round.cells c.loop-round.invariant.over c.loop-round.invariant.played c.loop-round.deliveries c.loop-round.invariant.deliveries (c.loop-round.invariant.within c.loop-round-test.true) c.round_over.new.plan c.round_over.new.cells c.in-Some.taken made i.awake (omega (arith, some));
  deliveries = omega (arith, was, more);
  progress = omega (arith, grown, some);
  most = omega (arith, test);
  within = λ _. omega (arith, less);
  awake = ended_states (λ b. (goal.Machine-dyn g (b.vtable, b.value)).meaning b.value) c.round_over.new.cells ∙ sym c.if-all_ended-2.ensures;
  faults = c.in_ok-taken.ensures.cause ∙ c.loop-round.invariant.faults;
  dialer = λ d. c.round_over.ensures.dialer (c.loop-round.invariant.dialer d);
  honest = λ h held. (c.in_ok-taken.ensures.honest (i.honest h held)).0.0;
  held = λ h held. (c.in_ok-taken.ensures.honest (i.honest h held)).0.1 (i.held h held);
  carried = λ all held. (c.in_ok-taken.ensures.carried all).0 (i.carried (turned_back g.D.W.Wire.told g.D.W.Wire.is_joined c.loop-round.plan.wires.items c.round_over.new.plan.wires.items c.in_ok-taken.ensures.wires all) held);
}

pub returns-clause-size : goal.returns-clause-size
returns-clause-size g c = c.loop-round.invariant.size

pub returns-clause-joined : goal.returns-clause-joined
returns-clause-joined g c = c.loop-round.invariant.joined

pub returns-clause-over : goal.returns-clause-over
returns-clause-over g c = c.loop-round.invariant.over

pub returns-clause-cause : goal.returns-clause-cause
returns-clause-cause g c = c.loop-round.invariant.faults

pub returns-clause-dialer : goal.returns-clause-dialer
returns-clause-dialer g c = c.loop-round.invariant.dialer

pub returns-clause-honest : goal.returns-clause-honest
returns-clause-honest g c = λ h held. ((c.loop-round.invariant.honest h held, c.loop-round.invariant.held h held), tt)

pub returns-clause-played : goal.returns-clause-played
returns-clause-played g c = let i = c.loop-round.invariant in let was = i.deliveries in let grown = i.progress in let most = i.most in let test = c.loop-round-test.false in
    ended_to (λ b. (goal.Machine-dyn g (b.vtable, b.value)).meaning b.value) (home c.args.plan.now.nodes c.args.plan.now.agents) c.args.budget c.args.plan.now.kept.items (states_of (λ b. (goal.Machine-dyn g (b.vtable, b.value)).meaning b.value) c.args.cells.now) c.loop-round.plan.kept.items c.loop-round.cells c.loop-round.round _ _ _ (let is = c.ended-2.ensures in (omega (arith, is.0, most, test), is.1)) (record {
      played = all_over (home c.args.plan.now.nodes c.args.plan.now.agents) c.args.budget c.loop-round.round c.args.plan.now.kept.items (states_of (λ b. (goal.Machine-dyn g (b.vtable, b.value)).meaning b.value) c.args.cells.now) c.loop-round.plan.kept.items (states_of (λ b. (goal.Machine-dyn g (b.vtable, b.value)).meaning b.value) c.loop-round.cells) i.played;
      stopped = (was, i.awake, omega (arith, was, grown, test));
      idle = tt;
    })

pub returns-then-all_ended-clause-parts : goal.returns-then-all_ended-clause-parts
returns-then-all_ended-clause-parts g c = if_ended (ArePlayedSharedOver (λ b. (goal.Machine-dyn g (b.vtable, b.value)).meaning b.value) c.args.workers c.args.plan.now.nodes c.args.cells.now c.args.cells.now) _ _ c.ended.ensures.1 (shared_all (λ b. (goal.Machine-dyn g (b.vtable, b.value)).meaning b.value) c.args.workers c.args.plan.now.nodes c.args.cells.now c.args.cells.now (shared_start (λ b. (goal.Machine-dyn g (b.vtable, b.value)).meaning b.value) c.args.workers c.args.plan.now.nodes c.args.cells.now))

pub returns-in_default-clause-parts : goal.returns-in_default-clause-parts
returns-in_default-clause-parts g c = if_broken (ArePlayedSharedOver (λ b. (goal.Machine-dyn g (b.vtable, b.value)).meaning b.value) c.args.workers c.args.plan.now.nodes c.args.cells.now c.round_over.new.cells) _ c.broken.ensures.1

pub returns-then-all_ended-2-clause-parts : goal.returns-then-all_ended-2-clause-parts
returns-then-all_ended-2-clause-parts g c = let i = c.loop-round.invariant in
    if_ended (ArePlayedSharedOver (λ b. (goal.Machine-dyn g (b.vtable, b.value)).meaning b.value) c.args.workers c.args.plan.now.nodes c.args.cells.now c.round_over.new.cells) _ _ c.ended-then-all_ended-2.ensures.1 (shared_last (λ b. (goal.Machine-dyn g (b.vtable, b.value)).meaning b.value) c.args.workers c.args.plan.now.nodes c.args.cells.now c.loop-round.cells c.round_over.new.cells i.shared i.awake (shared_at (λ b. (goal.Machine-dyn g (b.vtable, b.value)).meaning b.value) c.args.workers c.useful_workers-most.result c.args.plan.now.nodes c.loop-round.plan.nodes c.loop-round.cells c.round_over.new.cells _ c.in-Some.taken c.useful_workers-most.ensures.most c.loop-round.invariant.over.nodes c.in-Some.is c.in_ok-taken.ensures.parts))

pub returns-then-deliveries-budget-clause-parts : goal.returns-then-deliveries-budget-clause-parts
returns-then-deliveries-budget-clause-parts g c = let i = c.loop-round.invariant in
    if_ended (ArePlayedSharedOver (λ b. (goal.Machine-dyn g (b.vtable, b.value)).meaning b.value) c.args.workers c.args.plan.now.nodes c.args.cells.now c.round_over.new.cells) _ _ c.ended-then-deliveries-budget.ensures.1 (shared_last (λ b. (goal.Machine-dyn g (b.vtable, b.value)).meaning b.value) c.args.workers c.args.plan.now.nodes c.args.cells.now c.loop-round.cells c.round_over.new.cells i.shared i.awake (shared_at (λ b. (goal.Machine-dyn g (b.vtable, b.value)).meaning b.value) c.args.workers c.useful_workers-most.result c.args.plan.now.nodes c.loop-round.plan.nodes c.loop-round.cells c.round_over.new.cells _ c.in-Some.taken c.useful_workers-most.ensures.most c.loop-round.invariant.over.nodes c.in-Some.is c.in_ok-taken.ensures.parts))

pub returns-then-taken-eq0-clause-parts : goal.returns-then-taken-eq0-clause-parts
returns-then-taken-eq0-clause-parts g c = let i = c.loop-round.invariant in
    if_ended (ArePlayedSharedOver (λ b. (goal.Machine-dyn g (b.vtable, b.value)).meaning b.value) c.args.workers c.args.plan.now.nodes c.args.cells.now c.round_over.new.cells) _ _ c.ended-then-taken-eq0.ensures.1 (shared_last (λ b. (goal.Machine-dyn g (b.vtable, b.value)).meaning b.value) c.args.workers c.args.plan.now.nodes c.args.cells.now c.loop-round.cells c.round_over.new.cells i.shared i.awake (shared_at (λ b. (goal.Machine-dyn g (b.vtable, b.value)).meaning b.value) c.args.workers c.useful_workers-most.result c.args.plan.now.nodes c.loop-round.plan.nodes c.loop-round.cells c.round_over.new.cells _ c.in-Some.taken c.useful_workers-most.ensures.most c.loop-round.invariant.over.nodes c.in-Some.is c.in_ok-taken.ensures.parts))

pub returns-clause-parts : goal.returns-clause-parts
returns-clause-parts g c = if_ended (ArePlayedSharedOver (λ b. (goal.Machine-dyn g (b.vtable, b.value)).meaning b.value) c.args.workers c.args.plan.now.nodes c.args.cells.now c.loop-round.cells) _ _ c.ended-2.ensures.1 (shared_all (λ b. (goal.Machine-dyn g (b.vtable, b.value)).meaning b.value) c.args.workers c.args.plan.now.nodes c.args.cells.now c.loop-round.cells c.loop-round.invariant.shared)

pub returns-then-all_ended-clause-same : goal.returns-then-all_ended-clause-same
returns-then-all_ended-clause-same g c = same_all (λ b. (goal.Machine-dyn g (b.vtable, b.value)).meaning b.value) c.args.cells.now

pub returns-then-all_ended-clause-keeps : goal.returns-then-all_ended-clause-keeps
returns-then-all_ended-clause-keeps g c = keeps_none c.args.plan.now

pub returns-in_err-taken-clause-same : goal.returns-in_err-taken-clause-same
returns-in_err-taken-clause-same g c = same_then (λ b. (goal.Machine-dyn g (b.vtable, b.value)).meaning b.value) c.args.cells.now c.loop-round.cells c.round_over.new.cells c.loop-round.invariant.same c.round_over.ensures.same

pub returns-in_err-taken-clause-keeps : goal.returns-in_err-taken-clause-keeps
returns-in_err-taken-clause-keeps g c = keeps_then c.args.plan.now c.loop-round.plan c.round_over.new.plan c.loop-round.invariant.keeps c.round_over.ensures.keeps

pub returns-in_default-clause-same : goal.returns-in_default-clause-same
returns-in_default-clause-same g c = same_then (λ b. (goal.Machine-dyn g (b.vtable, b.value)).meaning b.value) c.args.cells.now c.loop-round.cells c.round_over.new.cells c.loop-round.invariant.same c.round_over.ensures.same

pub returns-in_default-clause-keeps : goal.returns-in_default-clause-keeps
returns-in_default-clause-keeps g c = keeps_then c.args.plan.now c.loop-round.plan c.round_over.new.plan c.loop-round.invariant.keeps c.round_over.ensures.keeps

pub returns-then-all_ended-2-clause-same : goal.returns-then-all_ended-2-clause-same
returns-then-all_ended-2-clause-same g c = same_then (λ b. (goal.Machine-dyn g (b.vtable, b.value)).meaning b.value) c.args.cells.now c.loop-round.cells c.round_over.new.cells c.loop-round.invariant.same c.round_over.ensures.same

pub returns-then-all_ended-2-clause-keeps : goal.returns-then-all_ended-2-clause-keeps
returns-then-all_ended-2-clause-keeps g c = keeps_then c.args.plan.now c.loop-round.plan c.round_over.new.plan c.loop-round.invariant.keeps c.round_over.ensures.keeps

pub returns-then-deliveries-budget-clause-same : goal.returns-then-deliveries-budget-clause-same
returns-then-deliveries-budget-clause-same g c = same_then (λ b. (goal.Machine-dyn g (b.vtable, b.value)).meaning b.value) c.args.cells.now c.loop-round.cells c.round_over.new.cells c.loop-round.invariant.same c.round_over.ensures.same

pub returns-then-deliveries-budget-clause-keeps : goal.returns-then-deliveries-budget-clause-keeps
returns-then-deliveries-budget-clause-keeps g c = keeps_then c.args.plan.now c.loop-round.plan c.round_over.new.plan c.loop-round.invariant.keeps c.round_over.ensures.keeps

pub returns-then-taken-eq0-clause-same : goal.returns-then-taken-eq0-clause-same
returns-then-taken-eq0-clause-same g c = same_then (λ b. (goal.Machine-dyn g (b.vtable, b.value)).meaning b.value) c.args.cells.now c.loop-round.cells c.round_over.new.cells c.loop-round.invariant.same c.round_over.ensures.same

pub returns-then-taken-eq0-clause-keeps : goal.returns-then-taken-eq0-clause-keeps
returns-then-taken-eq0-clause-keeps g c = keeps_then c.args.plan.now c.loop-round.plan c.round_over.new.plan c.loop-round.invariant.keeps c.round_over.ensures.keeps

pub returns-clause-same : goal.returns-clause-same
returns-clause-same g c = c.loop-round.invariant.same

pub returns-clause-keeps : goal.returns-clause-keeps
returns-clause-keeps g c = c.loop-round.invariant.keeps

pub returns-then-all_ended-clause-wires : goal.returns-then-all_ended-clause-wires
returns-then-all_ended-clause-wires g c = turned_none g.D.W.Wire.told g.D.W.Wire.is_joined 0 c.args.plan.now.wires.items

pub returns-in_err-taken-clause-wires : goal.returns-in_err-taken-clause-wires
returns-in_err-taken-clause-wires g c = turned_on g.D.W.Wire.told g.D.W.Wire.is_joined c.args.plan.now.wires.items c.round_over.new.plan.wires.items (Option ℕ) c.from_residual.result _ c.from_residual.ensures.1 (turned_then g.D.W.Wire.told g.D.W.Wire.is_joined _ c.args.plan.now.wires.items c.loop-round.plan.wires.items c.round_over.new.plan.wires.items c.loop-round.invariant.wires c.in_err-taken.ensures.wires)

pub returns-in_default-clause-wires : goal.returns-in_default-clause-wires
returns-in_default-clause-wires g c = turned_then g.D.W.Wire.told g.D.W.Wire.is_joined 0 c.args.plan.now.wires.items c.loop-round.plan.wires.items c.round_over.new.plan.wires.items c.loop-round.invariant.wires c.in_ok-taken.ensures.wires

pub returns-then-all_ended-2-clause-wires : goal.returns-then-all_ended-2-clause-wires
returns-then-all_ended-2-clause-wires g c = turned_then g.D.W.Wire.told g.D.W.Wire.is_joined 0 c.args.plan.now.wires.items c.loop-round.plan.wires.items c.round_over.new.plan.wires.items c.loop-round.invariant.wires c.in_ok-taken.ensures.wires

pub returns-then-deliveries-budget-clause-wires : goal.returns-then-deliveries-budget-clause-wires
returns-then-deliveries-budget-clause-wires g c = turned_then g.D.W.Wire.told g.D.W.Wire.is_joined 0 c.args.plan.now.wires.items c.loop-round.plan.wires.items c.round_over.new.plan.wires.items c.loop-round.invariant.wires c.in_ok-taken.ensures.wires

pub returns-then-taken-eq0-clause-wires : goal.returns-then-taken-eq0-clause-wires
returns-then-taken-eq0-clause-wires g c = turned_then g.D.W.Wire.told g.D.W.Wire.is_joined 0 c.args.plan.now.wires.items c.loop-round.plan.wires.items c.round_over.new.plan.wires.items c.loop-round.invariant.wires c.in_ok-taken.ensures.wires

pub returns-clause-wires : goal.returns-clause-wires
returns-clause-wires g c = c.loop-round.invariant.wires

pub returns-in_err-taken-clause-noted : goal.returns-in_err-taken-clause-noted
returns-in_err-taken-clause-noted g c = err_on c.from_residual.result _ (λ e. AreNotedAfter e c.round_over.new.plan.kept.items c.round_over.new.plan.ends.items) c.from_residual.ensures.1 c.in_err-taken.ensures.noted

pub returns-then-all_ended-clause-carried : goal.returns-then-all_ended-clause-carried
returns-then-all_ended-clause-carried g c = λ all held. (held, tt)

pub returns-in_err-taken-clause-carried : goal.returns-in_err-taken-clause-carried
returns-in_err-taken-clause-carried g c = λ all held. (nothing_on c.from_residual.result _ _ c.from_residual.ensures.1, err_on c.from_residual.result _ IsOtherFault c.from_residual.ensures.1 (c.in_err-taken.ensures.carried all).1)

pub returns-in_default-clause-carried : goal.returns-in_default-clause-carried
returns-in_default-clause-carried g c = λ all held. ((c.in_ok-taken.ensures.carried all).0 (c.loop-round.invariant.carried (turned_back g.D.W.Wire.told g.D.W.Wire.is_joined c.loop-round.plan.wires.items c.round_over.new.plan.wires.items c.in_ok-taken.ensures.wires all) held), tt)

pub returns-then-all_ended-2-clause-carried : goal.returns-then-all_ended-2-clause-carried
returns-then-all_ended-2-clause-carried g c = λ all held. ((c.in_ok-taken.ensures.carried all).0 (c.loop-round.invariant.carried (turned_back g.D.W.Wire.told g.D.W.Wire.is_joined c.loop-round.plan.wires.items c.round_over.new.plan.wires.items c.in_ok-taken.ensures.wires all) held), tt)

pub returns-then-deliveries-budget-clause-carried : goal.returns-then-deliveries-budget-clause-carried
returns-then-deliveries-budget-clause-carried g c = λ all held. ((c.in_ok-taken.ensures.carried all).0 (c.loop-round.invariant.carried (turned_back g.D.W.Wire.told g.D.W.Wire.is_joined c.loop-round.plan.wires.items c.round_over.new.plan.wires.items c.in_ok-taken.ensures.wires all) held), tt)

pub returns-then-taken-eq0-clause-carried : goal.returns-then-taken-eq0-clause-carried
returns-then-taken-eq0-clause-carried g c = λ all held. ((c.in_ok-taken.ensures.carried all).0 (c.loop-round.invariant.carried (turned_back g.D.W.Wire.told g.D.W.Wire.is_joined c.loop-round.plan.wires.items c.round_over.new.plan.wires.items c.in_ok-taken.ensures.wires all) held), tt)

pub returns-clause-carried : goal.returns-clause-carried
returns-clause-carried g c = λ all held. (c.loop-round.invariant.carried all held, tt)

pub returns-then-all_ended-clause-letters : goal.returns-then-all_ended-clause-letters
returns-then-all_ended-clause-letters g c = plan_none g.D.W.Wire.told g.D.W.Wire.is_joined c.args.plan.now

pub returns-in_err-taken-clause-letters : goal.returns-in_err-taken-clause-letters
returns-in_err-taken-clause-letters g c = taken_on g.D.W.Wire.told g.D.W.Wire.is_joined (Option ℕ) c.from_residual.result _ c.args.plan.now c.round_over.new.plan c.from_residual.ensures.1
    (plan_part_then g.D.W.Wire.told g.D.W.Wire.is_joined _ c.args.plan.now c.loop-round.plan c.round_over.new.plan c.loop-round.invariant.keeps (links_rounds _ _ _ _ c.loop-round.invariant.played.rounds _ _ c.loop-round.invariant.played.are) c.loop-round.invariant.letters c.in_err-taken.ensures.letters)

pub returns-in_default-clause-letters : goal.returns-in_default-clause-letters
returns-in_default-clause-letters g c = plan_then g.D.W.Wire.told g.D.W.Wire.is_joined c.args.plan.now c.loop-round.plan c.round_over.new.plan c.loop-round.invariant.keeps (links_rounds _ _ _ _ c.loop-round.invariant.played.rounds _ _ c.loop-round.invariant.played.are) c.loop-round.invariant.letters c.in_ok-taken.ensures.letters

pub returns-then-all_ended-2-clause-letters : goal.returns-then-all_ended-2-clause-letters
returns-then-all_ended-2-clause-letters g c = plan_then g.D.W.Wire.told g.D.W.Wire.is_joined c.args.plan.now c.loop-round.plan c.round_over.new.plan c.loop-round.invariant.keeps (links_rounds _ _ _ _ c.loop-round.invariant.played.rounds _ _ c.loop-round.invariant.played.are) c.loop-round.invariant.letters c.in_ok-taken.ensures.letters

pub returns-then-deliveries-budget-clause-letters : goal.returns-then-deliveries-budget-clause-letters
returns-then-deliveries-budget-clause-letters g c = plan_then g.D.W.Wire.told g.D.W.Wire.is_joined c.args.plan.now c.loop-round.plan c.round_over.new.plan c.loop-round.invariant.keeps (links_rounds _ _ _ _ c.loop-round.invariant.played.rounds _ _ c.loop-round.invariant.played.are) c.loop-round.invariant.letters c.in_ok-taken.ensures.letters

pub returns-then-taken-eq0-clause-letters : goal.returns-then-taken-eq0-clause-letters
returns-then-taken-eq0-clause-letters g c = plan_then g.D.W.Wire.told g.D.W.Wire.is_joined c.args.plan.now c.loop-round.plan c.round_over.new.plan c.loop-round.invariant.keeps (links_rounds _ _ _ _ c.loop-round.invariant.played.rounds _ _ c.loop-round.invariant.played.are) c.loop-round.invariant.letters c.in_ok-taken.ensures.letters

pub returns-clause-letters : goal.returns-clause-letters
returns-clause-letters g c = c.loop-round.invariant.letters
