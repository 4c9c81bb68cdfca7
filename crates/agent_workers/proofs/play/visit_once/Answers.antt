use Rattle.std.proofs.Common.{◌≡◌, refl, sym, subst, ◌∙◌, inl, inr, arith}
use Rattle.agent_cells.specs.Marked.{LeavesUnmarked}
use Rattle.agent_cells.specs.State.{state_of, fault_in}
use Rattle.agent_workers.proofs.BreakLaws.{unchanged}
use Rattle.agent_workers.proofs.CellLaws.{idle_turn, ended_turn, ended_once, live_turn, live_once, not_true, not_both}
use Rattle.agent_workers.proofs.PlayLaws.{visited_ready}
use Rattle.agent_workers.proofs.SentLaws.{visit_marks, quiet_marks}
use Rattle.agent_workers.proofs.play.visit_once.Goals as goal
use Rattle.agent_workers.proofs.play.visit_once.Goals.{then-known, else-known}

pub returns-then-is_idle-clause-ok : goal.returns-then-is_idle-clause-ok
returns-then-is_idle-clause-ok g c = idle_turn (λ b. (goal.Machine-dyn g (b.vtable, b.value)).meaning b.value) c.args.cell.now (c.is_idle.ensures.fine c.if-is_idle.true) (c.is_idle.ensures.none c.if-is_idle.true)

pub returns-then-is_idle-clause-marks : goal.returns-then-is_idle-clause-marks
returns-then-is_idle-clause-marks g c = quiet_marks (λ b. (goal.Machine-dyn g (b.vtable, b.value)).meaning b.value) c.args.place c.args.watch.now.waits c.look-marked.new.self.waits c.args.cell.now c.args.cell.now c.look-marked.ensures.kept refl

pub returns-then-ended-clause-marks : goal.returns-then-ended-clause-marks
returns-then-ended-clause-marks g c = quiet_marks (λ b. (goal.Machine-dyn g (b.vtable, b.value)).meaning b.value) c.args.place c.args.watch.now.waits c.look-marked.new.self.waits c.args.cell.now c.args.cell.now c.look-marked.ensures.kept refl

pub returns-then-taken-gt0-clause-marks : goal.returns-then-taken-gt0-clause-marks
returns-then-taken-gt0-clause-marks g c =
    visit_marks (λ b. (goal.Machine-dyn g (b.vtable, b.value)).meaning b.value) c.args.place c.args.watch.now.waits c.keep_own.new.self.waits c.keep.new.self.waits c.keep_own.new.self.marks c.args.cell.now c.visit_marking.new.self c.visit_marking.ensures.links c.visit_marking.ensures.cell
    (λ k other un. c.look-marked.ensures.kept k other (c.keep_own.ensures.kept k un))
    (subst (λ marks. LeavesUnmarked marks (state_of (λ b. (goal.Machine-dyn g (b.vtable, b.value)).meaning b.value) c.args.cell.now).sent (state_of (λ b. (goal.Machine-dyn g (b.vtable, b.value)).meaning b.value) c.visit_marking.new.self).sent) (sym c.keep_own.ensures.marks) c.in_ok-taken.ensures.marked)
    c.keep.ensures.kept c.keep.ensures.sent

pub returns-then-taken-gt0-clause-known : goal.returns-then-taken-gt0-clause-known
returns-then-taken-gt0-clause-known g c = λ un. inr (c.keep_own.ensures.rests c.requires.inside (c.keep.ensures.kept c.args.place un))

pub returns-then-is_idle-clause-known : goal.returns-then-is_idle-clause-known
returns-then-is_idle-clause-known g c = λ un. inr (record { none = c.is_idle.ensures.none c.if-is_idle.true })

pub returns-then-ended-clause-known : goal.returns-then-ended-clause-known
returns-then-ended-clause-known g c = λ un. inl (sym c.ended.ensures ∙ c.if-ended.true)

pub returns-then-is_idle-clause-turn : goal.returns-then-is_idle-clause-turn
returns-then-is_idle-clause-turn g c =
    let idle = c.is_idle.ensures.known c.if-is_idle.true in
    elim c.if-known.branch [
      | then-known w ↦ inr (w.if-known.true, refl, record { none = c.is_idle.ensures.none c.if-is_idle.true }, c.look-marked.ensures.here c.requires.inside (not_true c.look-marked.result _ w.is_idle-is idle))
      | else-known w ↦ absurd (not_both _ (w.is_idle-is ∙ w.if-known.false) idle)
    ]

pub returns-then-ended-clause-turn : goal.returns-then-ended-clause-turn
returns-then-ended-clause-turn g c = inl (ended_once (λ b. (goal.Machine-dyn g (b.vtable, b.value)).meaning b.value) c.args.cell.now (sym c.ended.ensures ∙ c.if-ended.true))

pub returns-then-taken-gt0-clause-ready : goal.returns-then-taken-gt0-clause-ready
returns-then-taken-gt0-clause-ready g c = visited_ready (λ b. (goal.Machine-dyn g (b.vtable, b.value)).meaning b.value) c.args.cell.now c.visit_marking.new.self c.requires.ready c.visit_marking.ensures.me c.visit_marking.ensures.links c.visit_marking.ensures.cell c.visit_marking.ensures.begun

pub returns-else-taken-gt0-clause-marks : goal.returns-else-taken-gt0-clause-marks
returns-else-taken-gt0-clause-marks g c =
    let none = c.if-taken-gt0.false in
    quiet_marks (λ b. (goal.Machine-dyn g (b.vtable, b.value)).meaning b.value) c.args.place c.args.watch.now.waits c.keep_own.new.self.waits c.args.cell.now c.visit_marking.new.self
    (λ k other un. c.look-marked.ensures.kept k other (c.keep_own.ensures.kept k un)) (c.in_ok-taken.ensures.ok.idle (omega (arith, none))).sent

pub returns-then-ended-clause-ok : goal.returns-then-ended-clause-ok
returns-then-ended-clause-ok g c = ended_turn (λ b. (goal.Machine-dyn g (b.vtable, b.value)).meaning b.value) c.args.cell.now (sym c.ended.ensures ∙ c.if-ended.true)

pub returns-then-taken-gt0-clause-ok : goal.returns-then-taken-gt0-clause-ok
returns-then-taken-gt0-clause-ok g c = live_turn (λ b. (goal.Machine-dyn g (b.vtable, b.value)).meaning b.value) _ c.visit_marking.result c.args.cell.now c.visit_marking.new.self (sym c.ended.ensures ∙ c.if-ended.false) c.in_ok-taken.ensures.ok c.in_ok-taken.ensures.fine c.visit_marking.ensures.again

pub returns-else-taken-gt0-clause-ok : goal.returns-else-taken-gt0-clause-ok
returns-else-taken-gt0-clause-ok g c = live_turn (λ b. (goal.Machine-dyn g (b.vtable, b.value)).meaning b.value) _ c.visit_marking.result c.args.cell.now c.visit_marking.new.self (sym c.ended.ensures ∙ c.if-ended.false) c.in_ok-taken.ensures.ok c.in_ok-taken.ensures.fine c.visit_marking.ensures.again

pub returns-then-taken-gt0-clause-turn : goal.returns-then-taken-gt0-clause-turn
returns-then-taken-gt0-clause-turn g c = inl (live_once (λ b. (goal.Machine-dyn g (b.vtable, b.value)).meaning b.value) _ c.args.cell.now c.visit_marking.new.self (live_turn (λ b. (goal.Machine-dyn g (b.vtable, b.value)).meaning b.value) _ c.visit_marking.result c.args.cell.now c.visit_marking.new.self (sym c.ended.ensures ∙ c.if-ended.false) c.in_ok-taken.ensures.ok c.in_ok-taken.ensures.fine c.visit_marking.ensures.again) c.in_ok-taken.ensures.once)

pub returns-else-taken-gt0-clause-turn : goal.returns-else-taken-gt0-clause-turn
returns-else-taken-gt0-clause-turn g c = inl (live_once (λ b. (goal.Machine-dyn g (b.vtable, b.value)).meaning b.value) _ c.args.cell.now c.visit_marking.new.self (live_turn (λ b. (goal.Machine-dyn g (b.vtable, b.value)).meaning b.value) _ c.visit_marking.result c.args.cell.now c.visit_marking.new.self (sym c.ended.ensures ∙ c.if-ended.false) c.in_ok-taken.ensures.ok c.in_ok-taken.ensures.fine c.visit_marking.ensures.again) c.in_ok-taken.ensures.once)

pub returns-in_err-taken-clause-again : goal.returns-in_err-taken-clause-again
returns-in_err-taken-clause-again g c = unchanged c.from_residual.result c.visit_marking.result (fault_in c.args.cell.now) (c.visit_marking.new.self ≡ c.args.cell.now) c.visit_marking.ensures.again
