use Rattle.std.proofs.Common.{◌≡◌, false, refl, sym, subst, inl}
use Rattle.std.specs.Prelude.{IfOk, OnOk, IfErr}
use Rattle.worker_laws.specs.CellRuns.{MakesARun}
use Rattle.agent_cells.specs.State.{begun_in, IsCell}
use Rattle.agent_cells.proofs.CellLaws.{written}
use Rattle.agent_workers.specs.Joined.{states_of, EachIs, EachBecomes, IsSameCell, AreCellsJoined}
use Rattle.agent_workers.specs.Run.{views_of, AreDulyPlayed, RestsAtStill}
use Rattle.agent_workers.proofs.ListLaws.{carry}
use Rattle.agent_workers.proofs.RunLaws.{same_all}
use Rattle.tcp_links.specs.Linked.{AreLinkedOver}
use Rattle.tcp_links.specs.Ends.{HasHeldOver, IsLeftBy}
use Rattle.tcp_links.specs.Shared.{HaveRunSharedOver}
use Rattle.tcp_links.proofs.PlanLaws.{same_plan}
use Rattle.tcp_links.proofs.WeaveLaws.{on_ok}
use Rattle.tcp_links.proofs.RunLaws.{on_err, new_as, linked_as, held_as, left_as}
use Rattle.node_exchange.specs.Honest.{AreHonest}
use Rattle.tcp_links.proofs.OverLaws.{err_on}
use Rattle.tcp_links.proofs.LeftLaws.{keeps_same, keeps_then}
use Rattle.node_exchange.proofs.TurnLaws.{turned_none}
use Rattle.node_exchange.specs.Turned.{AreTurned}
use Rattle.tcp_links.specs.Carried.{HaveCarriedSent}
use Rattle.tcp_links.proofs.CarriedLaws.{exchange_none}
use Rattle.tcp_links.proofs.SentLaws.{sent_on, sent_same}
use Rattle.tcp_links.specs.Left.{pairs_lost_by, AreNotedAfter}
use Rattle.tcp_links.proofs.NotedLaws.{fed_but_one, fed_as, on_fault, fault_then}
use Rattle.tcp_links.proofs.RunLaws.{linked_fed}
use Rattle.tcp_links.proofs.run.run_nodes.Goals as goal

pub run_over-requires-clause-plan : goal.run_over-requires-clause-plan
run_over-requires-clause-plan g c κs within = same_plan c.args.plan.now c.prepare.new.plan c.requires.plan c.prepare.ensures.same.kept c.prepare.ensures.same.ends c.prepare.ensures.same.agents c.prepare.ensures.same.nodes c.prepare.ensures.same.wires

pub run_over-requires-clause-joined : goal.run_over-requires-clause-joined
run_over-requires-clause-joined g c κs within = subst (λ n. AreCellsJoined (λ b. (goal.Machine-dyn g (b.vtable, b.value)).meaning b.value) n c.as_mut_slice.result.now) (sym c.prepare.ensures.same.nodes) (subst (AreCellsJoined (λ b. (goal.Machine-dyn g (b.vtable, b.value)).meaning b.value) c.args.plan.now.nodes) (sym c.as_mut_slice.ensures.value) c.requires.joined)

pub run_over-requires-clause-linked : goal.run_over-requires-clause-linked
run_over-requires-clause-linked g c κs within = linked_as (λ b. (goal.Machine-dyn g (b.vtable, b.value)).meaning b.value) c.args.plan.now c.prepare.new.plan c.as_mut_slice.result.now c.prepare.ensures.same.agents c.prepare.ensures.same.nodes c.prepare.ensures.same.kept c.prepare.ensures.same.ends (subst (AreLinkedOver (λ b. (goal.Machine-dyn g (b.vtable, b.value)).meaning b.value) c.args.plan.now) (sym c.as_mut_slice.ensures.value) c.requires.linked)

pub run_over-requires-clause-sound : goal.run_over-requires-clause-sound
run_over-requires-clause-sound g c κs within = subst (EachIs (λ x. IsCell (λ b. (goal.Machine-dyn g (b.vtable, b.value)).meaning b.value) x)) (sym c.as_mut_slice.ensures.value) c.requires.sound

pub run_over-requires-clause-fresh : goal.run_over-requires-clause-fresh
run_over-requires-clause-fresh g c κs within = subst (EachIs (λ x. begun_in x ≡ false)) (sym c.as_mut_slice.ensures.value) c.requires.fresh

pub returns-clause-run : goal.returns-clause-run
returns-clause-run g c = carry (λ old new. IfOk c.run_over.result (λ end. MakesARun c.args.budget (views_of (λ b. (goal.Machine-dyn g (b.vtable, b.value)).meaning b.value) old) (states_of (λ b. (goal.Machine-dyn g (b.vtable, b.value)).meaning b.value) new) end)) _ _ _ _ c.as_mut_slice.ensures.value (written _ c.args.cells.now.items c.run_over.new.cells c.as_mut_slice.result.now c.args.cells.now.ok.0 c.run_over.ensures.size c.as_mut_slice.ensures.value) c.run_over.ensures.run

pub returns-clause-rounds : goal.returns-clause-rounds
returns-clause-rounds g c = carry (λ old new. OnOk c.run_over.result (AreDulyPlayed c.args.budget (views_of (λ b. (goal.Machine-dyn g (b.vtable, b.value)).meaning b.value) old) (states_of (λ b. (goal.Machine-dyn g (b.vtable, b.value)).meaning b.value) new))) _ _ _ _ c.as_mut_slice.ensures.value (written _ c.args.cells.now.items c.run_over.new.cells c.as_mut_slice.result.now c.args.cells.now.ok.0 c.run_over.ensures.size c.as_mut_slice.ensures.value) c.run_over.ensures.rounds

pub returns-clause-still : goal.returns-clause-still
returns-clause-still g c = carry (λ old new. IfOk c.run_over.result (λ end. RestsAtStill c.args.budget (views_of (λ b. (goal.Machine-dyn g (b.vtable, b.value)).meaning b.value) old) (states_of (λ b. (goal.Machine-dyn g (b.vtable, b.value)).meaning b.value) new) end)) _ _ _ _ c.as_mut_slice.ensures.value (written _ c.args.cells.now.items c.run_over.new.cells c.as_mut_slice.result.now c.args.cells.now.ok.0 c.run_over.ensures.size c.as_mut_slice.ensures.value) c.run_over.ensures.still

pub returns-clause-held : goal.returns-clause-held
returns-clause-held g c = carry (λ old new. OnOk c.run_over.result (HasHeldOver c.args.budget (views_of (λ b. (goal.Machine-dyn g (b.vtable, b.value)).meaning b.value) old) c.args.plan.now (states_of (λ b. (goal.Machine-dyn g (b.vtable, b.value)).meaning b.value) new))) _ _ _ _ c.as_mut_slice.ensures.value (written _ c.args.cells.now.items c.run_over.new.cells c.as_mut_slice.result.now c.args.cells.now.ok.0 c.run_over.ensures.size c.as_mut_slice.ensures.value) (on_ok c.run_over.result c.run_over.ensures.held (held_as (λ b. (goal.Machine-dyn g (b.vtable, b.value)).meaning b.value) c.args.budget (views_of (λ b. (goal.Machine-dyn g (b.vtable, b.value)).meaning b.value) c.as_mut_slice.result.now) c.args.plan.now c.prepare.new.plan (states_of (λ b. (goal.Machine-dyn g (b.vtable, b.value)).meaning b.value) c.run_over.new.cells) c.prepare.ensures.same.agents c.prepare.ensures.same.nodes c.prepare.ensures.same.kept))

pub returns-clause-plan : goal.returns-clause-plan
returns-clause-plan g c = on_ok c.run_over.result c.run_over.ensures.plan (new_as c.args.plan.now.agents c.prepare.new.plan.agents c.args.plan.now.nodes c.prepare.new.plan.nodes c.run_over.new.plan c.prepare.ensures.same.agents c.prepare.ensures.same.nodes)

pub returns-clause-honest : goal.returns-clause-honest
returns-clause-honest g c = λ h. c.run_over.ensures.honest (subst (λ ws. AreHonest g.D.W.Wire.told g.D.W.Wire.is_joined ws) (sym c.prepare.ensures.same.wires) h)

pub returns-clause-parts : goal.returns-clause-parts
returns-clause-parts g c = carry (λ old new. OnOk c.run_over.result (HaveRunSharedOver (λ b. (goal.Machine-dyn g (b.vtable, b.value)).meaning b.value) c.args.workers c.args.plan.now.nodes old new)) _ _ _ _ c.as_mut_slice.ensures.value (written _ c.args.cells.now.items c.run_over.new.cells c.as_mut_slice.result.now c.args.cells.now.ok.0 c.run_over.ensures.size c.as_mut_slice.ensures.value) (subst (λ n. OnOk c.run_over.result (HaveRunSharedOver (λ b. (goal.Machine-dyn g (b.vtable, b.value)).meaning b.value) c.args.workers n c.as_mut_slice.result.now c.run_over.new.cells)) c.prepare.ensures.same.nodes c.run_over.ensures.parts)

pub returns-in_err-prepare-clause-same : goal.returns-in_err-prepare-clause-same
returns-in_err-prepare-clause-same g c = same_all (λ b. (goal.Machine-dyn g (b.vtable, b.value)).meaning b.value) c.args.cells.now.items

pub returns-in_err-prepare-clause-sound : goal.returns-in_err-prepare-clause-sound
returns-in_err-prepare-clause-sound g c = c.requires.sound

pub returns-clause-same : goal.returns-clause-same
returns-clause-same g c = carry (λ old new. EachBecomes IsSameCell old new) _ _ _ _ c.as_mut_slice.ensures.value (written _ c.args.cells.now.items c.run_over.new.cells c.as_mut_slice.result.now c.args.cells.now.ok.0 c.run_over.ensures.size c.as_mut_slice.ensures.value) c.run_over.ensures.same

pub returns-clause-sound : goal.returns-clause-sound
returns-clause-sound g c = subst (EachIs (λ x. IsCell (λ b. (goal.Machine-dyn g (b.vtable, b.value)).meaning b.value) x)) (sym (written _ c.args.cells.now.items c.run_over.new.cells c.as_mut_slice.result.now c.args.cells.now.ok.0 c.run_over.ensures.size c.as_mut_slice.ensures.value)) c.run_over.ensures.sound

pub returns-in_err-prepare-clause-wires : goal.returns-in_err-prepare-clause-wires
returns-in_err-prepare-clause-wires g c = subst (λ ws. AreTurned g.D.W.Wire.told g.D.W.Wire.is_joined (pairs_lost_by c.from_residual.result) c.args.plan.now.wires.items ws) (sym c.prepare.ensures.same.wires) (turned_none g.D.W.Wire.told g.D.W.Wire.is_joined _ c.args.plan.now.wires.items)

pub returns-clause-wires : goal.returns-clause-wires
returns-clause-wires g c = subst (λ ws. AreTurned g.D.W.Wire.told g.D.W.Wire.is_joined (pairs_lost_by c.run_over.result) ws c.run_over.new.plan.wires.items) c.prepare.ensures.same.wires c.run_over.ensures.wires

pub returns-in_err-prepare-clause-noted : goal.returns-in_err-prepare-clause-noted
returns-in_err-prepare-clause-noted g c = err_on c.from_residual.result _ (λ e. AreNotedAfter e c.prepare.new.plan.kept.items c.prepare.new.plan.ends.items) c.from_residual.ensures.1
    (fed_but_one c.prepare.new.plan.kept.items c.prepare.new.plan.ends.items (fed_as c.prepare.new.plan.kept.items c.args.plan.now.kept.items c.prepare.new.plan.ends.items c.args.plan.now.ends.items c.prepare.ensures.same.kept c.prepare.ensures.same.ends (linked_fed (λ b. (goal.Machine-dyn g (b.vtable, b.value)).meaning b.value) c.args.plan.now c.args.cells.now.items c.requires.plan c.requires.linked c.requires.joined)))

pub returns-clause-noted : goal.returns-clause-noted
returns-clause-noted g c = c.run_over.ensures.noted

pub returns-in_err-prepare-clause-keeps : goal.returns-in_err-prepare-clause-keeps
returns-in_err-prepare-clause-keeps g c = on_fault c.from_residual.result (keeps_same c.args.plan.now c.prepare.new.plan c.prepare.ensures.same.agents c.prepare.ensures.same.nodes c.prepare.ensures.same.ends)

pub returns-clause-keeps : goal.returns-clause-keeps
returns-clause-keeps g c = fault_then c.run_over.result (keeps_then c.args.plan.now c.prepare.new.plan c.run_over.new.plan (keeps_same c.args.plan.now c.prepare.new.plan c.prepare.ensures.same.agents c.prepare.ensures.same.nodes c.prepare.ensures.same.ends)) c.run_over.ensures.keeps

pub returns-in_err-prepare-clause-left : goal.returns-in_err-prepare-clause-left
returns-in_err-prepare-clause-left g c = err_on c.from_residual.result _ (IsLeftBy (λ b. (goal.Machine-dyn g (b.vtable, b.value)).meaning b.value) c.args.workers c.args.budget c.args.plan.now c.args.cells.now.items c.prepare.new.plan.kept.items c.prepare.new.plan.ends.items c.args.cells.now.items) c.from_residual.ensures.1 (inl (record { none = c.prepare.ensures.same.kept; same = c.prepare.ensures.same.ends; cells = inl refl }))

pub returns-clause-left : goal.returns-clause-left
returns-clause-left g c = carry (λ old new. IfErr c.run_over.result (IsLeftBy (λ b. (goal.Machine-dyn g (b.vtable, b.value)).meaning b.value) c.args.workers c.args.budget c.args.plan.now old c.run_over.new.plan.kept.items c.run_over.new.plan.ends.items new)) _ _ _ _ c.as_mut_slice.ensures.value (written _ c.args.cells.now.items c.run_over.new.cells c.as_mut_slice.result.now c.args.cells.now.ok.0 c.run_over.ensures.size c.as_mut_slice.ensures.value)
    (on_err _ _ c.run_over.result (λ e. left_as (λ b. (goal.Machine-dyn g (b.vtable, b.value)).meaning b.value) c.args.workers c.args.budget c.args.plan.now c.prepare.new.plan c.run_over.new.plan.kept.items c.run_over.new.plan.ends.items c.as_mut_slice.result.now c.run_over.new.cells e c.prepare.ensures.same.agents c.prepare.ensures.same.nodes c.prepare.ensures.same.kept c.prepare.ensures.same.ends) c.run_over.ensures.left)

pub returns-clause-carried : goal.returns-clause-carried
returns-clause-carried g c = c.run_over.ensures.carried

pub returns-in_err-prepare-clause-letters : goal.returns-in_err-prepare-clause-letters
returns-in_err-prepare-clause-letters g c = sent_on g.D.W.Wire.told g.D.W.Wire.is_joined (Unit {0}) c.from_residual.result _ c.args.plan.now c.prepare.new.plan _ c.from_residual.ensures.1
    (exchange_none g.D.W.Wire.told g.D.W.Wire.is_joined _ c.args.plan.now c.prepare.new.plan.ends.items c.prepare.new.plan.wires.items (keeps_same c.args.plan.now c.prepare.new.plan c.prepare.ensures.same.agents c.prepare.ensures.same.nodes c.prepare.ensures.same.ends).ends c.prepare.ensures.same.wires)

pub returns-clause-letters : goal.returns-clause-letters
returns-clause-letters g c =
    subst (λ cells. HaveCarriedSent g.D.W.Wire.told g.D.W.Wire.is_joined c.args.plan.now c.run_over.new.plan (states_of (λ b. (goal.Machine-dyn g (b.vtable, b.value)).meaning b.value) cells) c.run_over.result) (sym (written _ c.args.cells.now.items c.run_over.new.cells c.as_mut_slice.result.now c.args.cells.now.ok.0 c.run_over.ensures.size c.as_mut_slice.ensures.value))
    (sent_same g.D.W.Wire.told g.D.W.Wire.is_joined c.run_over.result c.args.plan.now c.prepare.new.plan c.run_over.new.plan (states_of (λ b. (goal.Machine-dyn g (b.vtable, b.value)).meaning b.value) c.run_over.new.cells) c.prepare.ensures.same c.run_over.ensures.letters)
