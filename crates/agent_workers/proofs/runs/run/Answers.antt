use Rattle.std.proofs.Common.{false, sym, subst, ◌≡◌}
use Rattle.std.specs.Prelude.{OnOk, OnErr}
use Rattle.agent_cells.specs.State.{begun_in, IsCell}
use Rattle.agent_cells.proofs.CellLaws.{written}
use Rattle.agent_workers.specs.Broken.{HaveRunPartly}
use Rattle.agent_workers.specs.Shared.{HaveRunShared}
use Rattle.agent_workers.proofs.ListLaws.{carry}
use Rattle.agent_workers.specs.Joined.{EachIs, EachBecomes, IsSameCell, AreCellsJoined}
use Rattle.agent_workers.proofs.runs.run.Goals as goal

pub run_all-requires-clause-joined : goal.run_all-requires-clause-joined
run_all-requires-clause-joined g c κs within = subst (AreCellsJoined (λ b. (goal.Machine-dyn g (b.vtable, b.value)).meaning b.value) 1) (sym c.as_mut_slice.ensures.value) c.requires.joined

pub run_all-requires-clause-sound : goal.run_all-requires-clause-sound
run_all-requires-clause-sound g c κs within = subst (EachIs (λ x. IsCell (λ b. (goal.Machine-dyn g (b.vtable, b.value)).meaning b.value) x)) (sym c.as_mut_slice.ensures.value) c.requires.sound

pub run_all-requires-clause-fresh : goal.run_all-requires-clause-fresh
run_all-requires-clause-fresh g c κs within = subst (EachIs (λ x. begun_in x ≡ false)) (sym c.as_mut_slice.ensures.value) c.requires.fresh

pub returns-clause-parts : goal.returns-clause-parts
returns-clause-parts g c = carry (λ old new. OnOk c.run_all.result (HaveRunShared (λ b. (goal.Machine-dyn g (b.vtable, b.value)).meaning b.value) c.args.workers c.args.budget old new)) _ _ _ _ c.as_mut_slice.ensures.value (written _ c.args.cells.now.items c.run_all.new.cells c.as_mut_slice.result.now c.args.cells.now.ok.0 c.run_all.auto.cells c.as_mut_slice.ensures.value) c.run_all.ensures.parts

pub returns-clause-same : goal.returns-clause-same
returns-clause-same g c = carry (EachBecomes (λ a b. IsSameCell a b)) _ _ _ _ c.as_mut_slice.ensures.value (written _ c.args.cells.now.items c.run_all.new.cells c.as_mut_slice.result.now c.args.cells.now.ok.0 c.run_all.ensures.same.size c.as_mut_slice.ensures.value) c.run_all.ensures.same

pub returns-clause-sound : goal.returns-clause-sound
returns-clause-sound g c = subst (EachIs (λ x. IsCell (λ b. (goal.Machine-dyn g (b.vtable, b.value)).meaning b.value) x)) (sym (written _ c.args.cells.now.items c.run_all.new.cells c.as_mut_slice.result.now c.args.cells.now.ok.0 c.run_all.ensures.same.size c.as_mut_slice.ensures.value)) c.run_all.ensures.sound

pub returns-clause-left : goal.returns-clause-left
returns-clause-left g c = carry (λ old new. OnErr c.run_all.result (HaveRunPartly (λ b. (goal.Machine-dyn g (b.vtable, b.value)).meaning b.value) c.args.workers c.args.budget old new)) _ _ _ _ c.as_mut_slice.ensures.value (written _ c.args.cells.now.items c.run_all.new.cells c.as_mut_slice.result.now c.args.cells.now.ok.0 c.run_all.ensures.same.size c.as_mut_slice.ensures.value) c.run_all.ensures.left
