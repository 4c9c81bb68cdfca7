use Rattle.std.proofs.Common.{false, sym, subst, ◌≡◌}
use Rattle.std.specs.Prelude.{OnOk}
use Rattle.agent_cells.specs.State.{begun_in, IsCell}
use Rattle.agent_cells.proofs.CellLaws.{written}
use Rattle.agent_workers.specs.Joined.{EachIs, EachBecomes, IsSameCell}
use Rattle.agent_workers.specs.Run.{HasStarted}
use Rattle.agent_workers.proofs.ListLaws.{carry}
use Rattle.test_threads.proofs.workers.rounds.begin.Goals as goal

pub begin_all-requires-clause-sound : goal.begin_all-requires-clause-sound
begin_all-requires-clause-sound g c = subst (EachIs (λ x. IsCell (λ b. (goal.Machine-dyn g (b.vtable, b.value)).meaning b.value) x)) (sym c.as_mut_slice.ensures.value) c.requires.sound

pub begin_all-requires-clause-fresh : goal.begin_all-requires-clause-fresh
begin_all-requires-clause-fresh g c = subst (EachIs (λ x. begun_in x ≡ false)) (sym c.as_mut_slice.ensures.value) c.requires.fresh

pub returns-clause-same : goal.returns-clause-same
returns-clause-same g c = carry (EachBecomes (λ a b. IsSameCell a b)) _ _ _ _ c.as_mut_slice.ensures.value (written _ c.args.cells.now.items c.begin_all.new.cells c.as_mut_slice.result.now c.args.cells.now.ok.0 c.begin_all.ensures.same.size c.as_mut_slice.ensures.value) c.begin_all.ensures.same

pub returns-clause-started : goal.returns-clause-started
returns-clause-started g c = carry (λ old new. OnOk c.begin_all.result (EachBecomes (HasStarted (λ b. (goal.Machine-dyn g (b.vtable, b.value)).meaning b.value)) old new)) _ _ _ _ c.as_mut_slice.ensures.value (written _ c.args.cells.now.items c.begin_all.new.cells c.as_mut_slice.result.now c.args.cells.now.ok.0 c.begin_all.ensures.same.size c.as_mut_slice.ensures.value) c.begin_all.ensures.started
