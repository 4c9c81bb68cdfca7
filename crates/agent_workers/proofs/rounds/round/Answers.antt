use Rattle.std.proofs.Common.{None, length, sym, subst, ◌≡◌}
use Rattle.worker_laws.specs.OneNode.{home}
use Rattle.agent_workers.specs.Watched.{IsTurnRound}
use Rattle.agent_workers.specs.Shared.{IsSharedRound}
use Rattle.std.specs.Prelude.{OnOk, IfErr}
use Rattle.agent_cells.specs.State.{fault_in}
use Rattle.agent_cells.proofs.CellLaws.{written}
use Rattle.agent_workers.specs.Joined.{EachIs, EachBecomes, HasBegun, IsSameCell, AreCellsJoined}
use Rattle.agent_workers.specs.Turns.{sprint_limit, SomeFailed}
use Rattle.agent_workers.specs.Broken.{AreCutShort}
use Rattle.worker_laws.specs.StampCounts.{IsMoved}
use Rattle.agent_workers.proofs.ListLaws.{carry}
use Rattle.agent_workers.proofs.rounds.round.Goals as goal

pub play_round-requires-clause-joined : goal.play_round-requires-clause-joined
play_round-requires-clause-joined g c κs within = subst (AreCellsJoined (λ b. (goal.Machine-dyn g (b.vtable, b.value)).meaning b.value) c.args.nodes) (sym c.as_mut_slice.ensures.value) c.requires.joined

pub play_round-requires-clause-begun : goal.play_round-requires-clause-begun
play_round-requires-clause-begun g c κs within = subst (EachIs (HasBegun (λ b. (goal.Machine-dyn g (b.vtable, b.value)).meaning b.value))) (sym c.as_mut_slice.ensures.value) c.requires.begun

pub returns-clause-joined : goal.returns-clause-joined
returns-clause-joined g c = subst (AreCellsJoined (λ b. (goal.Machine-dyn g (b.vtable, b.value)).meaning b.value) c.args.nodes) (sym (written _ c.args.cells.now.items c.play_round.new.cells c.as_mut_slice.result.now c.args.cells.now.ok.0 c.play_round.ensures.same.size c.as_mut_slice.ensures.value)) c.play_round.ensures.joined

pub returns-clause-begun : goal.returns-clause-begun
returns-clause-begun g c = subst (EachIs (HasBegun (λ b. (goal.Machine-dyn g (b.vtable, b.value)).meaning b.value))) (sym (written _ c.args.cells.now.items c.play_round.new.cells c.as_mut_slice.result.now c.args.cells.now.ok.0 c.play_round.ensures.same.size c.as_mut_slice.ensures.value)) c.play_round.ensures.begun

pub returns-clause-same : goal.returns-clause-same
returns-clause-same g c = carry (EachBecomes (λ a b. IsSameCell a b)) _ _ _ _ c.as_mut_slice.ensures.value (written _ c.args.cells.now.items c.play_round.new.cells c.as_mut_slice.result.now c.args.cells.now.ok.0 c.play_round.ensures.same.size c.as_mut_slice.ensures.value) c.play_round.ensures.same

pub returns-clause-fine : goal.returns-clause-fine
returns-clause-fine g c = carry (λ old new. OnOk c.play_round.result (EachBecomes (λ a b. fault_in a ≡ None → fault_in b ≡ None) old new)) _ _ _ _ c.as_mut_slice.ensures.value (written _ c.args.cells.now.items c.play_round.new.cells c.as_mut_slice.result.now c.args.cells.now.ok.0 c.play_round.ensures.same.size c.as_mut_slice.ensures.value) c.play_round.ensures.fine

pub returns-clause-err : goal.returns-clause-err
returns-clause-err g c = subst (λ cells. IfErr c.play_round.result (λ f. SomeFailed f cells)) (sym (written _ c.args.cells.now.items c.play_round.new.cells c.as_mut_slice.result.now c.args.cells.now.ok.0 c.play_round.ensures.same.size c.as_mut_slice.ensures.value)) c.play_round.ensures.err

pub returns-clause-turns : goal.returns-clause-turns
returns-clause-turns g c = carry (λ old new. c.args.workers ≡ 1 → OnOk c.play_round.result (IsTurnRound (λ b. (goal.Machine-dyn g (b.vtable, b.value)).meaning b.value) (home c.args.nodes (length old)) old new)) _ _ _ _ c.as_mut_slice.ensures.value (written _ c.args.cells.now.items c.play_round.new.cells c.as_mut_slice.result.now c.args.cells.now.ok.0 c.play_round.ensures.same.size c.as_mut_slice.ensures.value) c.play_round.ensures.turns

pub returns-clause-parts : goal.returns-clause-parts
returns-clause-parts g c = carry (λ old new. OnOk c.play_round.result (IsSharedRound (λ b. (goal.Machine-dyn g (b.vtable, b.value)).meaning b.value) c.args.workers (home c.args.nodes (length old)) old new)) _ _ _ _ c.as_mut_slice.ensures.value (written _ c.args.cells.now.items c.play_round.new.cells c.as_mut_slice.result.now c.args.cells.now.ok.0 c.play_round.ensures.same.size c.as_mut_slice.ensures.value) c.play_round.ensures.parts

pub returns-clause-left : goal.returns-clause-left
returns-clause-left g c = carry (λ old new. IfErr c.play_round.result (λ f. AreCutShort (λ b. (goal.Machine-dyn g (b.vtable, b.value)).meaning b.value) f IsMoved sprint_limit c.args.workers old new)) _ _ _ _ c.as_mut_slice.ensures.value (written _ c.args.cells.now.items c.play_round.new.cells c.as_mut_slice.result.now c.args.cells.now.ok.0 c.play_round.ensures.same.size c.as_mut_slice.ensures.value) c.play_round.ensures.left
