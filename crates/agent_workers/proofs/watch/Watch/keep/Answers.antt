use Rattle.std.proofs.Common.{◌∙◌, arith}
use Rattle.std.proofs.lemmas.List.{get_or_default}
use Rattle.worker_laws.specs.Cells.{peers}
use Rattle.agent_cells.specs.State.{state_of}
use Rattle.agent_workers.proofs.WatchLaws.{keeping_none, keeping_more, keeping_all}
use Rattle.agent_workers.proofs.watch.Watch.keep.Goals as goal

pub loop-place-init : goal.loop-place-init
loop-place-init g c = keeping_none (peers (state_of (λ b. (goal.Machine-dyn g (b.vtable, b.value)).meaning b.value) c.args.cell.now).taken) c.args.self.now.waits c.args.self.now.marks

pub loop-place-preserved : goal.loop-place-preserved
loop-place-preserved g c =
    keeping_more (peers (state_of (λ b. (goal.Machine-dyn g (b.vtable, b.value)).meaning b.value) c.args.cell.now).taken) c.loop-place.place c.args.self.now.waits c.args.self.now.marks c.loop-place.self.waits c.loop-place.self.marks _ c.keep_mark.new.self.waits c.keep_mark.new.self.marks (c.near.view_is ∙ c.neighbour.ensures c.near.inside.0 ∙ get_or_default (peers (state_of (λ b. (goal.Machine-dyn g (b.vtable, b.value)).meaning b.value) c.args.cell.now).taken) c.loop-place.place c.near.inside.0 0 (let test = c.loop-place-test.true in let degree = c.degree-place-end.ensures in omega (arith, test, degree)))
    c.keep_mark.ensures.kept c.keep_mark.ensures.same c.keep_mark.ensures.sent c.loop-place.invariant

pub returns-clause-kept : goal.returns-clause-kept
returns-clause-kept g c = c.loop-place.invariant.kept

pub returns-clause-sent : goal.returns-clause-sent
returns-clause-sent g c = keeping_all (peers (state_of (λ b. (goal.Machine-dyn g (b.vtable, b.value)).meaning b.value) c.args.cell.now).taken) c.loop-place.place c.args.self.now.waits c.args.self.now.marks c.loop-place.self.waits c.loop-place.self.marks (let all = c.loop-place-test.false in let degree = c.degree-place-end.ensures in omega (arith, all, degree)) c.loop-place.invariant
