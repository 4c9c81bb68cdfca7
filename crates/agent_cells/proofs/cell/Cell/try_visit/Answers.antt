use Rattle.std.proofs.Common.{refl, ap, sym, ◌∙◌, arith}
use Rattle.worker_laws.specs.Cells.{peers}
use Rattle.agent_cells.specs.Links.{lanes_taken}
use Rattle.agent_cells.proofs.ResultLaws.{passed_on, at_some, at_none}
use Rattle.agent_cells.proofs.LookLaws.{looked_taken, looked_known, nothing_known}
use Rattle.agent_cells.proofs.CellLaws.{may_react, is_batch, visited_some, visited_none, visited_idle, reached_end, ascending, written}
use Rattle.agent_cells.proofs.cell.Cell.try_visit.Goals as goal

pub returns-in_default-clause-ok : goal.returns-in_default-clause-ok
returns-in_default-clause-ok g c =
    let old = c.as_mut_slice-heads.ensures.value in
    let nothing = at_none _ _ c.in_ok-taken.field-0 c.in_ok-taken.ensures.found c.in_default.is in
    let new = ap lanes_taken (written _ c.args.self.now.heads.items c.collect_waiting.new.heads _ c.args.self.now.heads.ok.0 c.collect_waiting.ensures.same.size old) in
    visited_idle _ _ (nothing_known c.args.self.now.heads.items _ _ nothing old) refl refl refl refl refl (new ∙ nothing.look.taken ∙ ap lanes_taken old)

pub handle-requires-clause-ready : goal.handle-requires-clause-ready
handle-requires-clause-ready g c = may_react _ (c.requires.cell.running c.requires.begun c.requires.fine) c.requires.live

pub handle-requires-clause-batch : goal.handle-requires-clause-batch
handle-requires-clause-batch g c =
    let old = c.as_mut_slice-heads.ensures.value in
    let some = at_some _ _ c.in_ok-taken.field-0 c.in-Some.taken c.in_ok-taken.ensures.found c.in-Some.is in
    let taken = looked_taken c.args.self.now.heads.items _ some.looked some.look old in
    let up = ascending _ _ _ some.looked some.looked c.requires.cell taken refl in
    let count = c.len-count.ensures ∙ c.in-Some.taken.letters.ok.0 in
    is_batch _ c.len-count.result _ _ _ _ _ up some.collected (sym c.requires.cell.taken ∙ ap peers taken) count c.if-count-gt0.true

pub returns-in_ok-handle-clause-ok : goal.returns-in_ok-handle-clause-ok
returns-in_ok-handle-clause-ok g c =
    let old = c.as_mut_slice-heads.ensures.value in
    let some = at_some _ _ c.in_ok-taken.field-0 c.in-Some.taken c.in_ok-taken.ensures.found c.in-Some.is in
    let taken = looked_taken c.args.self.now.heads.items _ some.looked some.look old in
    let up = ascending _ _ _ some.looked some.looked c.requires.cell taken refl in
    let count = c.len-count.ensures ∙ c.in-Some.taken.letters.ok.0 in
    let new = ap lanes_taken (written _ c.args.self.now.heads.items c.collect_waiting.new.heads _ c.args.self.now.heads.ok.0 c.collect_waiting.ensures.same.size old) in
    visited_some _ _ _ c.len-count.result _ _ _ _ _ up some.collected count c.if-count-gt0.true
    taken (looked_known c.args.self.now.heads.items _ some.looked some.look old) (ap (λ h. lanes_taken h.items) c.handle.ensures.heads ∙ new) c.handle.ensures.me c.requires.live (sym c.requires.cell.taken)
    refl refl refl refl c.in_ok-handle.ensures.ok

pub returns-else-count-gt0-clause-ok : goal.returns-else-count-gt0-clause-ok
returns-else-count-gt0-clause-ok g c =
    let old = c.as_mut_slice-heads.ensures.value in
    let some = at_some _ _ c.in_ok-taken.field-0 c.in-Some.taken c.in_ok-taken.ensures.found c.in-Some.is in
    let taken = looked_taken c.args.self.now.heads.items _ some.looked some.look old in
    let up = ascending _ _ _ some.looked some.looked c.requires.cell taken refl in
    let count = c.len-count.ensures ∙ c.in-Some.taken.letters.ok.0 in
    let new = ap lanes_taken (written _ c.args.self.now.heads.items c.collect_waiting.new.heads _ c.args.self.now.heads.ok.0 c.collect_waiting.ensures.same.size old) in
    visited_none _ _ c.len-count.result _ _ _ _ _ up some.collected count (omega (arith, c.if-count-gt0.false))
    taken (looked_known c.args.self.now.heads.items _ some.looked some.look old) new refl refl refl refl refl

pub returns-in_err-handle-clause-end : goal.returns-in_err-handle-clause-end
returns-in_err-handle-clause-end g c = λ is.
    let old = c.as_mut_slice-heads.ensures.value in
    let some = at_some _ _ c.in_ok-taken.field-0 c.in-Some.taken c.in_ok-taken.ensures.found c.in-Some.is in
    let taken = looked_taken c.args.self.now.heads.items _ some.looked some.look old in
    let up = ascending _ _ _ some.looked some.looked c.requires.cell taken refl in
    let count = c.len-count.ensures ∙ c.in-Some.taken.letters.ok.0 in
    let new = ap lanes_taken (written _ c.args.self.now.heads.items c.collect_waiting.new.heads _ c.args.self.now.heads.ok.0 c.collect_waiting.ensures.same.size old) in
    reached_end _ _ _ c.len-count.result _ _ _ _ _ up some.collected count c.if-count-gt0.true
    taken (ap (λ h. lanes_taken h.items) c.handle.ensures.heads ∙ new) refl refl refl refl
    (c.in_err-handle.ensures.end (passed_on _ _ _ c.from_residual-in_err-handle.ensures.1 is))
