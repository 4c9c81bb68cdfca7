use Rattle.std.proofs.Common.{◌≡◌, ℕ, length}
use Rattle.worker_laws.specs.Cells.{EachAre}
use Rattle.agent_workers.specs.Joined.{EachBecomes}
use Rattle.agent_workers.specs.Settled.{StaysQuiet}
use Rattle.tcp_links.specs.Kept.{HasSameFeed}
use Rattle.tcp_links.specs.Left.{AreSameEnds}
use Rattle.tcp_links.specs.Woven.{AreLinksIdle, HaveDrained}
use Rattle.tcp_links.proofs.weave.drain_all.Given as goal

abbrev pub invariant-loop-place : goal.invariant-loop-place
invariant-loop-place g l = record {
  quiet : EachBecomes (StaysQuiet (λ b. (goal.Machine-dyn g (b.vtable, b.value)).meaning b.value)) l.initial.cells l.cells;
  ends : length l.ends ≡ length l.kept;
  same : EachAre AreSameEnds l.initial.ends l.ends;
  feeds : EachAre (λ a b. HasSameFeed a b) l.initial.ends l.ends;
  passings : length l.passings ≡ length l.kept;
  drained : (node : ℕ → ℕ) → AreLinksIdle node l.kept l.initial.passings → HaveDrained (λ b. (goal.Machine-dyn g (b.vtable, b.value)).meaning b.value) node l.place l.initial.cells l.kept l.initial.ends l.ends l.passings;
}
