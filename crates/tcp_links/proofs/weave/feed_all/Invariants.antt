use Rattle.worker_laws.specs.Cells.{EachAre}
use Rattle.agent_workers.specs.Joined.{EachBecomes}
use Rattle.agent_workers.specs.Settled.{StaysQuiet}
use Rattle.tcp_links.specs.Left.{AreSameEnds}
use Rattle.tcp_links.specs.Kept.{AreFedNoted, AreToNote, MayKeepAll}
use Rattle.tcp_links.specs.Woven.{HaveFed, AreEmptied}
use Rattle.tcp_links.proofs.weave.feed_all.Given as goal

abbrev pub invariant-loop-place : goal.invariant-loop-place
invariant-loop-place g l = record {
  quiet : EachBecomes (StaysQuiet (λ b. (goal.Machine-dyn g (b.vtable, b.value)).meaning b.value)) l.initial.cells l.cells;
  fed : HaveFed (λ b. (goal.Machine-dyn g (b.vtable, b.value)).meaning b.value) l.place l.cells l.initial.kept l.kept l.initial.ends l.ends l.initial.passings;
  same : EachAre AreSameEnds l.initial.ends l.ends;
  kept : MayKeepAll l.initial.kept l.initial.passings l.kept;
  noted : AreToNote l.initial.kept l.initial.ends l.initial.passings → AreFedNoted l.kept l.ends;
  left : AreEmptied l.place l.initial.passings l.passings;
}
