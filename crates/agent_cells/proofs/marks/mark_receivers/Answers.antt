use Rattle.std.proofs.Common.{ℕ, List, length, ap, ◌∙◌, get_or, arith}
use Rattle.protocol_steps.specs.declared.message.Message.{Message}
use Rattle.agent_cells.proofs.MarkLaws.{stay_none, stay_then, stay_set, marked_none, marked_more, marked_all}
use Rattle.agent_cells.proofs.marks.mark_receivers.Goals as goal

pub loop-parcel-init : goal.loop-parcel-init
loop-parcel-init c = record { stay = stay_none _; marked = marked_none _ _ }

pub loop-parcel-preserved : goal.loop-parcel-preserved
loop-parcel-preserved c =
    let m = c.mark.ensures in
    let items = c.as_slice-parcel-items.ensures in
    let test = c.loop-parcel-test.true in
    let size = ap (λ (ps : List (ℕ × Message)). length ps) items in
    record {
      stay = stay_then _ _ _ c.loop-parcel.invariant.stay (stay_set _ _ c.parcel.inside.to m.size m.here m.others);
      marked = marked_more c.loop-parcel.parcel-index c.parcel.inside.to c.args.out.now c.parcel-item.result _ _ c.loop-parcel.invariant.marked (omega (arith, test, size))
          (ap (λ (p : ℕ × Message). p.0) c.parcel.view_is) (c.parcel-item.is ∙ ap (λ ps. get_or ps c.loop-parcel.parcel-index c.parcel-item.result) items) m.size m.here m.others;
    }

pub returns-clause-marked : goal.returns-clause-marked
returns-clause-marked c =
    let test = c.loop-parcel-test.false in
    let size = ap (λ (ps : List (ℕ × Message)). length ps) c.as_slice-parcel-items.ensures in
    marked_all c.loop-parcel.parcel-index c.args.out.now c.loop-parcel.marks (omega (arith, test, size)) c.loop-parcel.invariant.marked
