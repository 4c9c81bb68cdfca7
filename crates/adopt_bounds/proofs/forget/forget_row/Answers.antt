use Rattle.std.proofs.Common.{◌≡◌, true, false, None, length, get_or, sym, ◌∙◌, arith}
use Rattle.adopt_context.specs.Context.{part_of}
use Rattle.adopt_bounds.specs.Rows.{entries_of}
use Rattle.adopt_bounds.proofs.ForgetLaws.{forget_all, forget_none, forget_next, keep_next, totals_at, room_of}
use Rattle.adopt_bounds.proofs.forget.forget_row.Goals.{then-not-part_of, else-not-part_of}
use Rattle.adopt_bounds.proofs.forget.forget_row.Goals as goal

pub loop-k-init : goal.loop-k-init
loop-k-init c = forget_none c.args.known.now (length c.args.lower.now) c.args.lower.now c.args.upper.now c.args.share.now c.args.contexts.now c.args.totals.now c.requires.parts c.requires.totals

pub exchange-requires-clause-lower : goal.exchange-requires-clause-lower
exchange-requires-clause-lower c =
    (totals_at (length c.args.lower.now) c.loop-k.k c.loop-k.lower c.loop-k.upper c.loop-k.share c.loop-k.contexts c.loop-k.totals 0 None c.loop-k.invariant.parts c.loop-k.invariant.right c.loop-k-test.true).lower

pub exchange-requires-clause-upper : goal.exchange-requires-clause-upper
exchange-requires-clause-upper c =
    (totals_at (length c.args.lower.now) c.loop-k.k c.loop-k.lower c.loop-k.upper c.loop-k.share c.loop-k.contexts c.loop-k.totals 0 None c.loop-k.invariant.parts c.loop-k.invariant.right c.loop-k-test.true).upper

pub exchange-requires-clause-missing : goal.exchange-requires-clause-missing
exchange-requires-clause-missing c =
    (totals_at (length c.args.lower.now) c.loop-k.k c.loop-k.lower c.loop-k.upper c.loop-k.share c.loop-k.contexts c.loop-k.totals 0 None c.loop-k.invariant.parts c.loop-k.invariant.right c.loop-k-test.true).missing

pub exchange-requires-clause-lower_fits : goal.exchange-requires-clause-lower_fits
exchange-requires-clause-lower_fits c =
    let room = room_of (length c.args.lower.now) c.loop-k.lower c.loop-k.upper c.loop-k.share c.loop-k.contexts c.loop-k.totals c.loop-k.invariant.parts c.loop-k.invariant.right in
    omega (arith, room.lower)

pub exchange-requires-clause-upper_fits : goal.exchange-requires-clause-upper_fits
exchange-requires-clause-upper_fits c =
    let room = room_of (length c.args.lower.now) c.loop-k.lower c.loop-k.upper c.loop-k.share c.loop-k.contexts c.loop-k.totals c.loop-k.invariant.parts c.loop-k.invariant.right in
    omega (arith, room.upper)

pub exchange-requires-clause-missing_fits : goal.exchange-requires-clause-missing_fits
exchange-requires-clause-missing_fits c =
    let room = room_of (length c.args.lower.now) c.loop-k.lower c.loop-k.upper c.loop-k.share c.loop-k.contexts c.loop-k.totals c.loop-k.invariant.parts c.loop-k.invariant.right in
    omega (arith, room.missing)

pub loop-k-preserved : goal.loop-k-preserved
loop-k-preserved c = elim c.if-not-part_of.branch [
  | then-not-part_of w ↦
      let rests : part_of (get_or c.loop-k.contexts c.loop-k.k c.index-contexts-k.result) c.args.known.now ≡ false = sym c.part_of.ensures ∙ w.if-not-part_of.true in
      rw (w.totals-is, w.lower-is, w.upper-is, w.share-is, w.contexts-is, w.clear.ensures)
      (forget_next c.args.known.now (entries_of c.args.lower.now c.args.upper.now c.args.share.now c.args.contexts.now) (length c.args.lower.now) c.loop-k.k c.loop-k.lower c.loop-k.upper c.loop-k.share c.loop-k.contexts
      c.loop-k.totals w.exchange.new.self 0 None c.index-contexts-k.result c.loop-k.invariant c.loop-k-test.true rests w.exchange.ensures.lower w.exchange.ensures.upper w.exchange.ensures.missing)
  | else-not-part_of w ↦
      let rests : part_of (get_or c.loop-k.contexts c.loop-k.k c.index-contexts-k.result) c.args.known.now ≡ true = sym c.part_of.ensures ∙ w.if-not-part_of.false in
      rw (w.totals-is, w.lower-is, w.upper-is, w.share-is, w.contexts-is)
      (keep_next c.args.known.now (entries_of c.args.lower.now c.args.upper.now c.args.share.now c.args.contexts.now) (length c.args.lower.now) c.loop-k.k c.loop-k.lower c.loop-k.upper c.loop-k.share c.loop-k.contexts
      c.loop-k.totals c.index-contexts-k.result c.loop-k.invariant c.loop-k-test.true rests)
]

pub returns : goal.returns
returns c = record {
  parts = c.loop-k.invariant.parts;
  totals = c.loop-k.invariant.right;
  entries = forget_all c.args.known.now (entries_of c.args.lower.now c.args.upper.now c.args.share.now c.args.contexts.now) (length c.args.lower.now) c.loop-k.k c.loop-k.lower c.loop-k.upper c.loop-k.share c.loop-k.contexts
      c.loop-k.totals c.loop-k.invariant c.loop-k-test.false;
}
