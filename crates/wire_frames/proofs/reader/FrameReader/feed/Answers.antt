use Rattle.std.proofs.Common.{◌≡◌, false, subst}
use Rattle.wire_frames.specs.Reader.{Reader, Takes}
use Rattle.wire_frames.proofs.CutLaws.{taken}
use Rattle.wire_frames.proofs.reader.FrameReader.feed.Goals as goal

pub returns-clause-fed : goal.returns-clause-fed
returns-clause-fed c =
    let end = c.in_ok-end.end in
    let t = taken c.self.inside.limit c.self.inside.place end.place _ c.self.inside.ready.items c.cut.new.ready.items c.self.inside.rest.items c.args.piece.now c.cut.new.rest.items c.self.inside.stuck end.is_too_long
    c.in_ok-end.ensures.0 c.in_ok-end.ensures.1 c.in_ok-end.ensures.2 c.saturating_add-place.ensures in
    subst (λ (r : Reader). (r.stuck ≡ false) × (end.is_too_long ≡ false) × Takes r c.args.piece.now (record { limit = c.self.inside.limit; ready = c.cut.new.ready.items; rest = c.cut.new.rest.items; place = c.saturating_add-place.result; stuck = end.is_too_long })) c.self.view_is (c.if-self.false, c.if-self-2.false, t)
