use Rattle.std.proofs.Common.{ℕ, List, ◌++◌, sym, ap, ◌∙◌, arith}
use Rattle.std.specs.String.{string_bytes}
use Rattle.problem_text.specs.Canonical.{line}
use Rattle.trace_text.specs.Lines.{sent_words}
use Rattle.trace_text.proofs.LineLaws.{one-more, lines-of, all-done}
use Rattle.trace_text.proofs.lines.write_sent.Goals as goal

pub loop-parcel-preserved : goal.loop-parcel-preserved
loop-parcel-preserved c =
    one-more (λ x. line (sent_words c.args.names.now x)) c.args.parcels.now c.loop-parcel.parcel-index c.parcel-item.result _ _ _ (omega (arith, c.loop-parcel-test.true)) c.parcel-item.is c.in_ok-write_parcel.ensures c.loop-parcel.invariant

pub returns : goal.returns
returns c =
    all-done (λ x. line (sent_words c.args.names.now x)) c.args.parcels.now c.loop-parcel.parcel-index _ _ (omega arith) c.loop-parcel.invariant
    ∙ ap (λ (text : List ℕ). string_bytes c.args.text.now ++ text) (sym (lines-of (sent_words c.args.names.now) c.args.parcels.now))
