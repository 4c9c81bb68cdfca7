use Rattle.std.proofs.Common.{◌≡◌, ◌++◌, drop}
use Rattle.std.specs.List.{flat_map}
use Rattle.std.specs.String.{string_bytes}
use Rattle.problem_text.specs.Canonical.{line}
use Rattle.trace_text.specs.Lines.{sent_words}
use Rattle.trace_text.proofs.lines.write_sent.Given as goal

abbrev pub invariant-loop-parcel : goal.invariant-loop-parcel
invariant-loop-parcel l =
    string_bytes l.text ++ flat_map (λ x. line (sent_words l.names x)) (drop l.parcel-index l.parcels)
    ≡ string_bytes l.fn.text ++ flat_map (λ x. line (sent_words l.names x)) l.parcels
