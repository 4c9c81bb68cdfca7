use Rattle.std.proofs.Common.{◌≡◌, ◌++◌, map, take}
use Rattle.std.specs.List.{flat_map}
use Rattle.std.specs.String.{string_bytes}
use Rattle.problem_text.specs.Canonical.{line}
use Rattle.certificate_text.specs.CertificateText.{util_words}
use Rattle.certificate_text.proofs.writer.write_utils.Given as goal

abbrev pub invariant-loop-util : goal.invariant-loop-util
invariant-loop-util l = string_bytes l.text ≡ string_bytes l.fn.text ++ flat_map line (map (util_words l.names) (take l.util-index l.utils))
