use Rattle.std.specs.Str.{bytes_eq}
use Rattle.std.specs.String.{string_bytes}
use Rattle.problem_text.proofs.NamesLaws.{IsDistinct-map}
use Rattle.problem_text.proofs.names.NameSet.new.Goals as goal

pub invariant_of-result : goal.invariant_of-result
invariant_of-result c = IsDistinct-map (λ s. string_bytes s) bytes_eq c.new.result.keys c.new.ensures.unique
