use Rattle.std.proofs.Common.{sym, ◌∙◌}
use Rattle.std.specs.Str.{bytes_eq}
use Rattle.std.specs.String.{string_bytes}
use Rattle.problem_text.proofs.NamesLaws.{position-map}
use Rattle.problem_text.proofs.names.NameSet.position.Goals as goal

pub returns : goal.returns
returns c = rw (← c.self.view_is) (c.get_index_of.ensures.index ∙ sym (position-map (λ s. string_bytes s) (bytes_eq c.args.name.now) c.self.inside.set.keys))
