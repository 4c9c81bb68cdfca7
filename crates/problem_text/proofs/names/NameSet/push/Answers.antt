use Rattle.std.proofs.Common.{sym, ◌∙◌, ap, not, map}
use Rattle.std.specs.Str.{bytes_eq}
use Rattle.std.specs.String.{string_bytes}
use Rattle.problem_text.proofs.NamesLaws.{IsDistinct-map, list_any-map, map-insert_key}
use Rattle.problem_text.proofs.names.NameSet.push.Goals as goal

pub invariant_of-self-2 : goal.invariant_of-self-2
invariant_of-self-2 c = IsDistinct-map (λ s. string_bytes s) bytes_eq c.insert.new.self.keys c.insert.ensures.unique

pub returns-clause-added : goal.returns-clause-added
returns-clause-added c =
    rw (← c.self.view_is, ← c.in_ok-owned.ensures.ok)
    (c.in_ok-insert.ensures.added
    ∙ ap not (sym (list_any-map (λ s. string_bytes s) (bytes_eq (string_bytes c.in_ok-owned.owned)) c.self.inside.set.keys)))

pub returns-clause-names : goal.returns-clause-names
returns-clause-names c =
    rw (← c.self.view_is, ← c.in_ok-owned.ensures.ok)
    (ap (map (λ s. string_bytes s)) c.in_ok-insert.ensures.keys
    ∙ map-insert_key (λ s. string_bytes s) bytes_eq c.self.inside.set.keys c.in_ok-owned.owned)
