use Rattle.std.proofs.Common.{ℕ, List, [], ◌∷◌, ◌++◌, codes, ap, ◌∙◌}
use Rattle.std.specs.Fmt.{decimal}
use Rattle.std.specs.String.{string_bytes}
use Rattle.trace_text.specs.Spaced.{spaced}
use Rattle.trace_text.specs.Lines.{name_in}
use Rattle.trace_text.proofs.WordLaws.{line-written}
use Rattle.trace_text.proofs.lines.write_heading.Goals as goal

pub returns : goal.returns
returns c =
    let event = c.args.event.now in
    line-written (string_bytes c.args.text.now) (string_bytes c.push_str.new.self) (string_bytes c.write_number.new.text) (string_bytes c.write_numbered.new.text) (string_bytes c.push_str-2.new.self)
    (codes "event") (decimal c.args.number ∷ []) (name_in c.args.names.now event.agent ∷ decimal event.stamp ∷ [])
    c.in_ok-push_str.ensures.bytes
    c.in_ok-write_number.ensures
    (c.in_ok-write_numbered.ensures ∙ ap (λ (name : List ℕ). string_bytes c.write_number.new.text ++ spaced (name ∷ decimal event.stamp ∷ [])) c.name_in.ensures)
    c.in_ok-push_str-2.ensures.bytes
