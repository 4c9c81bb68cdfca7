use Rattle.std.proofs.Common.{ℕ, List, [], ◌∷◌, ◌++◌, codes, ap, ◌∙◌}
use Rattle.std.specs.String.{string_bytes}
use Rattle.protocol_steps.specs.declared.message.Message.{Message}
use Rattle.problem_text.specs.Canonical.{line}
use Rattle.trace_text.specs.Spaced.{spaced}
use Rattle.trace_text.specs.Lines.{name_in, message_words, sent_words}
use Rattle.trace_text.proofs.WordLaws.{line-written}
use Rattle.trace_text.proofs.lines.write_parcel.Goals as goal

pub returns : goal.returns
returns c =
    let names = c.args.names.now in
    line-written (string_bytes c.args.text.now) (string_bytes c.push_str.new.self) (string_bytes c.write_word.new.text) (string_bytes c.write_message.new.text) (string_bytes c.push_str-2.new.self)
    (codes "sent") (name_in names c.parcel.inside.to ∷ []) (message_words names c.parcel.inside.message)
    c.in_ok-push_str.ensures.bytes
    (c.in_ok-write_word.ensures ∙ ap (λ (name : List ℕ). string_bytes c.push_str.new.self ++ spaced (name ∷ [])) c.name_in.ensures)
    c.in_ok-write_message.ensures
    c.in_ok-push_str-2.ensures.bytes
    ∙ ap (λ (l : ℕ × Message). string_bytes c.args.text.now ++ line (sent_words names l)) c.parcel.view_is
