use Rattle.std.proofs.Common.{◌≡◌, ℕ, List, ◌∷◌, ◌++◌, length, [], ap, ◌∙◌, arith}
use Rattle.std.specs.Int.{w8}
use Rattle.std.proofs.lemmas.Result.{err_from_is_err_and}
use Rattle.message_code.specs.Code.{amount_code}
use Rattle.message_code.specs.Form.{Form, ended, number, amount, fields, envelope}
use Rattle.message_code.proofs.PartLaws.{stopped_first, stopped_behind}
use Rattle.message_code.proofs.PassLaws.{amount_passes, tag_passes, byte_is}
use Rattle.message_code.proofs.DecodeLaws.{refused_behind, whole_behind, not_empty}
use Rattle.message_code.proofs.reader.envelope_at.Goals as goal

abbrev tagged : Form → Form
tagged next = number w8 1 9 (λ tag. fields tag next)

pub returns-in_err-stamp : goal.returns-in_err-stamp
returns-in_err-stamp c =
    let p = err_from_is_err_and c.from_residual.result c.from_residual.ensures.1 in
    rw (p.1, p.2) (stopped_first amount (λ (_ : Unit {0}). tagged ended) c.args.bytes.now c.in_err-stamp.field-0.0 c.in_err-stamp.ensures.read)

pub returns-in_err-tag : goal.returns-in_err-tag
returns-in_err-tag c =
    let p = err_from_is_err_and c.from_residual-in_err-tag.result c.from_residual-in_err-tag.ensures.1 in
    rw (p.1, p.2) (stopped_behind (λ (_ : Unit {0}). envelope ended) (λ (_ : Unit {0}). tagged ended) c.args.bytes.now (amount_code c.in_ok-stamp.stamp) c.in_ok-stamp.rest.now c.in_err-tag.field-0.0 c.in_ok-stamp.ensures.read
    (λ _. amount_passes c.in_ok-stamp.stamp c.in_ok-stamp.rest.now c.in_ok-stamp.ensures.range (tagged ended))
    (stopped_first (number w8 1 9) (λ (_ : Unit {0}) tag. fields tag ended) c.in_ok-stamp.rest.now c.in_err-tag.field-0.0 c.in_err-tag.ensures.read))

pub returns-in_err-message : goal.returns-in_err-message
returns-in_err-message c =
    let p = err_from_is_err_and c.from_residual-in_err-message.result c.from_residual-in_err-message.ensures.1 in
    let range = c.in_ok-tag.ensures.range in
    let tag = c.in_ok-tag.tag in
    let byte : c.in_ok-stamp.rest.now ≡ (tag ∷ []) ++ c.in_ok-tag.rest.now = c.in_ok-tag.ensures.read ∙ ap (λ (x : List ℕ). x ++ c.in_ok-tag.rest.now) (byte_is tag (omega (arith, range.1))) in
    rw (p.1, p.2) (stopped_behind (λ (_ : Unit {0}). envelope ended) (λ (_ : Unit {0}). tagged ended) c.args.bytes.now (amount_code c.in_ok-stamp.stamp) c.in_ok-stamp.rest.now c.in_err-message.field-0.0 c.in_ok-stamp.ensures.read
    (λ _. amount_passes c.in_ok-stamp.stamp c.in_ok-stamp.rest.now c.in_ok-stamp.ensures.range (tagged ended))
    (stopped_behind (λ (_ : Unit {0}). tagged ended) (λ (_ : Unit {0}). fields tag ended) c.in_ok-stamp.rest.now (tag ∷ []) c.in_ok-tag.rest.now c.in_err-message.field-0.0 byte
    (λ _. tag_passes tag c.in_ok-tag.rest.now range.0 range.1 ended)
    (stopped_first (fields tag) (λ (_ : Unit {0}). ended) c.in_ok-tag.rest.now c.in_err-message.field-0.0 c.in_err-message.ensures)))

pub returns-then-not-is_empty : goal.returns-then-not-is_empty
returns-then-not-is_empty c =
    let told = c.in_ok-message.ensures in
    refused_behind (c.in_ok-stamp.stamp, c.in_ok-message.message) c.args.bytes.now c.in_ok-message.rest.now (record { stamp = c.in_ok-stamp.ensures.range; message = told.2; context = told.3 })
    (whole_behind c.in_ok-stamp.stamp c.in_ok-tag.tag c.in_ok-message.message c.args.bytes.now c.in_ok-stamp.rest.now c.in_ok-tag.rest.now c.in_ok-message.rest.now c.in_ok-stamp.ensures.read c.in_ok-tag.ensures.read told.0 told.1 c.in_ok-tag.ensures.range.1)
    (not_empty (length c.in_ok-message.rest.now) c.if-not-is_empty.ensures)
