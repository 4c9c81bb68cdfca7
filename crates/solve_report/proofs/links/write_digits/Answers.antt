use Rattle.std.proofs.Common.{◌≡◌, ◌++◌, false, Option, subst, ap, ◌∙◌, List, ℕ}
use Rattle.std.specs.Option.{option_map}
use Rattle.std.specs.Fmt.{AppendsText, padded_integral, shown_prefix, radix_prefix, digits}
use Rattle.std.specs.String.{string_bytes}
use Rattle.std.proofs.lemmas.Fmt.{hex_byte}
use Rattle.solve_report.proofs.links.write_digits.Goals as goal

pub returns : goal.returns
returns c =
    let told = subst (λ (o : Option (List ℕ)). AppendsText (string_bytes c.args.text.now) (string_bytes c.write.new.self)
    (option_map (padded_integral c.laid_out.result false (shown_prefix c.laid_out.result (radix_prefix c.in_radix.result.base))) o)) c.in_radix.ensures c.in_ok-write.ensures.bytes in
    let laid = subst (λ s. string_bytes c.write.new.self ≡ string_bytes c.args.text.now ++ padded_integral s false (shown_prefix s (radix_prefix c.in_radix.result.base)) (digits 16 false c.args.byte)) c.laid_out.ensures told in
    laid ∙ ap (λ (text : List ℕ). string_bytes c.args.text.now ++ text) (hex_byte false c.args.byte c.ranges.byte.fits)
