-- Laws of the answer to words, over plain lists.
use Rattle.std.proofs.Common.{◌≡◌, ℕ, ◌+◌, ◌*◌, List, ◌∷◌, Option, Some, not, position, option_map, sym, ap, ◌∙◌}
use Rattle.std.specs.Option.{option_or}
use Rattle.solve_words.specs.declared.command.Choice.{Choice}
use Rattle.solve_words.specs.declared.verb.Verb.{Verb}
use Rattle.solve_words.specs.declared.settings.Setting.{Setting}
use Rattle.solve_words.specs.declared.fault.WordKind.TheVariants.{NotWith}
use Rattle.solve_words.specs.declared.fault.WordFault.TheVariants.{Bad}
use Rattle.solve_words.specs.Names.{verb_named}
use Rattle.solve_words.specs.Standing.{stands_with}
use Rattle.solve_words.specs.Settings.{pairs_of, names_of, settings_of, option_of}
use Rattle.solve_words.specs.Reading.{IsRead}
use Rattle.solve_words.specs.Values.{method_in}
use Rattle.solve_words.specs.Command.{command_of, is_refused, method_fault, answer_unless, answer_behind, answer_to}
use Rattle.solve_words.proofs.SettingLaws.{position-refused}

-- words whose pairs have no fault are answered by the first setting that is refused, or none
pub answer_to-read :
    (words : List (List ℕ)) (first : List ℕ) (rest : List (List ℕ)) (verb : Verb) (method : Choice) (xs : List Setting) (refused : Option ℕ)
    → words ≡ first ∷ rest → Some verb ≡ verb_named first → IsRead verb rest xs
    → method ≡ method_in xs
    → refused ≡ position (λ s. not (stands_with method (option_of s))) xs
    → answer_to words ≡ answer_unless (option_map (λ k. Bad (2 + 2 * k) NotWith) refused) (command_of verb xs)
answer_to-read words first rest verb method xs refused cut named read chosen found =
    let pairs = pairs_of rest in
    let place : position (is_refused (method_in xs)) (names_of pairs) ≡ refused =
    position-refused (method_in xs) xs (names_of pairs) read.names
    ∙ ap (λ (m : Choice). position (λ s. not (stands_with m (option_of s))) xs) (sym chosen)
    ∙ sym found in
    ap answer_to cut
    ∙ ap (answer_behind rest) (sym named)
    ∙ ap (λ f. answer_unless (option_or f (method_fault pairs)) (command_of verb (settings_of pairs))) read.sound
    ∙ ap (λ (s : List Setting). answer_unless (option_map (λ k. Bad (2 + 2 * k) NotWith) (position (is_refused (method_in s)) (names_of pairs))) (command_of verb s)) (sym read.items)
    ∙ ap (λ o. answer_unless (option_map (λ k. Bad (2 + 2 * k) NotWith) o) (command_of verb xs)) place
