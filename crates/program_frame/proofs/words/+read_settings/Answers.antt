use Rattle.std.proofs.Common.{◌≡◌, ℕ, ◌+◌, List, ◌∷◌, String, Global, Ok, map, string_bytes, sym, ap, ◌∙◌}
use Rattle.program_frame.specs.Settings.{given_to}
use Rattle.program_frame.specs.declared.setting.Setting.{Setting}
use Rattle.program_frame.specs.Words.{place_behind, option_told, value_told, settings_told}
use Rattle.program_frame.proofs.WordLaws.{pair-taken, told-so}
use Rattle.program_frame.proofs.words.+read_settings.Goals as goal

pub returns : goal.returns
returns t c =
    let settings = c.args.settings.now in
    let takes = c.in_ok-takes.takes in
    let given = c.in_ok-value.value in
    let name = string_bytes c.in-Some.name.now in
    let word = string_bytes c.in-Some-split_first.word.now in
    let words = map (λ w. string_bytes w) c.args.words.now in
    let behind = map (λ w. string_bytes w) c.in-Some.behind.now in
    let rest = map (λ w. string_bytes w) c.in-Some-split_first.rest.now in
    let at = c.place_behind-at.ensures in
    let cut : words ≡ name ∷ behind = ap (λ (ws : List (String Global)). map (λ w. string_bytes w) ws) c.in-Some.ensures.cases.0 in
    let more : behind ≡ word ∷ rest = ap (λ (ws : List (String Global)). map (λ w. string_bytes w) ws) c.in-Some-split_first.ensures.cases.0 in
    let told : option_told (place_behind settings) settings name ≡ Ok takes =
    sym (c.in_ok-takes.ensures ∙ ap (λ (k : ℕ). option_told k settings c.as_str.result.now) at ∙ ap (option_told (place_behind settings) settings) c.as_str.ensures.value) in
    let good : value_told (place_behind settings + 1) takes word ≡ Ok given =
    sym (c.in_ok-value.ensures ∙ ap (λ (k : ℕ). value_told (k + 1) takes c.as_str-2.result.now) at ∙ ap (value_told (place_behind settings + 1) takes) c.as_str-2.ensures.value) in
    let new : c.give.new.settings ≡ given_to name given settings = c.give.ensures ∙ ap (λ (n : List ℕ). given_to n given settings) c.as_str-3.ensures.value in
    let all : settings_told c.give.new.settings rest ≡ settings_told settings words =
    ap (λ (ss : List Setting). settings_told ss rest) new ∙ pair-taken settings words behind rest name word takes given cut more told good in
    told-so c.read_settings.result c.read_settings.new.settings (settings_told c.give.new.settings rest) (settings_told settings words) all c.read_settings.ensures
