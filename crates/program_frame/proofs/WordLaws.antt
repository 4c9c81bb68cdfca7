-- What words give, pair by pair.
use Rattle.std.proofs.Common.{◌≡◌, ℕ, ◌+◌, List, ◌∷◌, Result, Ok, Err, MatchResult, sym, ap, subst, ◌∙◌}
use Rattle.solve_words.specs.declared.fault.WordFault.{WordFault}
use Rattle.program_frame.specs.Settings.{given_to}
use Rattle.program_frame.specs.declared.setting.Setting.{Setting}
use Rattle.program_frame.specs.Words.{place_behind, unless_fault, option_told, value_told, settings_told}
use Rattle.program_frame.specs.declared.setting.Takes.{Takes}
use Rattle.program_frame.specs.declared.setting.OptionValue.{OptionValue}

-- what follows from what the option takes that a word names
abbrev value_next : List Setting → Takes → List ℕ → List ℕ → List (List ℕ) → Result (List Setting) WordFault
value_next settings takes name word words =
    unless_fault (value_told (place_behind settings + 1) takes word) (λ value. settings_told (given_to name value settings) words)

-- after a pair without a fault, the words go on with its value
pub pair-taken : (settings : List Setting) (words behind rest : List (List ℕ)) (name word : List ℕ) (takes : Takes) (value : OptionValue)
    → words ≡ name ∷ behind → behind ≡ word ∷ rest → option_told (place_behind settings) settings name ≡ Ok takes → value_told (place_behind settings + 1) takes word ≡ Ok value
    → settings_told (given_to name value settings) rest ≡ settings_told settings words
pair-taken settings words behind rest name word takes value cut more told good =
    sym (ap (settings_told settings) (cut ∙ ap (λ (ws : List (List ℕ)). name ∷ ws) more)
    ∙ ap (λ (r : Result Takes WordFault). unless_fault r (λ t. value_next settings t name word rest)) told
    ∙ ap (λ (r : Result OptionValue WordFault). unless_fault r (λ v. settings_told (given_to name v settings) rest)) good)

-- the result of a call on the later words is that on all words, if these give the same
pub told-so : (result : Result (Unit {0}) WordFault) (new : List Setting) (later all : Result (List Setting) WordFault) → later ≡ all
    → MatchResult result (λ _. later ≡ Ok new) (λ fault. later ≡ Err fault) → MatchResult result (λ _. all ≡ Ok new) (λ fault. all ≡ Err fault)
told-so result new later all same is =
    subst (λ (r : Result (List Setting) WordFault). MatchResult result (λ _. r ≡ Ok new) (λ fault. r ≡ Err fault)) same is
