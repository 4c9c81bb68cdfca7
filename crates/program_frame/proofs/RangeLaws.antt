-- The numbers that words give are in the ranges of their options.
use Rattle.std.proofs.Common.{◌≡◌, ℕ, ◌+◌, ◌≤◌, ◌||◌, nat_lt, Bool, true, false, List, [], ◌∷◌, Option, Some, None, is_some, Result, Ok, Err, IfSome, map, bytes_eq, cond, option_and_then, unwrap_or, if◌then◌else◌, refl, sym, ap, subst, ◌∙◌, arith}
use Rattle.std.proofs.lemmas.Bool.Decides.{nat_tests}
use Rattle.dcop_base.specs.NumberWord.{number_of}
use Rattle.solve_words.specs.Names.{format_named}
use Rattle.solve_words.specs.declared.command.Format as forms
use Rattle.solve_words.specs.declared.fault.WordFault.{WordFault}
use Rattle.solve_words.specs.declared.fault.WordFault.TheVariants.{Bad}
use Rattle.solve_words.specs.declared.fault.WordKind.TheVariants.{OutOfRange, Twice, NoValue}
use Rattle.program_frame.specs.Settings.{word_of, setting_named, given_to, number_in, number_given}
use Rattle.program_frame.specs.Words.{place_behind, unless_fault, option_new, option_told, number_within, format_known, value_told, settings_told}
use Rattle.program_frame.specs.declared.setting.OptionName.{OptionName}
use Rattle.program_frame.specs.declared.setting.Takes.{Takes}
use Rattle.program_frame.specs.declared.setting.Takes.TheVariants as takes
use Rattle.program_frame.specs.declared.setting.OptionValue.{OptionValue}
use Rattle.program_frame.specs.declared.setting.OptionValue.TheVariants.{Number, Format}
use Rattle.program_frame.specs.declared.setting.Setting.{Setting}

-- a number within these limits
abbrev pub IsBetween : ℕ → ℕ → ℕ → Type 0
IsBetween least most number = (least ≤ number) × (number ≤ most)

-- a value is one that an option takes
abbrev Fits : Takes → OptionValue → Type 0
Fits (takes.Number least most) (Number number) = IsBetween least most number
Fits (takes.Number least most) (Format format) = ⊥
Fits takes.Format (Number number) = ⊥
Fits takes.Format (Format format) = Unit {0}

-- the value of an option is one that it takes
abbrev pub IsWithin : Setting → Type 0
IsWithin setting = IfSome setting.value (Fits setting.takes)

-- each value is one that its option takes
abbrev pub AreWithin : List Setting → Type 0
AreWithin [] = Unit {0}
AreWithin (setting ∷ later) = IsWithin setting × AreWithin later

-- what options take, by their names
abbrev pub takes_in : List ℕ → List (OptionName × Takes) → Option Takes
takes_in word [] = None
takes_in word (t ∷ later) = cond (bytes_eq (word_of t.0) word) (Some t.1) (takes_in word later)

-- the names of options, and what they take
abbrev pub shape : List Setting → List (OptionName × Takes)
shape settings = map (λ s. (s.name, s.takes)) settings

-- what a next step made of a value, if there was no fault
on-ok : {A B : Type 0} (r : Result A WordFault) (next : A → Result B WordFault) (b : B) → unless_fault r next ≡ Ok b → (a : A) × (r ≡ Ok a) × (next a ≡ Ok b)
on-ok (Ok a) next b is = (a, refl, is)
on-ok (Err fault) next b is = cc

tested-fits : (at least most number : ℕ) (test : Bool) (value : OptionValue) → nat_lt number least || nat_lt most number ≡ test
    → unless_fault (if test then Err (Bad at OutOfRange) else Ok number) (λ (n : ℕ). Ok (Number n)) ≡ Ok value → Fits (takes.Number least most) value
tested-fits at least most number true value tested is = cc
tested-fits at least most number false value tested is =
    let same : Number number ≡ value = cc is in
    subst (Fits (takes.Number least most)) same (let t = tested in grind (arith, nat_tests), let t = tested in grind (arith, nat_tests))

number-fits : (at least most : ℕ) (number : Option ℕ) (value : OptionValue) → unless_fault (number_within at least most number) (λ (n : ℕ). Ok (Number n)) ≡ Ok value → Fits (takes.Number least most) value
number-fits at least most None value is = cc
number-fits at least most (Some number) value is = tested-fits at least most number (nat_lt number least || nat_lt most number) value refl is

format-fits : (at : ℕ) (format : Option forms.Format) (value : OptionValue) → unless_fault (format_known at format) (λ (f : forms.Format). Ok (Format f)) ≡ Ok value → Fits takes.Format value
format-fits at None value is = cc
format-fits at (Some format) value is =
    let same : Format format ≡ value = cc is in
    subst (Fits takes.Format) same tt

-- the value that a word gives is one that the option takes
value-fits : (at : ℕ) (taken : Takes) (word : List ℕ) (value : OptionValue) → value_told at taken word ≡ Ok value → Fits taken value
value-fits at (takes.Number least most) word value is = number-fits at least most (number_of word) value is
value-fits at takes.Format word value is = format-fits at (format_named word) value is

untested : (test : Bool) (fault : WordFault) (t taken : Takes) → (if test then Err fault else Ok t) ≡ Ok taken → t ≡ taken
untested true fault t taken is = cc
untested false fault t taken is = cc is

-- what the option takes that a word names
named-takes : (at : ℕ) (option : Option Setting) (taken : Takes) → option_new at option ≡ Ok taken → (setting : Setting) × (option ≡ Some setting) × (setting.takes ≡ taken)
named-takes at None taken is = cc
named-takes at (Some setting) taken is = (setting, refl, untested (is_some setting.value) (Bad at Twice) setting.takes taken is)

module _ (word : List ℕ) (value : OptionValue) where
  -- a value that its option takes keeps all options within their ranges
  within-step : (s : Setting) (ss : List Setting) (setting : Setting) (test : Bool) → cond test (Some s) (setting_named word ss) ≡ Some setting → Fits setting.takes value → IsWithin s → AreWithin ss
      → (setting_named word ss ≡ Some setting → AreWithin (given_to word value ss)) → AreWithin (if test then record s { value = Some value } ∷ ss else s ∷ given_to word value ss)
  within-step s ss setting true named fits first rest later =
      let same : setting ≡ s = sym (cc named) in
      (subst (λ (t : Setting). Fits t.takes value) same fits, rest)
  within-step s ss setting false named fits first rest later = (first, later named)

  given-within : (settings : List Setting) (setting : Setting) → setting_named word settings ≡ Some setting → Fits setting.takes value → AreWithin settings → AreWithin (given_to word value settings)
  given-within [] setting named fits all = tt
  given-within (s ∷ ss) setting named fits all =
      within-step s ss setting (bytes_eq (word_of s.name) word) named fits all.0 all.1 (λ later. given-within ss setting later fits all.1)

  shape-step : (s : Setting) (ss : List Setting) (test : Bool) → shape (given_to word value ss) ≡ shape ss
      → shape (if test then record s { value = Some value } ∷ ss else s ∷ given_to word value ss) ≡ shape (s ∷ ss)
  shape-step s ss true same = refl
  shape-step s ss false same = ap (λ (ts : List (OptionName × Takes)). (s.name, s.takes) ∷ ts) same

  -- no option changes its name or what it takes
  given-shape : (settings : List Setting) → shape (given_to word value settings) ≡ shape settings
  given-shape [] = refl
  given-shape (s ∷ ss) = shape-step s ss (bytes_eq (word_of s.name) word) (given-shape ss)

-- words without a fault keep all options within their ranges
pub told-within : (settings : List Setting) (words : List (List ℕ)) (new : List Setting) → settings_told settings words ≡ Ok new → AreWithin settings → AreWithin new × (shape new ≡ shape settings)
told-within settings [] new is all =
    let same : settings ≡ new = cc is in
    (subst AreWithin same all, ap shape (sym same))
told-within settings (name ∷ []) new is all =
    let taken = on-ok (option_told (place_behind settings) settings name) (λ (t : Takes). Err (Bad (place_behind settings) NoValue)) new is in
    let none : Err (Bad (place_behind settings) NoValue) ≡ Ok new = taken.2 in
    cc none
told-within settings (name ∷ word ∷ words) new is all =
    let taken = on-ok (option_told (place_behind settings) settings name)
    (λ (t : Takes). unless_fault (value_told (place_behind settings + 1) t word) (λ (v : OptionValue). settings_told (given_to name v settings) words)) new is in
    let given = on-ok (value_told (place_behind settings + 1) taken.0 word) (λ (v : OptionValue). settings_told (given_to name v settings) words) new taken.2 in
    let named = named-takes (place_behind settings) (setting_named name settings) taken.0 taken.1 in
    let fits = value-fits (place_behind settings + 1) taken.0 word given.0 given.1 in
    let within = given-within name given.0 settings named.0 named.1 (subst (λ (t : Takes). Fits t given.0) (sym named.2) fits) all in
    let rest = told-within (given_to name given.0 settings) words new given.2 within in
    (rest.0, rest.1 ∙ given-shape name given.0 settings)

module _ (word : List ℕ) (least most : ℕ) where
  value-between : (taken : Takes) (value : Option OptionValue) → taken ≡ takes.Number least most → IfSome value (Fits taken) → IfSome (option_and_then number_in value) (IsBetween least most)
  value-between taken None same fits = tt
  value-between taken (Some (Number number)) same fits = subst (λ (t : Takes). Fits t (Number number)) same fits
  value-between taken (Some (Format format)) same fits = tt

  between-step : (s : Setting) (ss : List Setting) (test : Bool) → IsWithin s → cond test (Some s.takes) (takes_in word (shape ss)) ≡ Some (takes.Number least most)
      → (takes_in word (shape ss) ≡ Some (takes.Number least most) → IfSome (option_and_then number_in (option_and_then (λ (t : Setting). t.value) (setting_named word ss))) (IsBetween least most))
      → IfSome (option_and_then number_in (option_and_then (λ (t : Setting). t.value) (cond test (Some s) (setting_named word ss)))) (IsBetween least most)
  between-step s ss true fits taken later =
      let same : s.takes ≡ takes.Number least most = cc taken in
      value-between s.takes s.value same fits
  between-step s ss false fits taken later = later taken

  between : (settings : List Setting) → AreWithin settings → takes_in word (shape settings) ≡ Some (takes.Number least most)
      → IfSome (option_and_then number_in (option_and_then (λ (t : Setting). t.value) (setting_named word settings))) (IsBetween least most)
  between [] all taken = cc
  between (s ∷ ss) all taken = between-step s ss (bytes_eq (word_of s.name) word) all.0 taken (between ss all.1)

-- the number that is given for an option is in the option's range
pub number-between : (base settings : List Setting) (name : OptionName) (least most : ℕ) → AreWithin settings × (shape settings ≡ shape base) → takes_in (word_of name) (shape base) ≡ Some (takes.Number least most)
    → IfSome (number_given name settings) (IsBetween least most)
number-between base settings name least most told taken =
    between (word_of name) least most settings told.0 (ap (takes_in (word_of name)) told.1 ∙ taken)

-- so is the number or a default in that range
pub or-between : (least most default : ℕ) (number : Option ℕ) → IfSome number (IsBetween least most) → IsBetween least most default → IsBetween least most (unwrap_or number default)
or-between least most default None given fits = fits
or-between least most default (Some number) given fits = given
