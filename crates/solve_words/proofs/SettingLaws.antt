-- Laws of options, pairs and settings.
use Rattle.std.proofs.Common.{◌≡◌, ℕ, ◌≤◌, Bool, true, false, cond, List, [], ◌∷◌, ◌++◌, find, bytes_eq, All, Option, Some, None, ◌+◌, ◌*◌, not, length, slice_get, position, unwrap_or, option_map, option_and_then, refl, ap, sym, ◌∙◌, subst}
use Rattle.std.proofs.lemmas.List.{length-map}
use Rattle.std.specs.Option.{option_or}
use Rattle.std.specs.List.{list_any}
use Rattle.std.proofs.lemmas.Slice.Eq.{bytes_eq-Decides}
use Rattle.solve_words.proofs.ListLaws.{list_any-map, find-passes, find-all, position-map}
use Rattle.solve_words.specs.declared.options.WordOption.{WordOption}
use Rattle.solve_words.specs.declared.options.WordOption.TheVariants.{Method, Certificate, Format, After, Number}
use Rattle.solve_words.specs.declared.options.Quantity.{Quantity}
use Rattle.solve_words.specs.declared.options.Quantity.TheVariants.{Workers, Error, Budget, Nodes, Seed, Vars, Size, Degree, Top, Cells}
use Rattle.solve_words.specs.declared.verb.Verb.{Verb}
use Rattle.solve_words.specs.declared.settings.Setting.{Setting}
use Rattle.solve_words.specs.declared.settings.Setting.TheVariants as settings
use Rattle.solve_words.specs.declared.fault.WordKind.TheVariants.{Twice, NotWith}
use Rattle.solve_words.specs.declared.fault.WordFault.{WordFault}
use Rattle.solve_words.specs.declared.fault.WordFault.TheVariants.{Bad, NoMemory}
use Rattle.solve_words.specs.Options.{word_of, option_named, options, IsNumberOf}
use Rattle.solve_words.specs.Standing.{belongs_to, stands_with}
use Rattle.solve_words.specs.Command.{is_refused}
use Rattle.solve_words.specs.declared.command.Choice.{Choice}
use Rattle.solve_words.specs.Settings.{pair_of, pairs_of, option_of, setting_by, setting_of}
use Rattle.solve_words.specs.Faults.{given_fault, option_fault, pair_fault, pairs_fault}
use Rattle.solve_words.specs.Reading.{words_of, IsWithin, IsFault}

-- the option that a word names has that word
pub word_of-option_named :
    (word : List ℕ) (option : WordOption) → option_named word ≡ Some option
    → word_of option ≡ word
word_of-option_named word option h =
    (bytes_eq-Decides (word_of option) word).0 (find-passes (λ o. bytes_eq (word_of o) word) options option h)

-- the word of an option names it
pub option_named-word_of : (option : WordOption) → option_named (word_of option) ≡ Some option
option_named-word_of Method = refl
option_named-word_of Certificate = refl
option_named-word_of Format = refl
option_named-word_of After = refl
option_named-word_of (Number Workers) = refl
option_named-word_of (Number Error) = refl
option_named-word_of (Number Budget) = refl
option_named-word_of (Number Nodes) = refl
option_named-word_of (Number Seed) = refl
option_named-word_of (Number Vars) = refl
option_named-word_of (Number Size) = refl
option_named-word_of (Number Degree) = refl
option_named-word_of (Number Top) = refl
option_named-word_of (Number Cells) = refl

-- options with one word are one
pub same_option : (a b : WordOption) → bytes_eq (word_of a) (word_of b) ≡ true → a ≡ b
same_option a b h =
    let words : word_of a ≡ word_of b = (bytes_eq-Decides (word_of a) (word_of b)).0 h in
    let named : Some a ≡ Some b = sym (option_named-word_of a) ∙ ap option_named words ∙ option_named-word_of b in
    cc

-- a number that is given for an option is no greater than the option takes
pub given-within :
    (xs : List Setting) (word : List ℕ) (quantity named : Quantity) (number : ℕ)
    → All IsWithin xs → word ≡ word_of (Number quantity)
    → find (λ s. bytes_eq (word_of (option_of s)) word) xs ≡ Some (settings.Number named number)
    → IsNumberOf quantity number
given-within xs word quantity named number all is found =
    let within : IsNumberOf named number = find-all IsWithin (λ s. bytes_eq (word_of (option_of s)) word) xs (settings.Number named number) all found in
    let passes : bytes_eq (word_of (Number named)) word ≡ true = find-passes (λ s. bytes_eq (word_of (option_of s)) word) xs (settings.Number named number) found in
    let same : Number named ≡ Number quantity = same_option (Number named) (Number quantity) (subst (λ w. bytes_eq (word_of (Number named)) w ≡ true) is passes) in
    let one : named ≡ quantity = cc in
    subst (λ (q : Quantity). IsNumberOf q number) one within

-- the fault of a pair goes by the option that its name names
pub pair_fault-named :
    (verb : Verb) (earlier : List Setting) (name : List ℕ) (value : Option (List ℕ)) (option : Option WordOption)
    → option_named name ≡ option
    → pair_fault verb (words_of earlier) (pair_of name value) ≡ option_fault verb (words_of earlier) (2 + 2 * length earlier) (pair_of name value) option
pair_fault-named verb earlier name value option h =
    ap (λ n. option_fault verb (words_of earlier) (2 + 2 * n) (pair_of name value) (option_named name)) (length-map earlier (λ s. word_of (option_of s)))
    ∙ ap (λ (o : Option WordOption). option_fault verb (words_of earlier) (2 + 2 * length earlier) (pair_of name value) o) h

refused : {A : Type 0} (b : Bool) (x y : A) → b ≡ false → cond (not b) x y ≡ x
refused false x y h = refl
refused true x y h = cc

taken : {A : Type 0} (b : Bool) (x y : A) → b ≡ true → cond (not b) x y ≡ y
taken true x y h = refl
taken false x y h = cc

-- an option that the command does not take
pub pair_fault-refused :
    (verb : Verb) (earlier : List Setting) (name : List ℕ) (value : Option (List ℕ)) (option : WordOption)
    → option_named name ≡ Some option → belongs_to verb option ≡ false
    → pair_fault verb (words_of earlier) (pair_of name value) ≡ Some (Bad (2 + 2 * length earlier) NotWith)
pair_fault-refused verb earlier name value option named belongs =
    pair_fault-named verb earlier name value (Some option) named ∙ refused (belongs_to verb option) _ _ belongs

-- an option that the command takes is faulty where it came before, and else as its value is
pub pair_fault-taken :
    (verb : Verb) (earlier : List Setting) (name : List ℕ) (value : Option (List ℕ)) (option : WordOption) (before : Bool)
    → option_named name ≡ Some option → belongs_to verb option ≡ true
    → list_any (λ s. bytes_eq (word_of (option_of s)) name) earlier ≡ before
    → pair_fault verb (words_of earlier) (pair_of name value) ≡ cond before (Some (Bad (2 + 2 * length earlier) Twice)) (given_fault (2 + 2 * length earlier) option value)
pair_fault-taken verb earlier name value option before named belongs came =
    let any : list_any (λ word. bytes_eq word name) (words_of earlier) ≡ before = list_any-map (λ s. word_of (option_of s)) (λ word. bytes_eq word name) earlier ∙ came in
    pair_fault-named verb earlier name value (Some option) named
    ∙ taken (belongs_to verb option) _ _ belongs
    ∙ ap (λ b. cond b (Some (Bad (2 + 2 * length earlier) Twice)) (given_fault (2 + 2 * length earlier) option value)) any

-- what a pair with a value sets
pub setting_of-named :
    (name value : List ℕ) (option : WordOption) → option_named name ≡ Some option
    → setting_of (pair_of name (Some value)) ≡ setting_by option value
setting_of-named name value option named = ap (λ o. option_and_then (λ p. option_and_then (setting_by p) (Some value)) o) named

-- the fault of the first pair is the first fault
pub pairs_fault-first :
    (verb : Verb) (names : List (List ℕ)) (name : List ℕ) (behind : List (List ℕ)) (fault : WordFault)
    → pair_fault verb names (pair_of name (slice_get behind 0)) ≡ Some fault
    → pairs_fault verb names (pairs_of (name ∷ behind)) ≡ Some fault
pairs_fault-first verb names name [] fault h = ap (λ f. option_or f None) h
pairs_fault-first verb names name (value ∷ words) fault h = ap (λ f. option_or f (pairs_fault verb (names ++ name ∷ []) (pairs_of words))) h

pub IsFault-same :
    (fault : WordFault) (first : Option WordFault) → first ≡ Some fault → IsFault fault first
IsFault-same NoMemory first h = tt
IsFault-same (Bad at kind) first h = h

-- an option's word is refused where the option does not stand with the method
pub is_refused-word_of :
    (method : Choice) (option : WordOption)
    → is_refused method (word_of option) ≡ not (stands_with method option)
is_refused-word_of method option =
    ap (λ o. unwrap_or (option_map (λ p. not (stands_with method p)) o) false) (option_named-word_of option)

-- the first setting that is refused stands where the first pair with such a name does
pub position-refused :
    (method : Choice) (xs : List Setting) (names : List (List ℕ)) → words_of xs ≡ names
    → position (is_refused method) names ≡ position (λ s. not (stands_with method (option_of s))) xs
position-refused method xs names same =
    sym (ap (position (is_refused method)) same)
    ∙ position-map (λ s. word_of (option_of s)) (is_refused method) (λ s. not (stands_with method (option_of s))) (λ s. is_refused-word_of method (option_of s)) xs
