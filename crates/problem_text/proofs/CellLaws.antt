-- Numbers among words, as they are read.
use Rattle.std.proofs.Common.{◌≡◌, ℕ, ◌+◌, ◌≤◌, suc, Bool, true, false, not, List, [], ◌∷◌, ◌++◌, length, take, drop, Option, Some, None, max, refl, sym, ap, ◌∙◌, append_assoc, arith, cond, ◌||◌, nat_lt, ◌==◌, if◌then◌else◌}
use Rattle.std.specs.List.{fold, list_any, filter}
use Rattle.std.specs.Option.{option_map}
use Rattle.std.proofs.Math.Seq.{take-length}
use Rattle.std.proofs.lemmas.List.{take-append-le, length-append}
use Rattle.std.proofs.lemmas.List.Sums.{fold-append}
use Rattle.std.proofs.lemmas.Bool.Decides.{nat_tests}
use Rattle.dcop_base.specs.Table.{CostTable, product, greatest}
use Rattle.dcop_base.specs.Faults.{cell_count, greatest_sum}
use Rattle.dcop_base.specs.Limits.{amount_limit, cost_limit, cell_limit}
use Rattle.problem_text.specs.Lines.{words, between_blanks, has_some, is_blank, onto_first}
use Rattle.problem_text.specs.Tables.{onto, cells_fault}
use Rattle.problem_text.specs.Cells.{summary}
use Rattle.problem_text.specs.declared.fault.TextKind.{TextKind}
use Rattle.problem_text.specs.declared.fault.TextKind.TheVariants.{Problem}
use Rattle.problem_text.specs.declared.cell_words.Summary.{Summary}

-- a list behind one that was read
abbrev pub behind : List ℕ → Option (List ℕ) → Option (List ℕ)
behind xs (Some ys) = Some (xs ++ ys)
behind xs None = None

pub behind-nil : (o : Option (List ℕ)) → behind [] o ≡ o
behind-nil None = refl
behind-nil (Some ys) = refl

pub behind-push : (xs : List ℕ) (x : ℕ) (o : Option (List ℕ)) → behind (xs ++ (x ∷ [])) o ≡ behind xs (onto (Some x) o)
behind-push xs x None = refl
behind-push xs x (Some ys) = ap (λ zs. Some zs) (append_assoc xs (x ∷ []) ys)

pub behind-is : (xs : List ℕ) (o : Option (List ℕ)) → behind xs o ≡ option_map (λ ys. xs ++ ys) o
behind-is xs None = refl
behind-is xs (Some ys) = refl

-- what is told of cells of which so many, with this greatest, were read
abbrev pub told : ℕ → ℕ → Option (List ℕ) → Option Summary
told count greatest (Some cells) = Some (record { count = count + length cells; greatest = fold max greatest cells })
told count greatest None = None

pub told-more : (count greatest x : ℕ) (o : Option (List ℕ)) → told (count + 1) (max greatest x) o ≡ told count greatest (onto (Some x) o)
told-more count greatest x None = refl
told-more count greatest x (Some ys) = let e : (count + 1) + length ys ≡ count + suc (length ys) = omega arith in rw e refl

-- what is told of all, where some were read
pub told-read : (xs : List ℕ) (count most : ℕ) (o : Option (List ℕ)) → count ≡ length xs → most ≡ greatest xs → told count most o ≡ told 0 0 (behind xs o)
told-read xs count most None many greatest_is = refl
told-read xs count most (Some ys) many greatest_is =
    let lengths : count + length ys ≡ 0 + length (xs ++ ys) = omega (arith, many, length-append xs ys) in
    let most_is : fold max most ys ≡ fold max 0 (xs ++ ys) = ap (λ n. fold max n ys) greatest_is ∙ sym (fold-append max 0 xs ys) in
    rw (lengths, most_is) refl

-- numbers that were written into the room of a list, of which the rest is cut off
pub kept-short : (room : ℕ) (new old items : List ℕ) (count : ℕ) → length new ≡ room → items ≡ take count (take room (new ++ drop (length new) old)) → items ≡ take count new
kept-short room new old items count size is =
    is ∙ ap (λ xs. take count xs) (ap (λ n. take n (new ++ drop (length new) old)) (sym size) ∙ take-append-le (length new) new (drop (length new) old) (omega arith) ∙ take-length new)

lt-max : (m a c : ℕ) → nat_lt m (max a c) ≡ nat_lt m a || nat_lt m c
lt-max m a c = grind (arith, nat_tests)

lt-zero : (m : ℕ) → nat_lt m 0 ≡ false
lt-zero m = grind (arith, nat_tests)

regroup : (a b c d : Bool) → a ≡ b || c → a || d ≡ b || (c || d)
regroup a true c d h = rw h refl
regroup a false c d h = rw h refl

exceed-from : (m a : ℕ) (cells : List ℕ) → nat_lt m (fold max a cells) ≡ nat_lt m a || list_any (λ c. nat_lt m c) cells
exceed-from m a [] = grind (arith, nat_tests)
exceed-from m a (c ∷ cs) = exceed-from m (max a c) cs ∙ regroup (nat_lt m (max a c)) (nat_lt m a) (nat_lt m c) (list_any (λ c. nat_lt m c) cs) (lt-max m a c)

-- a cell exceeds a limit exactly where the greatest does
pub exceed-greatest : (m : ℕ) (cells : List ℕ) → list_any (λ c. nat_lt m c) cells ≡ nat_lt m (greatest cells)
exceed-greatest m cells = sym (exceed-from m 0 cells ∙ ap (λ t. t || list_any (λ c. nat_lt m c) cells) (lt-zero m))

-- the tests of a further table's cells, by what is told of them
abbrev pub fault_told : List CostTable → ℕ → Summary → Option TextKind
fault_told earlier product s =
    if not (s.count == product) then Some (Problem 6)
    else (if nat_lt cost_limit s.greatest then Some (Problem 7)
    else (if nat_lt cell_limit (cell_count earlier + s.count) then Some (Problem 9)
    else (if nat_lt amount_limit (greatest_sum earlier + s.greatest) then Some (Problem 8)
    else None)))

pub fault-told : (earlier : List CostTable) (t : CostTable) (sizes : List ℕ) (s : Summary) → t.sizes ≡ sizes → summary t.cells ≡ s → cells_fault earlier t ≡ fault_told earlier (product sizes) s
fault-told earlier t sizes s same told = rw (← same, ← told, exceed-greatest cost_limit t.cells) refl

words-tail : (word : List ℕ) (ws : List (List ℕ)) → length (filter has_some ws) ≤ length (filter has_some (word ∷ ws))
words-tail [] ws = omega arith
words-tail (b ∷ bs) ws = omega arith

onto-short : (b n : ℕ) (pieces : List (List ℕ)) → length (filter has_some pieces) ≤ n → length (filter has_some (onto_first b pieces)) ≤ suc n
onto-short b n [] h = omega arith
onto-short b n (p ∷ ps) h = let t : length (filter has_some ps) ≤ length (filter has_some (p ∷ ps)) = words-tail p ps in omega arith

short-step : (t : Bool) (b : ℕ) (bs : List ℕ) → length (words bs) ≤ length bs → length (filter has_some (cond t ([] ∷ between_blanks bs) (onto_first b (between_blanks bs)))) ≤ suc (length bs)
short-step true b bs h = omega arith
short-step false b bs h = onto-short b (length bs) (between_blanks bs) h

-- there are no more words than bytes
pub words-short : (bytes : List ℕ) → length (words bytes) ≤ length bytes
words-short [] = omega arith
words-short (b ∷ bs) = short-step (is_blank b) b bs (words-short bs)
