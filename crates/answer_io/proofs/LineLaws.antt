-- The lines of a text that ends with line_feed, and of a text that follows it.
use Rattle.std.proofs.Common.{◌≡◌, ℕ, ◌+◌, ◌-◌, ◌<◌, ◌≤◌, Bool, true, false, cond, nat_eq, List, [], ◌∷◌, ◌++◌, length, take, refl, ap, ◌∙◌, arith}
use Rattle.std.specs.List.{sum_by}
use Rattle.std.specs.Prelude.{count_by}
use Rattle.std.proofs.lemmas.List.{length-append, take-append-le}
use Rattle.std.proofs.lemmas.List.Sums.{sum_by-cons, sum_by-append, sum_by-take-le}
use Rattle.std.proofs.Math.Seq.{take-append-add}
use Rattle.problem_text.specs.Bytes.{line_feed}
use Rattle.problem_text.specs.Lines.{lines, onto_first}
use Rattle.wcsp_text.specs.Texts.{bytes_to}
use Rattle.wcsp_text.specs.Words.{line_at}
use Rattle.answer_io.proofs.PrefixLaws.{lines_join, HasLines, some_lines}

-- how many of the bytes are line_feed
abbrev feeds : List ℕ → ℕ
feeds bytes = count_by (λ b. nat_eq b line_feed) bytes

feeds-append : (xs ys : List ℕ) → feeds (xs ++ ys) ≡ feeds xs + feeds ys
feeds-append xs ys = sum_by-append (λ (b : ℕ). cond (nat_eq b line_feed) 1 0) xs ys

feeds-take : (k : ℕ) (xs : List ℕ) → feeds (take k xs) ≤ feeds xs
feeds-take k xs = sum_by-take-le (λ (b : ℕ). cond (nat_eq b line_feed) 1 0) xs k

-- a text that ends with line_feed has as many lines as line_feed bytes
step_count : (t : Bool) (b : ℕ) (ls : List (List ℕ)) → HasLines ls → length (cond t ((b ∷ []) ∷ ls) (onto_first b ls)) ≡ cond t 1 0 + length ls
step_count true b ls some = omega arith
step_count false b [] some = elim some [ ]
step_count false b (l ∷ ls) some = omega arith

lines_count : (bytes : List ℕ) → length (lines (bytes ++ line_feed ∷ [])) ≡ feeds bytes + 1
lines_count [] = refl
lines_count (b ∷ bs) =
    let step = step_count (nat_eq b line_feed) b (lines (bs ++ line_feed ∷ [])) (some_lines bs) in
    let rest = lines_count bs in
    let here = sum_by-cons (λ (b : ℕ). cond (nat_eq b line_feed) 1 0) b bs in
    omega (arith, step, rest, here)

-- the line of a word that ends before the last line_feed is one of the lines
pub line_within : (bytes : List ℕ) (after : ℕ) → 1 ≤ after → line_at (bytes ++ line_feed ∷ []) after ≤ feeds bytes + 1
line_within bytes after before =
    let size = length-append bytes (line_feed ∷ []) in
    let most : length (bytes ++ line_feed ∷ []) - after ≤ length bytes = omega (arith, size, before) in
    let same = ap feeds (take-append-le (length (bytes ++ line_feed ∷ []) - after) bytes (line_feed ∷ []) most) in
    let few = feeds-take (length (bytes ++ line_feed ∷ []) - after) bytes in
    omega (arith, same, few)

module _ (bytes rest : List ℕ) where
  abbrev text : List ℕ
  text = bytes ++ line_feed ∷ []

  -- a word is on the same line if further bytes follow the text
  pub line_same : (after : ℕ) → line_at (text ++ rest) (after + length rest) ≡ line_at text after
  line_same after =
      let size = length-append text rest in
      let at : length (text ++ rest) - (after + length rest) ≡ length text - after = omega (arith, size) in
      let within : length text - after ≤ length text = omega arith in
      ap (λ (k : ℕ). 1 + feeds (take k (text ++ rest))) at
      ∙ ap (λ (xs : List ℕ). 1 + feeds xs) (take-append-le (length text - after) text rest within)

  -- a word after the text is on a later line than a word in it
  pub line_later : (after behind : ℕ) → 1 ≤ after → behind ≤ length rest → line_at text after < line_at (text ++ rest) behind
  line_later after behind before within =
      let size = length-append text rest in
      let at : length (text ++ rest) - behind ≡ length text + (length rest - behind) = omega (arith, size, within) in
      let there = ap (λ (k : ℕ). feeds (take k (text ++ rest))) at ∙ ap feeds (take-append-add text rest (length rest - behind)) ∙ feeds-append text (take (length rest - behind) rest) in
      let end = feeds-append bytes (line_feed ∷ []) in
      let one : feeds (line_feed ∷ []) ≡ 1 = refl in
      let here = line_within bytes after before in
      omega (arith, there, end, one, here)

  -- the first lines of the text have as many bytes if further ones follow it
  pub bytes_same : (line : ℕ) → line ≤ feeds bytes + 1 → bytes_to (text ++ rest) line ≡ bytes_to text line
  bytes_same line within =
      let count = lines_count bytes in
      let few : line ≤ length (lines text) = omega (arith, count, within) in
      ap (λ (ls : List (List ℕ)). sum_by (λ l. length l) (take line ls)) (lines_join bytes rest)
      ∙ ap (λ (ls : List (List ℕ)). sum_by (λ l. length l) ls) (take-append-le line (lines text) (lines rest) few)

-- the first lines of a text have at most as many bytes as the text
step_total : (t : Bool) (b : ℕ) (ls : List (List ℕ)) → sum_by (λ l. length l) (cond t ((b ∷ []) ∷ ls) (onto_first b ls)) ≡ 1 + sum_by (λ l. length l) ls
step_total true b ls = let one = sum_by-cons (λ (l : List ℕ). length l) (b ∷ []) ls in omega (arith, one)
step_total false b [] = let one = sum_by-cons (λ (l : List ℕ). length l) (b ∷ []) [] in omega (arith, one)
step_total false b (l ∷ ls) =
    let one = sum_by-cons (λ (l : List ℕ). length l) (b ∷ l) ls in
    let two = sum_by-cons (λ (l : List ℕ). length l) l ls in omega (arith, one, two)

lines_total : (bytes : List ℕ) → sum_by (λ l. length l) (lines bytes) ≡ length bytes
lines_total [] = refl
lines_total (b ∷ bs) = let step = step_total (nat_eq b line_feed) b (lines bs) in let rest = lines_total bs in omega (arith, step, rest)

pub bytes_within : (bytes : List ℕ) (line : ℕ) → bytes_to bytes line ≤ length bytes
bytes_within bytes line =
    let most = sum_by-take-le (λ (l : List ℕ). length l) (lines bytes) line in
    let all = lines_total bytes in omega (arith, most, all)
