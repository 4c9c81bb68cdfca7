use Rattle.std.proofs.Common.{ℕ, List, [], ◌∷◌, codes}
use Rattle.std.specs.String.{string_bytes}
use Rattle.solve_report.specs.Summary.{number_words}
use Rattle.solve_report.proofs.SummaryLaws.{lines-none, lines-more}
use Rattle.solve_report.proofs.summary.write_found.Goals as goal

pub returns : goal.returns
returns c =
    let s = c.args.summary.now in
    let old : List ℕ = string_bytes c.args.text.now in
    let t1 : List ℕ = string_bytes c.write_number.new.text in
    let t2 : List ℕ = string_bytes c.write_number-2.new.text in
    let t3 : List ℕ = string_bytes c.write_number-3.new.text in
    let t4 : List ℕ = string_bytes c.write_number-4.new.text in
    let t5 : List ℕ = string_bytes c.write_number-5.new.text in
    let w1 : List (List ℕ) = number_words (codes "deliveries") s.deliveries in
    let w2 : List (List ℕ) = number_words (codes "cost") s.cost in
    let w3 : List (List ℕ) = number_words (codes "lower") s.lower in
    let w4 : List (List ℕ) = number_words (codes "upper") s.upper in
    let w5 : List (List ℕ) = number_words (codes "mark") s.mark in
    let one = lines-more old old t1 [] w1 (lines-none old) c.in_ok-write_number.ensures in
    let two = lines-more old t1 t2 (w1 ∷ []) w2 one c.in_ok-write_number-2.ensures in
    let three = lines-more old t2 t3 (w1 ∷ w2 ∷ []) w3 two c.in_ok-write_number-3.ensures in
    let four = lines-more old t3 t4 (w1 ∷ w2 ∷ w3 ∷ []) w4 three c.in_ok-write_number-4.ensures in
    lines-more old t4 t5 (w1 ∷ w2 ∷ w3 ∷ w4 ∷ []) w5 four c.in_ok-write_number-5.ensures
