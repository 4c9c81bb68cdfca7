use Rattle.std.proofs.Common.{◌≡◌, ℕ, ◌*◌, List, [], None, replicate, length, ap, ◌∙◌}
use Rattle.std.proofs.lemmas.List.{length-replicate}
use Rattle.adopt_context.specs.Bounds.{blank}
use Rattle.adopt_context.specs.Context.{Context}
use Rattle.adopt_bounds.specs.Totals.{totals_of}
use Rattle.adopt_bounds.proofs.PlaceLaws.{blank_rows, blank_bounds}
use Rattle.adopt_bounds.proofs.bounds.Bounds.new.Goals as goal

pub invariant_of-result : goal.invariant_of-result
invariant_of-result c =
    let n = c.from-size.result in
    let w = length c.args.children in
    let count = n * length c.as_slice-width.result.now in
    let is : count ≡ n * w = ap (λ (xs : List ℕ). n * length xs) c.as_slice-width.ensures in
    let lower : c.in_ok-vec.field-0.items ≡ replicate count 0 = c.in_ok-vec.ensures.items_if_clones_equal (λ y h. h) in
    let upper : c.in_ok-none_yet.field-0.items ≡ replicate count None = c.in_ok-none_yet.ensures in
    let share : c.in_ok-vec-2.field-0.items ≡ replicate count 0 = c.in_ok-vec-2.ensures.items_if_clones_equal (λ y h. h) in
    let contexts : c.in_ok-vec-3.field-0.items ≡ replicate count [] = c.in_ok-vec-3.ensures.items_if_clones_equal (λ y h. h) ∙ ap (λ (x : Context). replicate count x) c.new.ensures in
    let totals : c.in_ok-vec-4.field-0.items ≡ replicate n c.of_blank.result = c.in_ok-vec-4.ensures.items_if_clones_equal (λ y h. h) in
    let right : c.of_blank.result ≡ totals_of (replicate w blank) = c.of_blank.ensures ∙ ap (λ (xs : List ℕ). totals_of (replicate (length xs) blank)) c.as_slice-width.ensures in
    rw (lower, upper, share, contexts, totals) (blank_bounds n w count c.of_blank.result is right)

pub returns-clause-rows : goal.returns-clause-rows
returns-clause-rows c =
    let n = c.from-size.result in
    let w = length c.args.children in
    let count = n * length c.as_slice-width.result.now in
    let is : count ≡ n * w = ap (λ (xs : List ℕ). n * length xs) c.as_slice-width.ensures in
    let lower : c.in_ok-vec.field-0.items ≡ replicate count 0 = c.in_ok-vec.ensures.items_if_clones_equal (λ y h. h) in
    let upper : c.in_ok-none_yet.field-0.items ≡ replicate count None = c.in_ok-none_yet.ensures in
    let share : c.in_ok-vec-2.field-0.items ≡ replicate count 0 = c.in_ok-vec-2.ensures.items_if_clones_equal (λ y h. h) in
    let contexts : c.in_ok-vec-3.field-0.items ≡ replicate count [] = c.in_ok-vec-3.ensures.items_if_clones_equal (λ y h. h) ∙ ap (λ (x : Context). replicate count x) c.new.ensures in
    let totals : c.in_ok-vec-4.field-0.items ≡ replicate n c.of_blank.result = c.in_ok-vec-4.ensures.items_if_clones_equal (λ y h. h) in
    let size : n ≡ c.args.size = c.from-size.ensures in
    rw (lower, upper, share, contexts, totals, length-replicate n c.of_blank.result) (blank_rows n w count is ∙ ap (λ m. replicate m (replicate w blank)) size)
