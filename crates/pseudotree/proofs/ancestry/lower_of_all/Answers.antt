use Rattle.std.proofs.Common.{ℕ, ◌∙◌, sym, ap, List, map, ◌++◌, ◌∷◌, [], arith}
use Rattle.std.specs.List.{range_with_len}
use Rattle.std.proofs.lemmas.List.FromFn.{map-range_with_len_more}
use Rattle.pseudotree.specs.Marks.{marked_lower_of}
use Rattle.pseudotree.proofs.ancestry.lower_of_all.Goals as goal

pub loop-index-preserved : goal.loop-index-preserved
loop-index-preserved c =
    c.in_ok-push.ensures.items
    ∙ ap (λ (xs : List (List ℕ)). xs ++ (c.in_ok-lower_of.field-0 ∷ [])) c.loop-index.invariant
    ∙ ap (λ (x : List ℕ). map (marked_lower_of c.args.paths.now c.args.marks.now) (range_with_len 0 c.loop-index.index) ++ (x ∷ [])) c.in_ok-lower_of.ensures
    ∙ sym (map-range_with_len_more (marked_lower_of c.args.paths.now c.args.marks.now) 0 c.loop-index.index c.loop-index.index (omega arith))
