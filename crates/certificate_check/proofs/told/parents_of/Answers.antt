use Rattle.std.proofs.Common.{◌<◌, ◌++◌, ◌∷◌, [], ℕ, List, Option, length, map, sym, ap, ◌∙◌, arith}
use Rattle.std.specs.List.{range_with_len}
use Rattle.std.proofs.lemmas.List.FromFn.{map-range_with_len_more}
use Rattle.certificate_text.specs.declared.certificate.Util.{Util}
use Rattle.minimised_problem.specs.Told.{told}
use Rattle.certificate_check.proofs.told.parents_of.Goals as goal

pub util_of-requires : goal.util_of-requires
util_of-requires c =
    let lt : c.loop-index.index < length c.args.problem.now.sizes = omega (arith, c.variable_count-count.ensures.count) in
    c.requires c.loop-index.index lt

pub loop-index-preserved : goal.loop-index-preserved
loop-index-preserved c =
    c.in_ok-push.ensures.items
    ∙ ap (λ (xs : List (Option ℕ)). xs ++ (c.util_of.result.now.parent ∷ [])) c.loop-index.invariant
    ∙ ap (λ (u : Util). map (λ v. (told c.args.utils.now v).parent) (range_with_len 0 c.loop-index.index) ++ (u.parent ∷ [])) c.util_of.ensures
    ∙ sym (map-range_with_len_more (λ v. (told c.args.utils.now v).parent) 0 c.loop-index.index c.loop-index.index (omega arith))
