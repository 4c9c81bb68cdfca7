use Rattle.std.proofs.Common.{◌≡◌, ◌≤◌, ◌∙◌, ℕ, List, ap, subst, sym, length, replicate, min, arith}
use Rattle.std.specs.List.{All}
use Rattle.std.proofs.lemmas.Simd.{length-replicate}
use Rattle.std.proofs.lemmas.List.Elements.{All-replicate}
use Rattle.dcop_base.specs.Table.{product}
use Rattle.util_join.proofs.JoinLaws.{whole-of}
use Rattle.util_join.proofs.joined.Joined.new.Goals as goal

pub invariant_of-result : goal.invariant_of-result
invariant_of-result c =
    let count = c.count_of-cells.result in
    let zeros : c.in_ok-cells.cells.items ≡ replicate count 0 = c.in_ok-cells.ensures.items_if_clones_equal (λ y h. h) in
    let capped : count ≡ min (product c.args.sizes) 18446744073709551615 = c.count_of-cells.ensures ∙ ap (λ (ss : List ℕ). min (product ss) 18446744073709551615) c.as_slice.ensures in
    whole-of c.args.over c.args.sizes c.in_ok-cells.cells.items (record {
      apart = c.requires.distinct;
      sized = c.requires.sized;
      positive = c.requires.positive;
      full = ap (λ (xs : List ℕ). length xs) zeros ∙ length-replicate count 0 ∙ omega (arith, capped);
      small = subst (λ (xs : List ℕ). All (λ n. n ≤ 4611686018427387904) xs) (sym zeros) (All-replicate (λ n. n ≤ 4611686018427387904) count 0 (omega arith));
    })
