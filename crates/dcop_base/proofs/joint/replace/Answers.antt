use Rattle.std.proofs.Common.{◌≡◌, ℕ, ◌+◌, ◌<◌, ◌++◌, List, length, get_or, set, take, drop, map, sym, ◌∙◌, ap, arith}
use Rattle.std.proofs.lemmas.List.Edits.{map_over_more}
use Rattle.dcop_base.proofs.LabelLaws.{relabelled}
use Rattle.dcop_base.proofs.joint.replace.Goals as goal

more : (from to : ℕ) (xs ys : List ℕ) (i x y z : ℕ) → i < length xs → ys ≡ map (relabelled from to) (take i xs) ++ drop i xs → x ≡ get_or ys i x → z ≡ x → y ≡ relabelled from to z → set ys i y ≡ map (relabelled from to) (take (i + 1) xs) ++ drop (i + 1) xs
more from to xs ys i x y z lt inv is same new =
    ap (λ (n : ℕ). set ys i n) (new ∙ ap (relabelled from to) same) ∙ map_over_more (relabelled from to) xs ys i x lt inv is

pub loop-label-preserved : goal.loop-label-preserved
loop-label-preserved c =
    more c.args.from c.args.to c.args.labels.now c.loop-label.labels c.loop-label.label-index c.label-item.result c.replaced.result (get_or c.loop-label.labels c.loop-label.label-index c.label-item.result)
    (omega arith) c.loop-label.invariant c.label-item.is (sym c.label-item.is) c.replaced.ensures
