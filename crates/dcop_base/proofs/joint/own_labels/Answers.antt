use Rattle.std.proofs.Common.{◌≡◌, ℕ, ◌+◌, ◌++◌, ◌∷◌, [], List, map-id, sym, ◌∙◌, ap, zero-add}
use Rattle.std.specs.List.{range_with_len}
use Rattle.std.proofs.lemmas.List.FromFn.{map-range_with_len_more}
use Rattle.dcop_base.proofs.joint.own_labels.Goals as goal

range_more : (items news : List ℕ) (n : ℕ) → news ≡ items ++ n ∷ [] → items ≡ range_with_len 0 n → news ≡ range_with_len 0 (n + 1)
range_more items news n e is =
    e ∙ ap (λ (xs : List ℕ). xs ++ n ∷ []) (is ∙ sym (map-id (range_with_len 0 n)))
    ∙ sym (map-range_with_len_more (λ (x : ℕ). x) 0 n n (zero-add n)) ∙ map-id (range_with_len 0 (n + 1))

pub loop-variable-preserved : goal.loop-variable-preserved
loop-variable-preserved c = range_more c.loop-variable.labels.items c.push.new.self.items c.loop-variable.variable c.in_ok-push.ensures.items c.loop-variable.invariant
