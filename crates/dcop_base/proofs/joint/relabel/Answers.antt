use Rattle.std.proofs.Common.{◌≡◌, ℕ, ◌≤◌, ◌++◌, List, slice_index, take, drop, map, ◌∙◌, ap}
use Rattle.dcop_base.proofs.LabelLaws.{relabelled, relabelled_from}
use Rattle.dcop_base.proofs.joint.relabel.Goals as goal

whole : (from to i : ℕ) (labels front back new : List ℕ) → i ≡ from → front ≡ take i labels → back ≡ drop i labels → new ≡ map (relabelled from to) back → ((v : ℕ) → slice_index labels v ≤ v) → front ++ new ≡ map (relabelled from to) labels
whole from to i labels front back new at is_front is_back is_new low =
    ap (λ (xs : List ℕ). xs ++ new) (is_front ∙ ap (λ (k : ℕ). take k labels) at)
    ∙ ap (λ (xs : List ℕ). take from labels ++ xs) (is_new ∙ ap (λ (xs : List ℕ). map (relabelled from to) xs) (is_back ∙ ap (λ (k : ℕ). drop k labels) at))
    ∙ relabelled_from from to labels low

pub returns : goal.returns
returns c =
    whole c.args.from c.args.to c.from.inside.0 c.args.labels.now c.split_at_mut-others.result.0.now c.split_at_mut-others.result.1.now c.replace.new.labels
    c.from.view_is c.split_at_mut-others.ensures.front c.split_at_mut-others.ensures.back c.replace.ensures c.requires.low
