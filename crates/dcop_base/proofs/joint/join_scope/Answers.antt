use Rattle.std.proofs.Common.{◌≡◌, ℕ, ◌+◌, ◌<◌, List, ◌∷◌, [], length, get_or, take, All, sym, subst, le_trans}
use Rattle.std.proofs.lemmas.List.Elements.{All-get_or, All-tail}
use Rattle.dcop_base.specs.Labels.{IsJoined}
use Rattle.dcop_base.proofs.LabelLaws.{IsJoined-more}
use Rattle.dcop_base.proofs.joint.join_scope.Goals as goal

within : (scope others : List ℕ) (first k x n m : ℕ) → scope ≡ first ∷ others → All (λ (v : ℕ). v < n) scope → k < length others → x ≡ get_or others k x → m ≡ n → x < m
within scope others first k x n m e all lt is same =
    let below : get_or others k x < n =
    All-get_or (λ (v : ℕ). v < n) others k x lt (All-tail (λ (v : ℕ). v < n) first others (subst (λ (xs : List ℕ). All (λ (v : ℕ). v < n) xs) e all)) in
    subst (λ (y : ℕ). x < y) (sym same) (subst (λ (y : ℕ). y < n) (sym is) below)

pub join-requires-clause-other : goal.join-requires-clause-other
join-requires-clause-other c =
    within c.args.scope.now c.in-Some.others.now c.in-Some.first.now c.loop-other.other-index c.other-item.result (length c.args.labels.now) (length c.loop-other.labels)
    c.in-Some.ensures.cases.0 c.requires.within c.loop-other-test.true c.other-item.is c.loop-other.invariant.count

pub join-requires-clause-low : goal.join-requires-clause-low
join-requires-clause-low c = λ v. le_trans (c.loop-other.invariant.lower v) (c.requires.low v)

more : (first : ℕ) (others : List ℕ) (k x : ℕ) (old mid new : List ℕ) → k < length others → x ≡ get_or others k x → IsJoined (first ∷ take k others) old mid → IsJoined (first ∷ x ∷ []) mid new → IsJoined (first ∷ take (k + 1) others) old new
more first others k x old mid new lt is done step =
    IsJoined-more first others k x old mid new lt done (subst (λ (y : ℕ). IsJoined (first ∷ y ∷ []) mid new) is step)

pub loop-other-preserved : goal.loop-other-preserved
loop-other-preserved c =
    more c.in-Some.first.now c.in-Some.others.now c.loop-other.other-index c.other-item.result c.args.labels.now c.loop-other.labels c.join.new.labels
    c.loop-other-test.true c.other-item.is c.loop-other.invariant c.join.ensures
