use Rattle.std.proofs.Common.{◌≡◌, ℕ, ◌+◌, ◌-◌, ◌<◌, ◌≤◌, ◌++◌, ◌∷◌, [], ◌==◌, true, false, List, length, get_or, sym, ◌∙◌, ap, arith}
use Rattle.std.proofs.lemmas.List.{get_or_read}
use Rattle.dcop_base.specs.Labels.{own_joints, is_own}
use Rattle.dcop_base.proofs.FirstLaws.{own_joints-more, own_joints-kept}
use Rattle.dcop_base.proofs.joint.joints_to_firsts.Goals as goal
use Rattle.dcop_base.proofs.joint.joints_to_firsts.Goals.{then-eq+in_ok-push, else-eq}

taken : (labels : List ℕ) (v x : ℕ) (joints news : List (ℕ × ℕ)) → 1 ≤ v → v < length labels → x ≡ get_or labels v x → true ≡ (x == v) → joints ≡ own_joints labels (v - 1) → news ≡ joints ++ (0, v) ∷ [] → news ≡ own_joints labels (v + 1 - 1)
taken labels v x joints news some lt read own is new =
    let own_here : is_own labels v ≡ true = ap (λ (z : ℕ). z == v) (sym (get_or_read labels v x lt read 0)) ∙ sym own in
    let next : v - 1 + 1 ≡ v + 1 - 1 = omega arith in
    new ∙ ap (λ (js : List (ℕ × ℕ)). js ++ (0, v) ∷ []) is ∙ sym (own_joints-more labels (v - 1) v (omega arith) own_here) ∙ ap (λ (n : ℕ). own_joints labels n) next

passed : (labels : List ℕ) (v x : ℕ) (joints : List (ℕ × ℕ)) → 1 ≤ v → v < length labels → x ≡ get_or labels v x → false ≡ (x == v) → joints ≡ own_joints labels (v - 1) → joints ≡ own_joints labels (v + 1 - 1)
passed labels v x joints some lt read own is =
    let other : is_own labels v ≡ false = ap (λ (z : ℕ). z == v) (sym (get_or_read labels v x lt read 0)) ∙ sym own in
    let next : v - 1 + 1 ≡ v + 1 - 1 = omega arith in
    is ∙ sym (own_joints-kept labels (v - 1) v (omega arith) other) ∙ ap (λ (n : ℕ). own_joints labels n) next

pub loop-variable-preserved : goal.loop-variable-preserved
loop-variable-preserved c =
    elim c.if-eq.branch [
      | then-eq+in_ok-push w ↦ rw w.joints-is
          (taken c.args.labels.now c.loop-variable.variable c.index-labels-variable.result c.loop-variable.joints.items w.push.new.self.items
          (omega arith) c.loop-variable-test.true c.index-labels-variable.is w.if-eq.ensures c.loop-variable.invariant w.in_ok-push.ensures.items)
      | else-eq w ↦ rw w.joints-is
          (passed c.args.labels.now c.loop-variable.variable c.index-labels-variable.result c.loop-variable.joints.items
          (omega arith) c.loop-variable-test.true c.index-labels-variable.is w.if-eq.ensures c.loop-variable.invariant)
    ]

pub returns : goal.returns
returns c =
    let all : c.loop-variable.variable - 1 ≡ length c.args.labels.now - 1 = omega arith in
    c.loop-variable.invariant ∙ ap (λ (n : ℕ). own_joints c.args.labels.now n) all
