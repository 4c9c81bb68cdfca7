use Rattle.std.proofs.Common.{◌≡◌, ℕ, ◌+◌, ◌<◌, ◌≤◌, [], List, ◌++◌, length, get_or, take, drop, All, refl, sym, ◌∙◌, ap, subst, slice_index, arith}
use Rattle.std.specs.List.{range_with_len}
use Rattle.std.proofs.lemmas.List.{take_more, length-take-le}
use Rattle.std.proofs.lemmas.List.Elements.{All-get_or}
use Rattle.std.proofs.lemmas.List.FromFn.{get_or-range_with_len}
use Rattle.dcop_base.specs.Table.{CostTable}
use Rattle.dcop_base.specs.Labels.{AreLabels, IsJoined}
use Rattle.dcop_base.proofs.LabelLaws.{AreLabels-start, AreLabels-more}
use Rattle.dcop_base.proofs.FrontLaws.{IsJoined-front, front-own}
use Rattle.dcop_base.proofs.joint.join_tables.Goals as goal

-- at first each variable is its own label
begin : (labels : List ℕ) (n : ℕ) → n ≡ length labels → labels ≡ range_with_len 0 n → (AreLabels [] labels) × (0 ≤ length labels) × ((v : ℕ) → 0 ≤ v → v < length labels → slice_index labels v ≡ v)
begin labels n many is = (
  subst (λ (xs : List ℕ). AreLabels [] xs) (sym is) (AreLabels-start n),
  omega arith,
  λ v ge lt. ap (λ (xs : List ℕ). get_or xs v 0) is ∙ get_or-range_with_len 0 n v 0 (subst (λ (m : ℕ). v < m) (sym many) lt) ∙ omega arith,
)

pub loop-table-init : goal.loop-table-init
loop-table-init c = begin c.args.labels.now (length c.args.labels.now) refl c.requires.own

-- the variables of a table lie below what all tables lie below
within : (tables : List CostTable) (k : ℕ) (t : CostTable) (scope : List ℕ) (n : ℕ) → All (λ (w : CostTable). All (λ (v : ℕ). v < n) w.scope) tables → k < length tables → t ≡ get_or tables k t → scope ≡ t.scope → All (λ (v : ℕ). v < n) scope
within tables k t scope n all lt is scope_is =
    let there : All (λ (v : ℕ). v < n) (get_or tables k t).scope = All-get_or (λ (w : CostTable). All (λ (v : ℕ). v < n) w.scope) tables k t lt all in
    subst (λ (xs : List ℕ). All (λ (v : ℕ). v < n) xs) (sym (scope_is ∙ ap (λ (w : CostTable). w.scope) is)) there

-- the end of what was named lies within the labels
inside : (scope labels old : List ℕ) (m n : ℕ) → length labels ≡ length old → m ≤ length labels → All (λ (v : ℕ). v < length old) scope → ((k : ℕ) → m ≤ k → All (λ (v : ℕ). v < k) scope → n ≤ k) → n ≤ length labels
inside scope labels old m n size held all least =
    subst (λ (k : ℕ). n ≤ k) (sym size) (least (length old) (subst (λ (k : ℕ). m ≤ k) size held) all)

pub split_at_mut-front-requires : goal.split_at_mut-front-requires
split_at_mut-front-requires c =
    inside c.as_slice-scope.result.now c.loop-table.labels c.args.labels.now c.loop-table.named c.end_of-named.result c.loop-table.auto.labels c.loop-table.invariant.1
    (within c.args.tables.now c.loop-table.table-index c.table-item.result c.as_slice-scope.result.now (length c.args.labels.now)
    c.requires.within c.loop-table-test.true c.table-item.is (c.as_slice-scope.ensures ∙ ap (λ (w : CostTable). w.scope) c.table.view_is))
    c.end_of-named.ensures.within

next : (tables : List CostTable) (k n m : ℕ) (t : CostTable) (scope labels front back news : List ℕ) → k < length tables → t ≡ get_or tables k t → scope ≡ t.scope → AreLabels (take k tables) labels → m ≤ n → n ≤ length labels → All (λ (v : ℕ). v < n) scope → ((v : ℕ) → m ≤ v → v < length labels → slice_index labels v ≡ v) → front ≡ take n labels → back ≡ drop n labels → IsJoined scope front news → (AreLabels (take (k + 1) tables) (news ++ back)) × (n ≤ length (news ++ back)) × ((v : ℕ) → n ≤ v → v < length (news ++ back) → slice_index (news ++ back) v ≡ v)
next tables k n m t scope labels front back news lt is scope_is before grows inside above own front_is back_is joined =
    let scope_there : scope ≡ (get_or tables k t).scope = scope_is ∙ ap (λ (w : CostTable). w.scope) is in
    let own_there : (v : ℕ) → n ≤ v → v < length labels → slice_index labels v ≡ v = λ v ge v_in. own v (omega (arith, grows, ge)) v_in in
    let joined_front : IsJoined scope (take n labels) news = subst (λ (xs : List ℕ). IsJoined scope xs news) front_is joined in
    let whole : IsJoined scope labels (news ++ drop n labels) = IsJoined-front scope labels news n inside above before.low own_there joined_front in
    let many : length news ≡ n = joined_front.count ∙ length-take-le n labels inside in
    subst (λ (xs : List ℕ). (AreLabels (take (k + 1) tables) (news ++ xs)) × (n ≤ length (news ++ xs)) × ((v : ℕ) → n ≤ v → v < length (news ++ xs) → slice_index (news ++ xs) v ≡ v)) (sym back_is) (
      subst (λ (ws : List CostTable). AreLabels ws (news ++ drop n labels)) (sym (take_more tables k t lt))
          (AreLabels-more (take k tables) (get_or tables k t) labels (news ++ drop n labels) before (subst (λ (xs : List ℕ). IsJoined xs labels (news ++ drop n labels)) scope_there whole)),
      omega (arith, whole.count, inside),
      front-own labels news n n inside many (omega arith) own_there,
    )

pub loop-table-preserved : goal.loop-table-preserved
loop-table-preserved c =
    next c.args.tables.now c.loop-table.table-index c.end_of-named.result c.loop-table.named c.table-item.result c.as_slice-scope.result.now c.loop-table.labels
    c.split_at_mut-front.result.0.now c.split_at_mut-front.result.1.now c.join_scope.new.labels
    c.loop-table-test.true c.table-item.is (c.as_slice-scope.ensures ∙ ap (λ (w : CostTable). w.scope) c.table.view_is) c.loop-table.invariant.0 c.end_of-named.ensures.least
    (inside c.as_slice-scope.result.now c.loop-table.labels c.args.labels.now c.loop-table.named c.end_of-named.result c.loop-table.auto.labels c.loop-table.invariant.1
    (within c.args.tables.now c.loop-table.table-index c.table-item.result c.as_slice-scope.result.now (length c.args.labels.now)
    c.requires.within c.loop-table-test.true c.table-item.is (c.as_slice-scope.ensures ∙ ap (λ (w : CostTable). w.scope) c.table.view_is))
    c.end_of-named.ensures.within)
    c.end_of-named.ensures.above c.loop-table.invariant.2 c.split_at_mut-front.ensures.front c.split_at_mut-front.ensures.back c.join_scope.ensures
