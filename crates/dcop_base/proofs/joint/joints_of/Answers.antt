use Rattle.std.proofs.Common.{◌≡◌, ℕ, suc, ◌-◌, ◌<◌, ◌≤◌, ◌++◌, List, length, take, drop, take_at, All, sym, ◌∙◌, ap, subst, arith}
use Rattle.std.specs.List.{range_with_len}
use Rattle.std.proofs.lemmas.List.FromFn.{length-range_with_len}
use Rattle.dcop_base.specs.Table.{CostTable}
use Rattle.dcop_base.specs.Graph.{AreJoints}
use Rattle.dcop_base.specs.Labels.{AreLabels, own_joints}
use Rattle.dcop_base.proofs.FirstLaws.{AreJoints-own}
use Rattle.dcop_base.proofs.joint.joints_of.Goals as goal

-- how many labels there are
many : (items mid : List ℕ) (n : ℕ) → items ≡ range_with_len 0 n → mid ≡ items → length mid ≡ n
many items mid n is same = ap (λ (xs : List ℕ). length xs) (same ∙ is) ∙ length-range_with_len 0 n

-- what the list holds after its slice was written
written : (items mid news held : List ℕ) (len : ℕ) → length mid ≡ len → length news ≡ length mid → held ≡ take len (news ++ drop (length news) items) → held ≡ news
written items mid news held len is kept e = e ∙ take_at news (drop (length news) items) len (kept ∙ is)

pub join_tables-requires-clause-own : goal.join_tables-requires-clause-own
join_tables-requires-clause-own c =
    c.as_mut_slice.ensures.value ∙ c.in_ok-labels.ensures
    ∙ ap (λ (n : ℕ). range_with_len 0 n) (sym (many c.in_ok-labels.labels.items c.as_mut_slice.result.now c.args.variables c.in_ok-labels.ensures c.as_mut_slice.ensures.value))

pub join_tables-requires-clause-within : goal.join_tables-requires-clause-within
join_tables-requires-clause-within c =
    subst (λ (n : ℕ). All (λ (t : CostTable). All (λ (v : ℕ). v < n) t.scope) c.args.tables.now)
    (sym (many c.in_ok-labels.labels.items c.as_mut_slice.result.now c.args.variables c.in_ok-labels.ensures c.as_mut_slice.ensures.value)) c.requires.within

held_many : (items mid news held : List ℕ) (len n : ℕ) → items ≡ range_with_len 0 n → mid ≡ items → length mid ≡ len → length news ≡ length mid → held ≡ take len (news ++ drop (length news) items) → length held ≡ n
held_many items mid news held len n is same size kept e =
    ap (λ (xs : List ℕ). length xs) (written items mid news held len size kept e) ∙ kept ∙ many items mid n is same

joined : (variables : ℕ) (tables : List CostTable) (labels news : List ℕ) (joints result : List (ℕ × ℕ)) → 1 ≤ variables → length labels ≡ variables → labels ≡ news → AreLabels tables news → joints ≡ own_joints labels (length labels - 1) → result ≡ joints → AreJoints variables tables result
joined variables tables labels news joints result some size same labelled is result_is =
    let more : suc (variables - 1) ≡ variables = omega arith in
    let size_more : length labels ≡ suc (variables - 1) = omega arith in
    let joints_are : result ≡ own_joints labels (variables - 1) = result_is ∙ is ∙ ap (λ (n : ℕ). own_joints labels (n - 1)) size in
    subst (λ (js : List (ℕ × ℕ)). AreJoints variables tables js) (sym joints_are)
    (subst (λ (n : ℕ). AreJoints n tables (own_joints labels (variables - 1))) more
    (AreJoints-own tables labels (variables - 1) size_more (subst (λ (xs : List ℕ). AreLabels tables xs) (sym same) labelled)))

pub joints_to_firsts-requires-clause-some : goal.joints_to_firsts-requires-clause-some
joints_to_firsts-requires-clause-some c =
    let size : length c.as_slice.result.now ≡ c.args.variables = held_many c.in_ok-labels.labels.items c.as_mut_slice.result.now c.join_tables.new.labels c.as_slice.result.now c.in_ok-labels.labels.len c.args.variables c.in_ok-labels.ensures c.as_mut_slice.ensures.value c.as_mut_slice.ensures.len c.join_tables.auto.labels c.as_slice.ensures.value in
    subst (λ (n : ℕ). 1 ≤ n) (sym size) c.requires.some

pub joints_to_firsts-requires-clause-few : goal.joints_to_firsts-requires-clause-few
joints_to_firsts-requires-clause-few c =
    let size : length c.as_slice.result.now ≡ c.args.variables = held_many c.in_ok-labels.labels.items c.as_mut_slice.result.now c.join_tables.new.labels c.as_slice.result.now c.in_ok-labels.labels.len c.args.variables c.in_ok-labels.ensures c.as_mut_slice.ensures.value c.as_mut_slice.ensures.len c.join_tables.auto.labels c.as_slice.ensures.value in
    rw size c.requires.few

pub returns : goal.returns
returns c =
    joined c.args.variables c.args.tables.now c.as_slice.result.now c.join_tables.new.labels c.in_ok-joints.joints.items c.from_vec.result c.requires.some
    (held_many c.in_ok-labels.labels.items c.as_mut_slice.result.now c.join_tables.new.labels c.as_slice.result.now c.in_ok-labels.labels.len c.args.variables c.in_ok-labels.ensures c.as_mut_slice.ensures.value c.as_mut_slice.ensures.len c.join_tables.auto.labels c.as_slice.ensures.value)
    (written c.in_ok-labels.labels.items c.as_mut_slice.result.now c.join_tables.new.labels c.as_slice.result.now c.in_ok-labels.labels.len c.as_mut_slice.ensures.len c.join_tables.auto.labels c.as_slice.ensures.value)
    c.join_tables.ensures c.in_ok-joints.ensures c.from_vec.ensures
