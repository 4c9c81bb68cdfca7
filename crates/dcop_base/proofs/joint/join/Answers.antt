use Rattle.std.proofs.Common.{◌≡◌, ℕ, ◌<◌, ◌≤◌, true, false, List, ◌∷◌, [], length, get_or, slice_index, map, is_lt, nat_cmp, sym, ◌∙◌, ap, subst, subst₂, le_antisymm, arith}
use Rattle.std.proofs.lemmas.List.{get_or_read}
use Rattle.dcop_base.specs.Labels.{IsJoined}
use Rattle.dcop_base.proofs.LabelLaws.{relabelled, IsJoined-first_high, IsJoined-second_high, IsJoined-pair_same, lt_from_is_lt, le_from_not_lt}
use Rattle.dcop_base.proofs.joint.join.Goals as goal

-- the label that was read
read : (v i x : ℕ) (old : List ℕ) → i ≡ v → v < length old → x ≡ get_or old i x → x ≡ slice_index old v
read v i x old at lt is =
    get_or_read old i x (subst (λ (k : ℕ). k < length old) (sym at) lt) is 0 ∙ ap (λ (k : ℕ). slice_index old k) at

second_high : (one other i j x y : ℕ) (old new : List ℕ) → i ≡ one → j ≡ other → one < length old → other < length old → x ≡ get_or old i x → y ≡ get_or old j y → true ≡ is_lt (nat_cmp x y) → new ≡ map (relabelled y x) old → IsJoined (one ∷ other ∷ []) old new
second_high one other i j x y old new at_one at_other one_in other_in x_read y_read lt is =
    let x_is : x ≡ slice_index old one = read one i x old at_one one_in x_read in
    let y_is : y ≡ slice_index old other = read other j y old at_other other_in y_read in
    IsJoined-second_high one other old new one_in other_in
    (subst₂ (λ (a : ℕ) (b : ℕ). a < b) x_is y_is (lt_from_is_lt x y lt))
    (subst₂ (λ (a : ℕ) (b : ℕ). new ≡ map (relabelled b a) old) x_is y_is is)

first_high : (one other i j x y : ℕ) (old new : List ℕ) → i ≡ one → j ≡ other → one < length old → other < length old → x ≡ get_or old i x → y ≡ get_or old j y → true ≡ is_lt (nat_cmp y x) → new ≡ map (relabelled x y) old → IsJoined (one ∷ other ∷ []) old new
first_high one other i j x y old new at_one at_other one_in other_in x_read y_read lt is =
    let x_is : x ≡ slice_index old one = read one i x old at_one one_in x_read in
    let y_is : y ≡ slice_index old other = read other j y old at_other other_in y_read in
    IsJoined-first_high one other old new one_in other_in
    (subst₂ (λ (a : ℕ) (b : ℕ). b < a) x_is y_is (lt_from_is_lt y x lt))
    (subst₂ (λ (a : ℕ) (b : ℕ). new ≡ map (relabelled a b) old) x_is y_is is)

pair_same : (one other i j x y : ℕ) (old : List ℕ) → i ≡ one → j ≡ other → one < length old → other < length old → x ≡ get_or old i x → y ≡ get_or old j y → false ≡ is_lt (nat_cmp x y) → false ≡ is_lt (nat_cmp y x) → IsJoined (one ∷ other ∷ []) old old
pair_same one other i j x y old at_one at_other one_in other_in x_read y_read ge le =
    IsJoined-pair_same one other old
    (sym (read one i x old at_one one_in x_read) ∙ le_antisymm (le_from_not_lt y x le) (le_from_not_lt x y ge) ∙ read other j y old at_other other_in y_read)

-- a label that was read names a variable
named : (v i x : ℕ) (old : List ℕ) → i ≡ v → v < length old → x ≡ get_or old i x → ((u : ℕ) → slice_index old u ≤ u) → x < length old
named v i x old at lt is low = omega (arith, read v i x old at lt is, low v)

pub relabel-requires-clause-within : goal.relabel-requires-clause-within
relabel-requires-clause-within c =
    named c.args.other c.other.inside.0 c.index-labels-other.result c.args.labels.now c.other.view_is c.requires.other c.index-labels-other.is c.requires.low

pub returns-then-lt : goal.returns-then-lt
returns-then-lt c =
    second_high c.args.one c.args.other c.one.inside.0 c.other.inside.0 c.index-labels-one.result c.index-labels-other.result c.args.labels.now c.relabel.new.labels
    c.one.view_is c.other.view_is c.requires.one c.requires.other c.index-labels-one.is c.index-labels-other.is c.if-lt.ensures c.relabel.ensures

pub returns-then-lt-2 : goal.returns-then-lt-2
returns-then-lt-2 c =
    first_high c.args.one c.args.other c.one.inside.0 c.other.inside.0 c.index-labels-one.result c.index-labels-other.result c.args.labels.now c.relabel-then-lt-2.new.labels
    c.one.view_is c.other.view_is c.requires.one c.requires.other c.index-labels-one.is c.index-labels-other.is c.if-lt-2.ensures c.relabel-then-lt-2.ensures
