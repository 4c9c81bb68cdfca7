-- A file with its variables in another order is a file; in the given order it is the file itself.
use Rattle.std.proofs.Common.{◌≡◌, ℕ, zero, suc, ◌<◌, Bool, true, ◌||◌, ltb, List, [], ◌∷◌, length, get_or, map, refl, sym, ap, subst, ◌∙◌, zero-add, inl, inr, arith}
use Rattle.std.specs.List.{All, AllZip, IsDistinct, list_any, list_all, slice_index, range_with_len}
use Rattle.std.specs.Str.{bytes_eq}
use Rattle.std.proofs.lemmas.Bool.{or_cases, or_left, or_right, and_parts, and_from, true≢false}
use Rattle.std.proofs.lemmas.List.{get_or-map, get_or_default, same_lists}
use Rattle.std.proofs.lemmas.List.Elements.{All-head, All-tail}
use Rattle.std.proofs.lemmas.List.Folds.{list_any_at}
use Rattle.std.proofs.lemmas.List.FromFn.{length-range_with_len, get_or-range_with_len}
use Rattle.problem_text.proofs.NamesLaws.{length-map}
use Rattle.dcop_base.specs.Table.{CostTable}
use Rattle.dcop_base.specs.Whole.{IsTableOf, IsProblem}
use Rattle.std.specs.Prelude.{◌⊎◌}
use Rattle.problem_text.specs.declared.file.Goal.{Goal}
use Rattle.problem_text.specs.Name.{is_name}
use Rattle.problem_text.specs.File.{TextFile, IsFile, AreLabels, is_max, has_wide_table, has_labels, needs_second}
use Rattle.problem_order.specs.Order.{IsOrder}
use Rattle.problem_order.specs.Reordered.{IsTableFor, IsReordered}
use Rattle.problem_order.proofs.OrderLaws.{order_of_places, range_is_places}

-- what holds of each element of a list holds of those at places of it
all_at : {X : Type 0} (test : X → Bool) (xs : List X) (d : X) → list_all test xs ≡ true → (k : ℕ) → k < length xs → test (get_or xs k d) ≡ true
all_at test [] d h k lt = absurd (omega arith)
all_at test (x ∷ xs) d h zero lt = (and_parts (test x) (list_all test xs) h).0
all_at test (x ∷ xs) d h (suc k) lt = all_at test xs d (and_parts (test x) (list_all test xs) h).1 k (omega arith)

all_map : {X : Type 0} (test : X → Bool) (f : ℕ → X) (vs : List ℕ) (n : ℕ) → ((v : ℕ) → v < n → test (f v) ≡ true) → All (λ v. v < n) vs → list_all test (map f vs) ≡ true
all_map test f [] n each within = refl
all_map test f (v ∷ vs) n each within =
    and_from (test (f v)) (list_all test (map f vs)) (each v (All-head (λ (u : ℕ). u < n) v vs within)) (all_map test f vs n each (All-tail (λ (u : ℕ). u < n) v vs within))

-- if some element of those at places passes, some element of the list does
any_map : {X : Type 0} (test : X → Bool) (xs : List X) (d : X) (vs : List ℕ) → All (λ v. v < length xs) vs → list_any test (map (λ v. get_or xs v d) vs) ≡ true → list_any test xs ≡ true
any_map test xs d [] within h = absurd (true≢false (sym h))
any_map test xs d (v ∷ vs) within h =
    elim (or_cases (test (get_or xs v d)) (list_any test (map (λ u. get_or xs u d) vs)) h) [
      | inl here ↦ list_any_at test xs v d (All-head (λ (u : ℕ). u < length xs) v vs within) here
      | inr later ↦ any_map test xs d vs (All-tail (λ (u : ℕ). u < length xs) v vs within) later
    ]

zip_map : (sizes : List ℕ) (labels : List (List (List ℕ))) (vs : List ℕ) → AllZip AreLabels sizes labels → All (λ v. v < length sizes) vs
    → AllZip AreLabels (map (λ v. slice_index sizes v) vs) (map (λ v. get_or labels v []) vs)
zip_map sizes labels [] all within = tt
zip_map sizes labels (v ∷ vs) all within = (
  zip_at sizes labels v all (All-head (λ (u : ℕ). u < length sizes) v vs within),
  zip_map sizes labels vs all (All-tail (λ (u : ℕ). u < length sizes) v vs within),
) where
  zip_at : (ss : List ℕ) (ls : List (List (List ℕ))) (k : ℕ) → AllZip AreLabels ss ls → k < length ss → AreLabels (slice_index ss k) (get_or ls k [])
  zip_at [] ls k all lt = absurd (omega arith)
  zip_at (s ∷ ss) [] k all lt = absurd all
  zip_at (s ∷ ss) (l ∷ ls) zero all lt = all.0
  zip_at (s ∷ ss) (l ∷ ls) (suc k) all lt = zip_at ss ls k all.1 (omega arith)

-- as many value names as sizes
pub labels_long : (ss : List ℕ) (ls : List (List (List ℕ))) → AllZip AreLabels ss ls → length ls ≡ length ss
labels_long [] [] all = refl
labels_long [] (l ∷ ls) all = absurd all
labels_long (s ∷ ss) [] all = absurd all
labels_long (s ∷ ss) (l ∷ ls) all = ap (λ (n : ℕ). suc n) (labels_long ss ls all.1)

wide_same : (order : List ℕ) (ts us : List CostTable) → AllZip (IsTableFor order) ts us → has_wide_table us ≡ has_wide_table ts
wide_same order [] [] are = refl
wide_same order [] (u ∷ us) are = absurd are
wide_same order (t ∷ ts) [] are = absurd are
wide_same order (t ∷ ts) (u ∷ us) are =
    let long : length u.scope ≡ length t.scope = sym (length-map (slice_index order) u.scope) ∙ ap length are.0.scope in
    ap (λ (n : ℕ). ltb 2 n || has_wide_table us) long ∙ ap (λ (b : Bool). ltb 2 (length t.scope) || b) (wide_same order ts us are.1)

-- the file with the parts of another one in another order is a file
pub reordered_file : (f g : TextFile) (order : List ℕ) → IsFile f → IsReordered f order g → IsDistinct bytes_eq g.names → IsFile g
reordered_file f g order file is distinct =
    let many = is.is_order.many in
    let named = file.named in
    let within_names : All (λ v. v < length f.names) order = λ k d lt. let below = is.is_order.within k d lt in omega (arith, below, named) in
    let labelled = labels_long f.problem.sizes f.labels file.labels in
    let within_labels : All (λ v. v < length f.labels) order = λ k d lt. let below = is.is_order.within k d lt in omega (arith, below, labelled) in
    record {
      version = version_kept f.version g.version is.version file.version;
      second = λ h. is.version ∙ file.second (needs within_labels h);
      named = ap length is.names ∙ length-map (λ v. get_or f.names v []) order ∙ sym (ap length is.sizes ∙ length-map (λ v. slice_index f.problem.sizes v) order);
      distinct = distinct;
      names = ap (list_all is_name) is.names ∙ all_map is_name (λ v. get_or f.names v []) order (length f.names) (λ v lt. all_at is_name f.names [] file.names v lt) within_names;
      labels = subst (λ (ss : List ℕ). AllZip AreLabels ss g.labels) (sym is.sizes)
          (subst (λ (ls : List (List (List ℕ))). AllZip AreLabels (map (λ v. slice_index f.problem.sizes v) order) ls) (sym is.labels)
          (zip_map f.problem.sizes f.labels order file.labels is.is_order.within));
    }
  where
    version_kept : (a b : ℕ) → b ≡ a → (a ≡ 1) ⊎ (a ≡ 2) → (b ≡ 1) ⊎ (b ≡ 2)
    version_kept a b e (inl one) = inl (e ∙ one)
    version_kept a b e (inr two) = inr (e ∙ two)

    needs : All (λ v. v < length f.labels) order → needs_second g ≡ true → needs_second f ≡ true
    needs within h =
        elim (or_cases (has_wide_table g.problem.tables || is_max g.goal) (has_labels g.labels) h) [
          | inl first ↦
              or_left (has_wide_table f.problem.tables || is_max f.goal) (has_labels f.labels)
              (ap (λ (b : Bool). b || is_max f.goal) (sym (wide_same order f.problem.tables g.problem.tables is.tables))
              ∙ ap (λ (x : Goal). has_wide_table g.problem.tables || is_max x) (sym is.goal) ∙ first)
          | inr labels ↦
              or_right (has_wide_table f.problem.tables || is_max f.goal) (has_labels f.labels)
              (any_map (λ names. ltb 0 (length names)) f.labels [] order within (sym (ap has_labels is.labels) ∙ labels))
        ]

-- a list at the places of all its elements is the list
pub map_range : {X : Type 0} (xs : List X) (d : X) (n : ℕ) → length xs ≡ n → map (λ v. get_or xs v d) (range_with_len 0 n) ≡ xs
map_range xs d n e =
    let long = length-map (λ (v : ℕ). get_or xs v d) (range_with_len 0 n) in
    let count = length-range_with_len 0 n in
    same_lists (map (λ v. get_or xs v d) (range_with_len 0 n)) xs (omega (arith, long, count, e))
    (λ k c lt.
    let lk : k < n = omega (arith, lt, long, count) in
    get_or-map (λ v. get_or xs v d) (range_with_len 0 n) k 0 c (omega (arith, lk, count))
    ∙ ap (λ (v : ℕ). get_or xs v d) (get_or-range_with_len 0 n k 0 lk ∙ zero-add k)
    ∙ get_or_default xs k d c (omega (arith, lk, e)))

scope_range : (n : ℕ) (scope : List ℕ) → All (λ v. v < n) scope → map (slice_index (range_with_len 0 n)) scope ≡ scope
scope_range n [] within = refl
scope_range n (v ∷ vs) within =
    ap (λ (u : ℕ). u ∷ map (slice_index (range_with_len 0 n)) vs) (get_or-range_with_len 0 n v 0 (All-head (λ (u : ℕ). u < n) v vs within) ∙ zero-add v)
    ∙ ap (λ (us : List ℕ). v ∷ us) (scope_range n vs (All-tail (λ (u : ℕ). u < n) v vs within))

range_within : (n : ℕ) (scope : List ℕ) → All (λ v. v < n) scope → All (λ v. v < length (range_with_len 0 n)) scope
range_within n scope within = subst (λ (k : ℕ). All (λ v. v < k) scope) (sym (length-range_with_len 0 n)) within

tables_range : (sizes : List ℕ) (ts : List CostTable) → All (IsTableOf sizes) ts → AllZip (IsTableFor (range_with_len 0 (length sizes))) ts ts
tables_range sizes [] of = tt
tables_range sizes (t ∷ ts) of =
    let within = (All-head (IsTableOf sizes) t ts of).within in (
      record { within = range_within (length sizes) t.scope within; scope = scope_range (length sizes) t.scope within; sizes = refl; cells = refl },
      tables_range sizes ts (All-tail (IsTableOf sizes) t ts of),
    )

-- a file is itself in the given order
pub as_given : (f : TextFile) → IsFile f → IsProblem f.problem → IsReordered f (range_with_len 0 (length f.problem.sizes)) f
as_given f file whole =
    let n : ℕ = length f.problem.sizes in
    let order = order_of_places (range_with_len 0 n) (range_with_len 0 n) (range_is_places n (range_with_len 0 n) (range_with_len 0 n) refl refl) in
    record {
      is_order = subst (λ (k : ℕ). IsOrder k (range_with_len 0 n)) (length-range_with_len 0 n) order;
      version = refl;
      goal = refl;
      names = sym (map_range f.names [] n file.named);
      labels = sym (map_range f.labels [] n (labels_long f.problem.sizes f.labels file.labels));
      sizes = sym (map_range f.problem.sizes 0 n refl);
      tables = tables_range f.problem.sizes f.problem.tables whole.tables;
    }

-- parts that are those of a file in another order make the file in that order
pub reordered_from : (f g : TextFile) (order vars : List ℕ) → IsOrder (length order) order → vars ≡ order → length order ≡ length f.problem.sizes → g.version ≡ f.version → g.goal ≡ f.goal
    → g.names ≡ map (λ v. get_or f.names v []) vars → g.labels ≡ map (λ v. get_or f.labels v []) vars → g.problem.sizes ≡ map (λ v. slice_index f.problem.sizes v) order
    → AllZip (IsTableFor order) f.problem.tables g.problem.tables → IsReordered f order g
reordered_from f g order vars is same many version goal names labels sizes tables = record {
  is_order = subst (λ (n : ℕ). IsOrder n order) many is;
  version = version;
  goal = goal;
  names = names ∙ ap (λ (vs : List ℕ). map (λ v. get_or f.names v []) vs) same;
  labels = labels ∙ ap (λ (vs : List ℕ). map (λ v. get_or f.labels v []) vs) same;
  sizes = sizes;
  tables = tables;
}
