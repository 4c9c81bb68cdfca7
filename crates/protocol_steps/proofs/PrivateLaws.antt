-- What an agent is given of a problem is knowledge that fits together.
use Rattle.std.proofs.Common.{◌≡◌, ℕ, ◌+◌, ◌<◌, Bool, true, false, cond, not, ◌&&◌, ◌||◌, ◌==◌, List, [], ◌∷◌, map, length, get_or, Some, refl, sym, ap, subst, ◌∙◌, inl, inr, arith}
use Rattle.std.specs.Prelude.{slice_index}
use Rattle.std.specs.List.{All, AllZip, Contains, filter, range_with_len, zip}
use Rattle.std.specs.List.Sorted.{IsStrictlyIncreasing}
use Rattle.std.proofs.lemmas.Bool.{cases_Bool, cases_eq, and_from, or_left, eqb-true, eq-eqb, ne_eqb, both_ways, and_left, not_from_true}
use Rattle.std.proofs.lemmas.List.{length-map, get_or_default}
use Rattle.std.proofs.lemmas.List.Kept.{IsStrictlyIncreasing-filter}
use Rattle.std.proofs.lemmas.List.FromFn.{length-range_with_len, get_or-range_with_len}
use Rattle.std.proofs.lemmas.List.Folds.{list_any_at, Any-from_list_any}
use Rattle.std.proofs.lemmas.List.Elements.{All-nil, All-cons, All-head, All-tail, All-weaker, All-map, All-contains, filter_passes}
use Rattle.dcop_base.specs.Table.{CostTable, has}
use Rattle.dcop_base.specs.Problem.{Dcop}
use Rattle.dcop_base.specs.Graph.{share_table, are_joined, are_neighbours, neighbours}
use Rattle.dcop_base.specs.Whole.{IsTableOf, IsProblem}
use Rattle.dcop_base.specs.Knowledge.{private_of, acquaintance_of}
use Rattle.dcop_base.specs.Limits.{variable_limit}
use Rattle.dcop_base.proofs.KnowledgeLaws.{All-filter-range}
use Rattle.pseudotree.proofs.NestLaws.{filter_has}
use Rattle.pseudotree.proofs.SpreadLaws.{any_in_range}
use Rattle.adopt_context.specs.Context.{value_in}
use Rattle.protocol_steps.specs.Knowledge.{IsSize, known_sizes, IsKnownTable, IsKnowledge, PrivatesAreKnowledge, AcquaintancesAreKnowledge}

-- a number that stands in a list is one of its elements, and each element stands in it
pub contains_from_has : (xs : List ℕ) (x : ℕ) → has xs x ≡ true → Contains xs x
contains_from_has xs x h =
    let some = Any-from_list_any (λ y. y == x) xs h in
    (some.0, some.2, get_or_default xs some.0 x some.1 some.2 ∙ some.3 ∙ eqb-true some.1 x some.4)

pub has_at : (xs : List ℕ) (k d : ℕ) → k < length xs → has xs (get_or xs k d) ≡ true
has_at xs k d lt = list_any_at (λ y. y == get_or xs k d) xs k d lt (eq-eqb (get_or xs k d) (get_or xs k d) refl)

-- what is looked up among sizes that are read off
value_of_zip : (f : ℕ → ℕ) (xs : List ℕ) (u : ℕ) → has xs u ≡ true → value_in (zip xs (map f xs)) u ≡ Some (f u)
value_of_zip f [] u h = absurd (both_ways false refl h)
value_of_zip f (x ∷ xs) u h =
    elim (cases_Bool (x == u)) [
      | inl same ↦ ap (λ b. cond b (Some (f x)) (value_in (zip xs (map f xs)) u)) same ∙ ap (λ y. Some (f y)) (eqb-true x u same)
      | inr other ↦
          ap (λ b. cond b (Some (f x)) (value_in (zip xs (map f xs)) u)) other
          ∙ value_of_zip f xs u (subst (λ (b : Bool). (b || has xs u) ≡ true) other h)
    ]

module _ {X : Type 0} {Y : Type 0} (R : X → Y → Type 0) (f : X → Y) where
  all_zip_map : (xs : List X) → All (λ x. R x (f x)) xs → AllZip R xs (map f xs)
  all_zip_map [] h = tt
  all_zip_map (x ∷ xs) h = (All-head (λ y. R y (f y)) x xs h, all_zip_map xs (All-tail (λ y. R y (f y)) x xs h))

module _ {X : Type 0} (p : X → Bool) (P Q : X → Type 0) where
  filter_gives : ((x : X) → P x → p x ≡ true → Q x) → (xs : List X) → All P xs → All Q (filter p xs)
  filter_gives gives [] h = All-nil Q
  filter_gives gives (x ∷ xs) h =
      let rest = filter_gives gives xs (All-tail P x xs h) in
      elim (cases_Bool (p x)) [
        | inl passes ↦ subst (λ (b : Bool). All Q (cond b (x ∷ filter p xs) (filter p xs))) (sym passes) (All-cons Q x (filter p xs) (gives x (All-head P x xs h) passes) rest)
        | inr fails ↦ subst (λ (b : Bool). All Q (cond b (x ∷ filter p xs) (filter p xs))) (sym fails) rest
      ]

range_increases : (n : ℕ) → IsStrictlyIncreasing (range_with_len 0 n)
range_increases n k h =
    let lt : k + 1 < n = rw (← (length-range_with_len 0 n)) h in
    let one : get_or (range_with_len 0 n) k 0 ≡ k = get_or-range_with_len 0 n k 0 (omega arith) ∙ omega arith in
    let next : get_or (range_with_len 0 n) (k + 1) 0 ≡ k + 1 = get_or-range_with_len 0 n (k + 1) 0 lt ∙ omega arith in
    omega arith

module _ (p : Dcop) (i : ℕ) (whole : IsProblem p) (known : i < length p.sizes) where
  abbrev size_at : ℕ → ℕ
  size_at u = slice_index p.sizes u

  size_ok : (u : ℕ) → u < length p.sizes → IsSize (size_at u)
  size_ok u h = whole.sizes u 0 h

  abbrev Fits : CostTable → Type 0
  Fits t = IsTableOf p.sizes t × ((u : ℕ) → (has t.scope i && has t.scope u) ≡ true → share_table p.tables i u ≡ true)

  all_fit : All Fits p.tables
  all_fit k d lt = (whole.tables k d lt, λ u h. list_any_at (λ t. has t.scope i && has t.scope u) p.tables k d lt h)

  -- a neighbour by a table
  beside : (u : ℕ) → u < length p.sizes → (i ≡ u → ⊥) → share_table p.tables i u ≡ true → has (neighbours p i) u ≡ true
  beside u lt apart h =
      let there : has (range_with_len 0 (length p.sizes)) u ≡ true = any_in_range (λ y. y == u) (length p.sizes) u lt (eq-eqb u u refl) in
      let other : not (i == u) ≡ true = ap not (ne_eqb i u apart) in
      filter_has (are_neighbours p i) (range_with_len 0 (length p.sizes)) u there (and_from (not (i == u)) (share_table p.tables i u || are_joined p.joints i u) other (or_left (share_table p.tables i u) (are_joined p.joints i u) h))

  sized_at : (t : CostTable) → Fits t → has t.scope i ≡ true → (u : ℕ) → has t.scope u ≡ true → u < length p.sizes → value_in (known_sizes (private_of p i)) u ≡ Some (size_at u)
  sized_at t fits mine u there lt =
      let rest = value_in (zip (neighbours p i) (map size_at (neighbours p i))) u in
      elim (cases_eq i u) [
        | inl same ↦ ap (λ b. cond b (Some (size_at i)) rest) (eq-eqb i u same) ∙ ap (λ v. Some (size_at v)) same
        | inr apart ↦
            ap (λ b. cond b (Some (size_at i)) rest) (ne_eqb i u apart)
            ∙ value_of_zip size_at (neighbours p i) u (beside u lt apart (fits.1 u (and_from (has t.scope i) (has t.scope u) mine there)))
      ]

  known_table : (t : CostTable) → Fits t → has t.scope i ≡ true → IsKnownTable (private_of p i) t
  known_table t fits mine = record {
    named = contains_from_has t.scope i mine;
    sized = subst (λ (ss : List ℕ). AllZip (λ u s. value_in (known_sizes (private_of p i)) u ≡ Some s) t.scope ss) (sym fits.0.sized)
        (all_zip_map (λ u s. value_in (known_sizes (private_of p i)) u ≡ Some s) size_at t.scope
        (λ k d lt. sized_at t fits mine (get_or t.scope k d) (has_at t.scope k d lt) (fits.0.within k d lt)));
  }

  not_itself : ¬ Contains (neighbours p i) i
  not_itself c =
      let test : are_neighbours p i i ≡ true = All-contains (λ u. are_neighbours p i u ≡ true) (neighbours p i) i (filter_passes (are_neighbours p i) (range_with_len 0 (length p.sizes))) c in
      let self : not (i == i) ≡ false = not_from_true (i == i) (eq-eqb i i refl) in
      both_ways (are_neighbours p i i) (and_left (not (i == i)) (share_table p.tables i i || are_joined p.joints i i) self) test

  below_count : All (λ u. u < length p.sizes) (neighbours p i)
  below_count = All-filter-range (are_neighbours p i) (length p.sizes)

  fits_together : IsKnowledge (private_of p i)
  fits_together = record {
    ascend = IsStrictlyIncreasing-filter (are_neighbours p i) (range_with_len 0 (length p.sizes)) (range_increases (length p.sizes));
    apart = not_itself;
    sized = length-map (neighbours p i) size_at;
    tables = filter_gives (λ t. has t.scope i) Fits (IsKnownTable (private_of p i)) known_table p.tables all_fit;
    me_below = let few = whole.few in omega arith;
    below = All-weaker (λ u. u < length p.sizes) (λ u. u < variable_limit) (λ u h. let few = whole.few in omega arith) (neighbours p i) below_count;
    size = size_ok i known;
    sizes = All-map IsSize size_at (neighbours p i) (All-weaker (λ u. u < length p.sizes) (λ u. IsSize (size_at u)) size_ok (neighbours p i) below_count);
  }

pub privates_are_knowledge : PrivatesAreKnowledge
privates_are_knowledge p i whole known = fits_together p i whole known

pub acquaintances_are_knowledge : AcquaintancesAreKnowledge
acquaintances_are_knowledge p i whole known =
    let own = fits_together p i whole known in
    record {
      ascend = own.ascend;
      apart = own.apart;
      sized = own.sized;
      tables = All-nil (IsKnownTable (acquaintance_of p i));
      me_below = own.me_below;
      below = own.below;
      size = own.size;
      sizes = own.sizes;
    }
