-- The place of a variable in a linked pseudotree fits what its agent is given of the problem.
use Rattle.std.proofs.Common.{◌≡◌, ℕ, zero, suc, ◌<◌, true, false, not, ◌||◌, eqb, List, [], ◌∷◌, length, get_or, Some, refl, sym, ap, subst, ◌∙◌, inl, inr, arith}
use Rattle.std.specs.List.{All, list_any, range_with_len}
use Rattle.std.proofs.lemmas.Bool.{cases_Bool, or_cases, or_left, or_from, eqb-true, eq-eqb, ne_eqb, both_ways}
use Rattle.std.proofs.lemmas.List.{length-map, length-take-le, get_or_default}
use Rattle.std.proofs.lemmas.List.Kept.{IsStrictlyIncreasing-filter}
use Rattle.std.proofs.lemmas.List.Folds.{Any-from_list_any}
use Rattle.std.proofs.lemmas.List.Elements.{All-weaker, All-map}
use Rattle.std.proofs.lemmas.Map.Keys.{IsDistinct-from_apart}
use Rattle.std.proofs.lemmas.Map.Steps.{length-le_from_distinct_below}
use Rattle.dcop_base.specs.Table.{has, has_repeat}
use Rattle.dcop_base.specs.Problem.{Dcop}
use Rattle.dcop_base.specs.Graph.{are_neighbours, neighbours}
use Rattle.dcop_base.specs.Whole.{IsProblem}
use Rattle.dcop_base.specs.Knowledge.{private_of}
use Rattle.dcop_base.specs.Limits.{variable_limit}
use Rattle.dcop_base.proofs.FirstLaws.{Contains-filter, Contains-range, IsStrictlyIncreasing-range}
use Rattle.dcop_base.proofs.JointLaws.{are_neighbours-sym}
use Rattle.pseudotree.specs.Tree.{path_of, parent_of, children_of, is_variable, is_above, IsTree}
use Rattle.pseudotree.specs.Pseudotree.{lower_of, IsPseudotree, IsLinked}
use Rattle.pseudotree.specs.Place.{sizes_of, IsPlaceOf}
use Rattle.pseudotree.specs.declared.agent.Place.{Place}
use Rattle.pseudotree.proofs.CheckLaws.{within_tree}
use Rattle.pseudotree.proofs.TreeLaws.{ancestor}
use Rattle.pseudotree.proofs.GatherLaws.{variable_is}
use Rattle.pseudotree.proofs.SpreadLaws.{any_in_range, range_any, above_child, above_above}
use Rattle.pseudotree.proofs.NestLaws.{has_filter, filter_has, above_shorter}
use Rattle.pseudotree.proofs.PlaceLaws.{path_below}
use Rattle.protocol_steps.specs.Knowledge.{IsSize}
use Rattle.protocol_steps.specs.Placing.{IsPathOf, IsPlaceFor, PlacesFit}
use Rattle.protocol_steps.specs.TreeAgents.{place_at}
use Rattle.protocol_steps.proofs.PrivateLaws.{contains_from_has, has_at}
use Rattle.protocol_steps.proofs.ValueLaws.{value_in-zip}

-- a place is that of a variable where each part is
pub place_is : (p : Dcop) (paths : List (List ℕ)) (i : ℕ) (place : Place) → IsPlaceOf p paths i place → place ≡ place_at p paths i
place_is p paths i place is =
    ap (λ (me : ℕ). record { me = me; path = place.path; path_sizes = place.path_sizes; children = place.children; lower = place.lower }) is.me
    ∙ ap (λ (path : List ℕ). record { me = i; path = path; path_sizes = place.path_sizes; children = place.children; lower = place.lower }) is.path
    ∙ ap (λ (sizes : List ℕ). record { me = i; path = path_of paths i; path_sizes = sizes; children = place.children; lower = place.lower }) is.path_sizes
    ∙ ap (λ (children : List ℕ). record { me = i; path = path_of paths i; path_sizes = sizes_of p (path_of paths i); children = children; lower = place.lower }) is.children
    ∙ ap (λ (lower : List ℕ). record { me = i; path = path_of paths i; path_sizes = sizes_of p (path_of paths i); children = children_of paths i; lower = lower }) is.lower

-- a list has no repeat where no two places have the same element
no_repeat : (xs : List ℕ) → ((a b d : ℕ) → a < b → b < length xs → get_or xs a d ≡ get_or xs b d → ⊥) → has_repeat xs ≡ false
no_repeat [] apart = refl
no_repeat (x ∷ xs) apart =
    or_from (has xs x) (has_repeat xs)
    (elim (cases_Bool (has xs x)) [
      | inl there ↦ (let at = contains_from_has xs x there in absurd (apart 0 (suc at.0) x (omega arith) (omega (arith, at.1)) (sym at.2)))
      | inr none ↦ none
    ])
    (no_repeat xs (λ a b d lt inside same. apart (suc a) (suc b) d (omega (arith, lt)) (omega (arith, inside)) same))

-- what holds of each one that stands in a list holds of all
all_from : (P : ℕ → Type 0) (xs : List ℕ) → ((u : ℕ) → has xs u ≡ true → P u) → All P xs
all_from P xs each k d lt = each (get_or xs k d) (has_at xs k d lt)

module _ (paths : List (List ℕ)) (tree : IsTree paths) (i : ℕ) where
  abbrev path : List ℕ
  path = path_of paths i

  -- no variable stands above itself
  not_above_itself : is_above paths i i ≡ true → ⊥
  not_above_itself h = let less = above_shorter paths tree i i h in omega (arith, less)

  without : has path i ≡ false
  without = elim (cases_Bool (is_above paths i i)) [ inl there ↦ absurd (not_above_itself there) | inr none ↦ none ]

  -- the depth of what stands in a path is its place there
  depth_at : (k d : ℕ) → k < length path → length (path_of paths (get_or path k d)) ≡ k
  depth_at k d lt =
      ap (λ (u : ℕ). length (path_of paths u)) (get_or_default path k d 0 lt) ∙ ap length (ancestor paths tree i k lt).1 ∙ length-take-le k path (omega (arith, lt))

  apart_at : (a b d : ℕ) → a < b → b < length path → get_or path a d ≡ get_or path b d → ⊥
  apart_at a b d lt inside same =
      let one = depth_at a d (omega (arith, lt, inside)) in
      let other = depth_at b d inside in
      let depth : length (path_of paths (get_or path a d)) ≡ length (path_of paths (get_or path b d)) = ap (λ (u : ℕ). length (path_of paths u)) same in
      omega (arith, lt, one, other, depth)

  apart_line : (a b d : ℕ) → a < b → b < length (i ∷ path) → eqb (get_or (i ∷ path) a d) (get_or (i ∷ path) b d) ≡ false
  apart_line zero zero d lt inside = absurd (omega (arith, lt))
  apart_line (suc a) zero d lt inside = absurd (omega (arith, lt))
  apart_line zero (suc b) d lt inside = ne_eqb i (get_or path b d) (λ (same : i ≡ get_or path b d).
      not_above_itself (subst (λ (u : ℕ). has path u ≡ true) (sym same) (has_at path b d (omega (arith, inside)))))
  apart_line (suc a) (suc b) d lt inside = ne_eqb (get_or path a d) (get_or path b d) (apart_at a b d (omega (arith, lt)) (omega (arith, inside)))

  -- so a path is shorter than the list of variables
  short : i < length paths → length path < length paths
  short known =
      let below : (q : ℕ) → list_any (eqb q) (i ∷ path) ≡ true → q < length paths = λ q h.
      elim (or_cases (eqb q i) (list_any (eqb q) path) h) as (λ (_ : _). q < length paths) [
        | inl same ↦ subst (λ (u : ℕ). u < length paths) (sym (eqb-true q i same)) known
        | inr later ↦
            let some = Any-from_list_any (eqb q) path later in
            subst (λ (u : ℕ). u < length paths) (some.3 ∙ sym (eqb-true q some.1 some.4)) (path_below paths tree i some.0 some.1 some.2)
      ] in
      let le = length-le_from_distinct_below (i ∷ path) (length paths) (IsDistinct-from_apart eqb (i ∷ path) apart_line) below in
      omega (arith, le)

module _ (p : Dcop) (paths : List (List ℕ)) (problem : IsProblem p) (pseudo : IsPseudotree p paths) (linked : IsLinked p paths) (i : ℕ) (known : i < length p.sizes) where
  abbrev size_at : ℕ → ℕ
  size_at u = get_or p.sizes u 0

  in_tree : i < length paths
  in_tree = let count = pseudo.sized in omega (arith, known, count)

  all_below : All (λ u. u < length p.sizes) (path_of paths i)
  all_below = All-weaker (λ u. u < length paths) (λ u. u < length p.sizes) (λ u lt. let count = pseudo.sized in omega (arith, lt, count)) (path_of paths i) (path_below paths pseudo.tree i)

  path_fits : IsPathOf i (path_of paths i) (sizes_of p (path_of paths i))
  path_fits = record {
    few = let less = short paths pseudo.tree i in_tree in let count = pseudo.sized in let few = problem.few in omega (arith, less, count, few);
    apart = no_repeat (path_of paths i) (apart_at paths pseudo.tree i);
    without = without paths pseudo.tree i;
    below = All-weaker (λ u. u < length p.sizes) (λ u. u < variable_limit) (λ u lt. let few = problem.few in omega (arith, lt, few)) (path_of paths i) all_below;
    sized = length-map (path_of paths i) size_at;
    sizes = All-map IsSize size_at (path_of paths i) (All-weaker (λ u. u < length p.sizes) (λ u. IsSize (size_at u)) (λ u lt. problem.sizes u 0 lt) (path_of paths i) all_below);
  }

  -- a neighbour is another variable of the problem
  near : (u : ℕ) → has (neighbours p i) u ≡ true → (u < length p.sizes) × (are_neighbours p i u ≡ true)
  near u h =
      let parts = has_filter (are_neighbours p i) (range_with_len 0 (length p.sizes)) u h in
      let there = range_any (λ y. eqb y u) (length p.sizes) parts.0 in
      (subst (λ (v : ℕ). v < length p.sizes) (eqb-true there.0 u there.2) there.1, parts.1)

  -- and each such one is a neighbour
  has_near : (u : ℕ) → u < length p.sizes → are_neighbours p i u ≡ true → has (neighbours p i) u ≡ true
  has_near u lt h = filter_has (are_neighbours p i) (range_with_len 0 (length p.sizes)) u (any_in_range (λ y. eqb y u) (length p.sizes) u lt (eq-eqb u u refl)) h

  -- a neighbour stands in the path or below, and not in both
  split : (u : ℕ) → has (neighbours p i) u ≡ true → has (path_of paths i) u ≡ not (has (lower_of p paths i) u)
  split u h =
      let one = near u h in
      let line : (is_above paths i u || is_above paths u i) ≡ true = pseudo.in_line i u known one.0 one.1 in
      elim (cases_Bool (has (lower_of p paths i) u)) [
        | inl below ↦
            let under : is_above paths i u ≡ true = (has_filter (is_above paths i) (neighbours p i) u below).1 in
            elim (cases_Bool (is_above paths u i)) as (λ (_ : _). has (path_of paths i) u ≡ not (has (lower_of p paths i) u)) [
              | inl above ↦ absurd (not_above_itself paths pseudo.tree i (above_above paths pseudo.tree i u i under above))
              | inr none ↦ none ∙ sym (ap not below)
            ]
        | inr none ↦
            elim (or_cases (is_above paths i u) (is_above paths u i) line) as (λ (_ : _). has (path_of paths i) u ≡ not (has (lower_of p paths i) u)) [
              | inl under ↦ absurd (both_ways (has (lower_of p paths i) u) none (filter_has (is_above paths i) (neighbours p i) u h under))
              | inr above ↦ above ∙ sym (ap not none)
            ]
      ]

  -- a child is a neighbour below
  child_below : (c : ℕ) → has (children_of paths i) c ≡ true → has (lower_of p paths i) c ≡ true
  child_below c h =
      let parent : parent_of paths c ≡ Some i = variable_is i (parent_of paths c) (has_filter (λ c. is_variable i (parent_of paths c)) (range_with_len 0 (length paths)) c h).1 in
      let lt : c < length p.sizes = (let count = pseudo.sized in let within = within_tree paths c i parent in omega (arith, count, within)) in
      filter_has (is_above paths i) (neighbours p i) c (has_near c lt (are_neighbours-sym p c i (linked c i parent)))
      (above_child paths pseudo.tree c i i parent (or_left (eqb i i) (is_above paths i i) (eq-eqb i i refl)))

  fits : IsPlaceFor (private_of p i) (place_at p paths i)
  fits = record {
    me = refl;
    path = path_fits;
    agree = λ u mine above. value_in-zip (path_of paths i) size_at u above ∙ sym (value_in-zip (neighbours p i) size_at u mine);
    split = split;
    parent = λ parent is.
        (let above = (pseudo.tree.nested i parent is).0 in
        let count = pseudo.sized in
        Contains-filter (are_neighbours p i) (range_with_len 0 (length p.sizes)) parent (Contains-range (length p.sizes) parent (omega (arith, above, count))) (linked i parent is));
    lower = (
      IsStrictlyIncreasing-filter (is_above paths i) (neighbours p i) (IsStrictlyIncreasing-filter (are_neighbours p i) (range_with_len 0 (length p.sizes)) (IsStrictlyIncreasing-range 0 (length p.sizes))),
      all_from (λ u. has (neighbours p i) u ≡ true) (lower_of p paths i) (λ u h. (has_filter (is_above paths i) (neighbours p i) u h).0),
    );
    children = (
      IsStrictlyIncreasing-filter (λ c. is_variable i (parent_of paths c)) (range_with_len 0 (length paths)) (IsStrictlyIncreasing-range 0 (length paths)),
      all_from (λ u. has (lower_of p paths i) u ≡ true) (children_of paths i) child_below,
    );
  }

pub places_fit : PlacesFit
places_fit p paths i place problem pseudo linked known is =
    subst (λ (q : Place). IsPlaceFor (private_of p i) q) (sym (place_is p paths i place is)) (fits p paths problem pseudo linked i known)
