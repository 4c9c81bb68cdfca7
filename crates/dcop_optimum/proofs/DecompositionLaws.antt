-- The decomposition law: a subtree optimum from the children's, and the root's.
use Rattle.std.proofs.Common.{◌≡◌, ℕ, ◌<◌, ◌≤◌, Bool, true, false, cond, List, length, get_or, Some, refl, sym, ap, subst, ◌∙◌, inl, inr, arith}
use Rattle.std.proofs.lemmas.Bool.{cases_eq, cases_lt, cond-true, cond-false, cond_both, eq-eqb, false_from_ne_true, true≢false}
use Rattle.std.proofs.lemmas.List.{get_or_past}
use Rattle.std.proofs.lemmas.List.FromFn.{fill_by_all}
use Rattle.std.proofs.lemmas.List.Elements.{All-weaker, length_all_zip}
use Rattle.dcop_base.specs.Table.{CostTable, has}
use Rattle.dcop_base.specs.Problem.{Dcop, IsAssignment, cost}
use Rattle.dcop_base.specs.Whole.{IsProblem}
use Rattle.dcop_base.specs.Limits.{size_limit}
use Rattle.pseudotree.specs.Tree.{parent_of, children_of, is_variable, is_above, IsRoot}
use Rattle.pseudotree.specs.Pseudotree.{IsPseudotree, is_within, separator_of}
use Rattle.pseudotree.specs.Owner.{owner_of}
use Rattle.pseudotree.proofs.GatherLaws.{variable_is}
use Rattle.pseudotree.proofs.SpreadLaws.{above_child}
use Rattle.dcop_base.specs.Values.{cell_with, cost_with, with_own}
use Rattle.dcop_optimum.specs.Subtree.{is_owner_within, subtree_tables_of, AreValuesAbove, AgreesAbove, IsSubtreeOptimum, SubtreeOptimaAreOne}
use Rattle.dcop_optimum.specs.Decomposition.{AreChildOptima, best_cost_at, Decomposes, DecompositionLaw, SubtreeOptimaReadSeparators}
use Rattle.dcop_optimum.specs.Enclosing.{RootBoundsEncloseOptima}
use Rattle.dcop_optimum.proofs.SumLaws.{sum_filter, sum_same, sum_le}
use Rattle.dcop_optimum.proofs.OptimumLaws.{least_within}
use Rattle.dcop_optimum.proofs.LineLaws.{within_cases, within_above, within_self, not_both, within_root}
use Rattle.dcop_optimum.proofs.OwnerLaws.{IsOwned, all_owned, own_reads, subtree_reads, cost_split}
use Rattle.dcop_optimum.proofs.JoinLaws.{listed, listed_at, listed_is, value_below, size_some, own_here, own_else, children_parent, above_in_problem, within_in_problem, separator_above, child_agrees, IsPiece, joined, joined_is, joined_agrees, joined_split}

-- one subtree has one optimum
pub subtree_optimum_same : (p : Dcop) (paths : List (List ℕ)) (i : ℕ) (value : ℕ → ℕ) (c d : ℕ) → IsSubtreeOptimum p paths i value c → IsSubtreeOptimum p paths i value d → c ≡ d
subtree_optimum_same p paths i value c d at_c at_d =
    let below = at_c.lowest at_d.attained.0 at_d.attained.1 at_d.attained.2 in
    let above = at_d.lowest at_c.attained.0 at_c.attained.1 at_c.attained.2 in
    omega (arith, below, above, at_c.attained.3, at_d.attained.3)

-- a list, but with these values above i
abbrev pub fixed_at : List (List ℕ) → ℕ → (ℕ → ℕ) → List ℕ → ℕ → ℕ
fixed_at paths i value xs v = cond (is_above paths v i) (value v) (get_or xs v 0)

-- some assignment with these values above i costs least
pub some_subtree_optimum : (p : Dcop) (paths : List (List ℕ)) (i : ℕ) (value : ℕ → ℕ) → IsProblem p → AreValuesAbove p paths i value → (least : ℕ) × IsSubtreeOptimum p paths i value least
some_subtree_optimum p paths i value problem below =
    let sizes = All-weaker (λ s. (1 ≤ s) × (s ≤ size_limit)) (λ s. 1 ≤ s) (λ s h. h.0) p.sizes problem.sizes in
    let found = least_within p.sizes sizes (λ xs. cost_with (subtree_tables_of p paths i) (λ v. get_or (listed p (fixed_at paths i value xs)) v 0)) in
    let xs : List ℕ = found.0 in (
      cost_with (subtree_tables_of p paths i) (λ v. get_or (listed p (fixed_at paths i value xs)) v 0),
      record {
        attained = (
          listed p (fixed_at paths i value xs),
          listed_is p (fixed_at paths i value xs) (λ v lt. cond_both (is_above paths v i) (value v) (get_or xs v 0) (λ x. x < get_or p.sizes v 0) (below v) (λ no. value_below p xs found.1 v lt)),
          (λ v above. listed_at p (fixed_at paths i value xs) v (sized_within v (value v) (below v above)) ∙ cond-true (is_above paths v i) (value v) (get_or xs v 0) above),
          refl,
        );
        lowest = λ ys is agrees.
            let same : ys ≡ listed p (fixed_at paths i value ys) =
            fill_by_all (fixed_at paths i value ys) ys (length p.sizes) 0 (sym (length_all_zip (λ s v. v < s) p.sizes ys is))
            (λ v lt. cond_both (is_above paths v i) (value v) (get_or ys v 0) (λ x. get_or ys v 0 ≡ x) (agrees v) (λ no. refl)) in
            let cost_is = ap (λ (zs : List ℕ). cost_with (subtree_tables_of p paths i) (λ v. get_or zs v 0)) same in
            let le = found.2 ys is in
            omega (arith, le, cost_is);
      },
    ) where
      sized_within : (v x : ℕ) → x < get_or p.sizes v 0 → v < length p.sizes
      sized_within v x lt =
          elim (cases_lt v (length p.sizes)) [
            | inl inside ↦ inside
            | inr past ↦ absurd (omega (arith, lt, get_or_past p.sizes v 0 past))
          ]

pub subtree_optima_are_one : SubtreeOptimaAreOne
subtree_optima_are_one p paths i value problem below = record {
  some = some_subtree_optimum p paths i value problem below;
  one = subtree_optimum_same p paths i value;
}

module _ (p : Dcop) (paths : List (List ℕ)) (problem : IsProblem p) (pseudo : IsPseudotree p paths) where
  -- an assignment costs no less than the best at its value of i
  pub at_least_best : (i : ℕ) (value : ℕ → ℕ) (optima : ℕ → ℕ → ℕ) → AreChildOptima p paths i value optima
      → (xs : List ℕ) → IsAssignment p xs → AgreesAbove paths i value xs → (d : ℕ) → d < get_or p.sizes i 0 → get_or xs i 0 ≡ d
      → best_cost_at p paths i value optima d ≤ cost_with (subtree_tables_of p paths i) (λ v. get_or xs v 0)
  at_least_best i value optima are xs is agrees d below at =
      let split = cost_split p paths problem pseudo i (λ v. get_or xs v 0) in
      let own = own_reads p paths problem pseudo i (λ v. get_or xs v 0) (with_own i d value) (λ v h.
      elim (cases_eq v i) [
        | inl same ↦ ap (λ (x : ℕ). get_or xs x 0) same ∙ at ∙ sym (own_here i d value v same)
        | inr ne ↦
            elim (within_cases paths v i h) [
              | inl same ↦ absurd (ne (sym same))
              | inr above ↦ agrees v above ∙ sym (own_else i d value v ne)
            ]
      ]) in
      let children = sum_le (optima d) (λ c. cost_with (subtree_tables_of p paths c) (λ v. get_or xs v 0)) (children_of paths i) (λ k e lt.
      let c : ℕ = get_or (children_of paths i) k e in
      let parent = children_parent paths i k e lt in
      (are d c below parent).lowest xs is (child_agrees p paths problem pseudo i c d value xs parent agrees at)) in
      omega (arith, split, own, children)

  -- some assignment with the value d of i costs the best there
  pub attains_best : (i : ℕ) (value : ℕ → ℕ) (optima : ℕ → ℕ → ℕ) → i < length p.sizes → AreValuesAbove p paths i value → AreChildOptima p paths i value optima
      → (d : ℕ) → d < get_or p.sizes i 0
      → (xs : List ℕ) × IsAssignment p xs × AgreesAbove paths i value xs × (cost_with (subtree_tables_of p paths i) (λ v. get_or xs v 0) ≡ best_cost_at p paths i value optima d)
  attains_best i value optima in_tree below are d lt =
      let whole = joined_split p paths problem pseudo i in_tree (with_own i d value) pieces pieces_are in
      let children = sum_same (λ c. cost_with (subtree_tables_of p paths c) (λ v. get_or (pieces c) v 0)) (optima d) (children_of paths i)
      (λ k e l. (piece (get_or (children_of paths i) k e)).2 (children_parent paths i k e l)) in (
        joined p paths i pieces,
        joined_is p paths problem pseudo i in_tree (with_own i d value) pieces pieces_are,
        (λ v above.
            joined_agrees p paths problem pseudo i in_tree (with_own i d value) pieces pieces_are v (within_above paths v i above)
            ∙ own_else i d value v (λ (e : v ≡ i). not_both paths pseudo.tree i v above (subst (λ (x : ℕ). is_within paths i x ≡ true) (sym e) (within_self paths i)))),
        omega (arith, whole, children),
      ) where
        -- a value for each variable: those that are wanted above and at i, and else 0
        plain : ℕ → ℕ
        plain v = cond (is_within paths v i) (with_own i d value v) 0

        plain_piece : IsPiece p paths i (with_own i d value) (listed p plain)
        plain_piece = record {
          assignment = listed_is p plain (λ v l. cond_both (is_within paths v i) (with_own i d value v) 0 (λ x. x < get_or p.sizes v 0) (wanted v) (λ no. size_some p problem v l));
          agrees = λ v h.
              let inside : v < length p.sizes =
              elim (within_cases paths v i h) [ inl same ↦ omega (arith, same) | inr above ↦ above_in_problem p paths problem pseudo v i above ] in
              listed_at p plain v inside ∙ cond-true (is_within paths v i) (with_own i d value v) 0 h;
        } where
          wanted : (v : ℕ) → is_within paths v i ≡ true → with_own i d value v < get_or p.sizes v 0
          wanted v h =
              elim (cases_eq v i) [
                | inl same ↦ omega (arith, own_here i d value v same, ap (λ (x : ℕ). get_or p.sizes x 0) same)
                | inr ne ↦
                    elim (within_cases paths v i h) [
                      | inl same ↦ absurd (ne (sym same))
                      | inr above ↦ omega (arith, below v above, own_else i d value v ne)
                    ]
              ]

        -- for each child the assignment that attains its subtree optimum
        piece_by : (c : ℕ) (b : Bool) → is_variable i (parent_of paths c) ≡ b
            → (xs : List ℕ) × IsPiece p paths i (with_own i d value) xs × (parent_of paths c ≡ Some i → cost_with (subtree_tables_of p paths c) (λ v. get_or xs v 0) ≡ optima d c)
        piece_by c false e = (listed p plain, plain_piece, λ parent. absurd (true≢false (sym (ap (is_variable i) parent ∙ eq-eqb i i refl) ∙ e)))
        piece_by c true e =
            let best = are d c lt (variable_is i (parent_of paths c) e) in (
              best.attained.0,
              record {
                assignment = best.attained.1;
                agrees = λ v h. best.attained.2 v (above_child paths pseudo.tree c i v (variable_is i (parent_of paths c) e) h);
              },
              λ parent. best.attained.3,
            )

        piece : (c : ℕ) → (xs : List ℕ) × IsPiece p paths i (with_own i d value) xs × (parent_of paths c ≡ Some i → cost_with (subtree_tables_of p paths c) (λ v. get_or xs v 0) ≡ optima d c)
        piece c = piece_by c (is_variable i (parent_of paths c)) refl

        pieces : ℕ → List ℕ
        pieces c = (piece c).0

        pieces_are : (c : ℕ) → IsPiece p paths i (with_own i d value) (pieces c)
        pieces_are c = (piece c).1

  -- with other values above i that are the same on the separator, some assignment costs the same
  other_above : (i : ℕ) (value other : ℕ → ℕ) → i < length p.sizes → AreValuesAbove p paths i other → ((v : ℕ) → has (separator_of p paths i) v ≡ true → value v ≡ other v)
      → (xs : List ℕ) → IsAssignment p xs → AgreesAbove paths i value xs
      → (ys : List ℕ) × IsAssignment p ys × AgreesAbove paths i other ys × (cost_with (subtree_tables_of p paths i) (λ v. get_or ys v 0) ≡ cost_with (subtree_tables_of p paths i) (λ v. get_or xs v 0))
  other_above i value other in_tree below same xs is agrees =
      let new : ℕ → ℕ = fixed_at paths i other xs in
      let at : (v : ℕ) → is_above paths v i ≡ true → get_or (listed p new) v 0 ≡ other v = λ v above.
      listed_at p new v (above_in_problem p paths problem pseudo v i above) ∙ cond-true (is_above paths v i) (other v) (get_or xs v 0) above in (
        listed p new,
        listed_is p new (λ v lt. cond_both (is_above paths v i) (other v) (get_or xs v 0) (λ x. x < get_or p.sizes v 0) (below v) (λ no. value_below p xs is v lt)),
        at,
        subtree_reads p paths problem pseudo i (λ v. get_or (listed p new) v 0) (λ v. get_or xs v 0)
            (λ v within.
            listed_at p new v (within_in_problem p paths problem pseudo i v in_tree within)
            ∙ cond-false (is_above paths v i) (other v) (get_or xs v 0) (false_from_ne_true (is_above paths v i) (λ above. not_both paths pseudo.tree i v above within)))
            (λ v h. let above = separator_above p paths problem pseudo i v h in at v above ∙ sym (same v h) ∙ sym (agrees v above)),
      )

  -- the root's subtree is the whole problem
  pub root_cost : (root : ℕ) → IsRoot paths root → (xs : List ℕ) → cost_with (subtree_tables_of p paths root) (λ v. get_or xs v 0) ≡ cost p xs
  root_cost root is xs =
      sum_filter (λ t. cell_with t (λ v. get_or xs v 0)) (λ t. is_owner_within paths root (owner_of paths t.scope)) p.tables
      ∙ sum_same (λ t. cond (is_owner_within paths root (owner_of paths t.scope)) (cell_with t (λ v. get_or xs v 0)) 0) (λ t. cell_with t (λ v. get_or xs v 0)) p.tables (λ k d lt.
      let t : CostTable = get_or p.tables k d in
      let owned : IsOwned p paths t = all_owned p paths problem pseudo k d lt in
      let inside : owned.owner < length paths = let count = pseudo.sized in omega (arith, owned.inside owned.owner owned.named) in
      cond-true (is_owner_within paths root (owner_of paths t.scope)) (cell_with t (λ v. get_or xs v 0)) 0
      (ap (is_owner_within paths root) owned.owns ∙ within_root paths pseudo.tree root owned.owner is inside))

  -- nothing stands above the root
  pub none_above : (root v : ℕ) → IsRoot paths root → is_above paths v root ≡ true → ⊥
  none_above root v is h = true≢false (sym (sym (ap (λ (xs : List ℕ). has xs v) is.1) ∙ h))

  pub decomposes : Decomposes p paths
  decomposes = record {
    recursion = λ i value optima in_tree below are m. (
      (λ best. record {
        attained =
            let xs : List ℕ = best.attained.0 in
            let d : ℕ = get_or xs i 0 in
            let inside : d < get_or p.sizes i 0 = value_below p xs best.attained.1 i in_tree in
            let least = at_least_best i value optima are xs best.attained.1 best.attained.2 d inside refl in
            let some = attains_best i value optima in_tree below are d inside in
            let lowest = best.lowest some.0 some.1 some.2 in
            (d, inside, omega (arith, least, lowest, some.3, best.attained.3));
        lowest = λ d inside.
            let some = attains_best i value optima in_tree below are d inside in
            omega (arith, best.lowest some.0 some.1 some.2, some.3);
      }),
      (λ least. record {
        attained =
            let some = attains_best i value optima in_tree below are least.attained.0 least.attained.1 in
            (some.0, some.1, some.2, some.3 ∙ least.attained.2);
        lowest = λ xs is agrees.
            let inside : get_or xs i 0 < get_or p.sizes i 0 = value_below p xs is i in_tree in
            omega (arith, least.lowest (get_or xs i 0) inside, at_least_best i value optima are xs is agrees (get_or xs i 0) inside refl);
      }),
    );
    at_root = λ root value is m. (
      (λ best. record {
        attained = (best.attained.0, best.attained.1, sym (root_cost root is best.attained.0) ∙ best.attained.3);
        lowest = λ xs within. omega (arith, best.lowest xs within (λ v h. absurd (none_above root v is h)), root_cost root is xs);
      }),
      (λ least. record {
        attained = (least.attained.0, least.attained.1, (λ v h. absurd (none_above root v is h)), root_cost root is least.attained.0 ∙ least.attained.2);
        lowest = λ xs within agrees. omega (arith, least.lowest xs within, root_cost root is xs);
      }),
    );
  }

pub decomposition_law : DecompositionLaw
decomposition_law = decomposes

pub subtree_optima_read_separators : SubtreeOptimaReadSeparators
subtree_optima_read_separators p paths i value other problem pseudo in_tree below below' same m best = record {
  attained =
      let moved = other_above p paths problem pseudo i value other in_tree below' same best.attained.0 best.attained.1 best.attained.2 in
      (moved.0, moved.1, moved.2, moved.3 ∙ best.attained.3);
  lowest = λ xs is agrees.
      let moved = other_above p paths problem pseudo i other value in_tree below (λ v h. sym (same v h)) xs is agrees in
      omega (arith, best.lowest moved.0 moved.1 moved.2, moved.3);
}

-- bounds that enclose the root enclose the optimum
pub root_bounds_enclose_optima : RootBoundsEncloseOptima
root_bounds_enclose_optima p paths root given lower upper problem pseudo is bounds m optimum =
    let best = ((decomposition_law p paths problem pseudo).at_root root (λ v. 0) is m).1 optimum in
    let below : AreValuesAbove p paths root (λ v. 0) = λ v h. absurd (none_above p paths problem pseudo root v is h) in (
      bounds.low (λ v. 0) below (λ v d h e. absurd (none_above p paths problem pseudo root v is h)) m best,
      bounds.high (λ v. 0) below (λ v d h e. absurd (none_above p paths problem pseudo root v is h)) m best,
    )
