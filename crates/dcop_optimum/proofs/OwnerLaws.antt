-- The tables of a subtree: to which variables they belong, and what they read.
use Rattle.std.proofs.Common.{◌≡◌, ℕ, ◌+◌, ◌<◌, ◌⊎◌, Bool, true, false, ◌&&◌, ◌||◌, not, cond, eqb, List, [], ◌∷◌, length, map, get_or, Option, Some, refl, sym, ap, subst, ◌∙◌, inl, inr, arith, All}
use Rattle.std.specs.List.{sum_by, filter, range_with_len}
use Rattle.std.proofs.lemmas.Bool.{cases_Bool, cond-true, cond-false, and_from, or_left, or_right, eqb-true, eq-eqb, ne_eqb, not_from_false, false_from_ne_true, true≢false}
use Rattle.std.proofs.lemmas.List.Elements.{All-head, All-tail}
use Rattle.std.proofs.lemmas.List.Folds.{list_any_at}
use Rattle.std.proofs.lemmas.List.Sums.{sum_by-cons}
use Rattle.dcop_base.specs.Table.{CostTable, has, cell_place}
use Rattle.dcop_base.specs.Problem.{Dcop}
use Rattle.dcop_base.specs.Graph.{are_neighbours, share_table, are_joined}
use Rattle.dcop_base.specs.Whole.{IsProblem}
use Rattle.pseudotree.specs.Tree.{path_of, parent_of, children_of, is_variable, is_above}
use Rattle.pseudotree.specs.Pseudotree.{IsPseudotree, is_within, touches, separator_of}
use Rattle.pseudotree.specs.Owner.{owner_of}
use Rattle.pseudotree.proofs.CheckLaws.{within_tree}
use Rattle.pseudotree.proofs.GatherLaws.{variable_is}
use Rattle.pseudotree.proofs.MarkLaws.{or_false}
use Rattle.pseudotree.proofs.SpreadLaws.{any_in_range}
use Rattle.pseudotree.proofs.NestLaws.{has_filter, filter_has, scope_below, tables_have_owners}
use Rattle.dcop_base.specs.Values.{cell_with, cost_with}
use Rattle.dcop_optimum.specs.Subtree.{is_owner_within, own_tables_of, subtree_tables_of}
use Rattle.dcop_optimum.proofs.SumLaws.{sum_filter, sum_same, sum_both, sum_zeros, range_zeros, range_single}
use Rattle.dcop_optimum.proofs.LineLaws.{within_cases, within_above, within_self, not_both, in_line, branch, branch_child, branch_is, below_child}

-- a table of the problem and the variable to which it belongs
pub record IsOwned (p : Dcop) (paths : List (List ℕ)) (t : CostTable) : Type 0 where
  pub owner : ℕ
  pub owns : owner_of paths t.scope ≡ Some owner
  pub named : has t.scope owner ≡ true
  pub others : (u : ℕ) → has t.scope u ≡ true → is_within paths u owner ≡ true
  pub inside : (u : ℕ) → has t.scope u ≡ true → u < length p.sizes
  pub shared : (u v : ℕ) → has t.scope u ≡ true → has t.scope v ≡ true → share_table p.tables u v ≡ true

-- every table belongs to a variable
pub all_owned : (p : Dcop) (paths : List (List ℕ)) → IsProblem p → IsPseudotree p paths → All (IsOwned p paths) p.tables
all_owned p paths problem pseudo k d lt =
    let t : CostTable = get_or p.tables k d in
    let one = tables_have_owners p paths problem pseudo k d lt in
    record {
      owner = one.owner;
      owns = one.owns;
      named = one.is_deepest.named;
      others = one.is_deepest.others;
      inside = scope_below t.scope (length p.sizes) (problem.tables k d lt).within;
      shared = λ u v hu hv. list_any_at (λ (x : CostTable). has x.scope u && has x.scope v) p.tables k d lt (and_from (has t.scope u) (has t.scope v) hu hv);
    }

-- maps that agree on what stands in a list
pub map_same : (f g : ℕ → ℕ) (xs : List ℕ) → ((v : ℕ) → has xs v ≡ true → f v ≡ g v) → map f xs ≡ map g xs
map_same f g [] same = refl
map_same f g (x ∷ xs) same =
    let here : f x ≡ g x = same x (or_left (eqb x x) (has xs x) (eq-eqb x x refl)) in
    let rest : map f xs ≡ map g xs = map_same f g xs (λ v h. same v (or_right (eqb x v) (has xs v) h)) in
    cc

-- a cell reads the variables of its scope
pub cell_same : (t : CostTable) (f g : ℕ → ℕ) → ((v : ℕ) → has t.scope v ≡ true → f v ≡ g v) → cell_with t f ≡ cell_with t g
cell_same t f g same = ap (λ (values : List ℕ). get_or t.cells (cell_place t.sizes values) 0) (map_same f g t.scope same)

-- tables that pass a test cost the same where each of them has the same cell
pub cost_same : (q : CostTable → Bool) (ts : List CostTable) (f g : ℕ → ℕ) → All (λ t. q t ≡ true → cell_with t f ≡ cell_with t g) ts → cost_with (filter q ts) f ≡ cost_with (filter q ts) g
cost_same q ts f g same =
    sum_filter (λ t. cell_with t f) q ts
    ∙ sum_same (λ t. cond (q t) (cell_with t f) 0) (λ t. cond (q t) (cell_with t g) 0) ts (λ k d lt. one (get_or ts k d) (same k d lt))
    ∙ sym (sum_filter (λ t. cell_with t g) q ts)
  where
    one : (t : CostTable) → (q t ≡ true → cell_with t f ≡ cell_with t g) → cond (q t) (cell_with t f) 0 ≡ cond (q t) (cell_with t g) 0
    one t h =
        elim (cases_Bool (q t)) [
          | inl passes ↦ cond-true (q t) (cell_with t f) 0 passes ∙ h passes ∙ sym (cond-true (q t) (cell_with t g) 0 passes)
          | inr fails ↦ cond-false (q t) (cell_with t f) 0 fails ∙ sym (cond-false (q t) (cell_with t g) 0 fails)
        ]

module _ (p : Dcop) (paths : List (List ℕ)) (problem : IsProblem p) (pseudo : IsPseudotree p paths) where
  -- what a table of the subtree of i names is within i or in the separator
  pub names_near : (i : ℕ) (t : CostTable) (owned : IsOwned p paths t) → is_within paths i owned.owner ≡ true → (v : ℕ) → has t.scope v ≡ true
      → (is_within paths i v ≡ true) ⊎ (has (separator_of p paths i) v ≡ true)
  names_near i t owned within v h =
      elim (in_line paths pseudo.tree v i owned.owner (owned.others v h) within) [
        | inr lower ↦ inl lower
        | inl upper ↦
            let apart : eqb owned.owner v ≡ false = ne_eqb owned.owner v (λ (e : owned.owner ≡ v).
            not_both paths pseudo.tree i v upper (subst (λ (x : ℕ). is_within paths i x ≡ true) e within)) in
            let near : are_neighbours p owned.owner v ≡ true =
            and_from (not (eqb owned.owner v)) (share_table p.tables owned.owner v || are_joined p.joints owned.owner v) (not_from_false (eqb owned.owner v) apart)
            (or_left (share_table p.tables owned.owner v) (are_joined p.joints owned.owner v) (owned.shared owned.owner v owned.named h)) in
            let inside : owned.owner < length paths = let count = pseudo.sized in omega (arith, owned.inside owned.owner owned.named) in
            inr (filter_has (touches p paths i) (path_of paths i) v upper
            (any_in_range (λ w. is_within paths i w && are_neighbours p w v) (length paths) owned.owner inside
            (and_from (is_within paths i owned.owner) (are_neighbours p owned.owner v) within near)))
      ]

  -- the tables of the subtree of i read what is within i, and its separator
  pub subtree_reads : (i : ℕ) (f g : ℕ → ℕ) → ((v : ℕ) → is_within paths i v ≡ true → f v ≡ g v) → ((v : ℕ) → has (separator_of p paths i) v ≡ true → f v ≡ g v)
      → cost_with (subtree_tables_of p paths i) f ≡ cost_with (subtree_tables_of p paths i) g
  subtree_reads i f g below above =
      cost_same (λ t. is_owner_within paths i (owner_of paths t.scope)) p.tables f g (λ k d lt mine.
      let t : CostTable = get_or p.tables k d in
      let owned : IsOwned p paths t = all_owned p paths problem pseudo k d lt in
      let within : is_within paths i owned.owner ≡ true = sym (ap (is_owner_within paths i) owned.owns) ∙ mine in
      cell_same t f g (λ v h. elim (names_near i t owned within v h) [ inl lower ↦ below v lower | inr upper ↦ above v upper ]))

  -- the own tables of i read i and its separator
  pub own_reads_near : (i : ℕ) (f g : ℕ → ℕ) → f i ≡ g i → ((v : ℕ) → has (separator_of p paths i) v ≡ true → f v ≡ g v)
      → cost_with (own_tables_of p paths i) f ≡ cost_with (own_tables_of p paths i) g
  own_reads_near i f g at above =
      cost_same (λ t. is_variable i (owner_of paths t.scope)) p.tables f g (λ k d lt mine.
      let t : CostTable = get_or p.tables k d in
      let owned : IsOwned p paths t = all_owned p paths problem pseudo k d lt in
      let here : owned.owner ≡ i = eqb-true owned.owner i (sym (ap (is_variable i) owned.owns) ∙ mine) in
      let within : is_within paths i owned.owner ≡ true = subst (λ (x : ℕ). is_within paths i x ≡ true) (sym here) (within_self paths i) in
      cell_same t f g (λ v h.
      elim (names_near i t owned within v h) [
        | inr upper ↦ above v upper
        | inl lower ↦
            elim (within_cases paths i v lower) [
              | inl same ↦ subst (λ (x : ℕ). f x ≡ g x) (sym same) at
              | inr over ↦ absurd (not_both paths pseudo.tree v i over (subst (λ (x : ℕ). is_within paths v x ≡ true) here (owned.others v h)))
            ]
      ]))

  -- so they read i and what stands above it
  pub own_reads : (i : ℕ) (f g : ℕ → ℕ) → ((v : ℕ) → is_within paths v i ≡ true → f v ≡ g v) → cost_with (own_tables_of p paths i) f ≡ cost_with (own_tables_of p paths i) g
  own_reads i f g same =
      own_reads_near i f g (same i (within_self paths i)) (λ v h. same v (within_above paths v i (has_filter (touches p paths i) (path_of paths i) v h).0))

  -- a number counted for what is within i is counted for i alone or within one child of i
  pub one_part : (i v x : ℕ) → cond (is_within paths i v) x 0 ≡ cond (eqb v i) x 0 + sum_by (λ c. cond (is_within paths c v) x 0) (children_of paths i)
  one_part i v x =
      let f : ℕ → ℕ = λ (c : ℕ). cond (is_variable i (parent_of paths c)) (cond (is_within paths c v) x 0) 0 in
      let all : sum_by (λ c. cond (is_within paths c v) x 0) (children_of paths i) ≡ sum_by f (range_with_len 0 (length paths)) =
      sum_filter (λ c. cond (is_within paths c v) x 0) (λ c. is_variable i (parent_of paths c)) (range_with_len 0 (length paths)) in
      let zero_else : (c : ℕ) → ((parent_of paths c ≡ Some i) → (is_within paths c v ≡ true) → ⊥) → f c ≡ 0 = λ c h. nothing i c v x h in
      elim (cases_Bool (is_above paths i v)) [
        | inl above ↦
            let child = branch_child paths pseudo.tree i v above in
            let b : ℕ = branch paths i v in
            let within : cond (is_within paths i v) x 0 ≡ x = cond-true (is_within paths i v) x 0 (within_above paths i v above) in
            let differs : eqb v i ≡ false = ne_eqb v i (λ (e : v ≡ i). not_both paths pseudo.tree i i (subst (λ (y : ℕ). is_above paths i y ≡ true) e above) (within_self paths i)) in
            let not_own : cond (eqb v i) x 0 ≡ 0 = cond-false (eqb v i) x 0 differs in
            let at : f b ≡ x =
            cond-true (is_variable i (parent_of paths b)) (cond (is_within paths b v) x 0) 0 (ap (is_variable i) child.0 ∙ eq-eqb i i refl) ∙ cond-true (is_within paths b v) x 0 child.1 in
            let single : sum_by f (range_with_len 0 (length paths)) ≡ x =
            range_single f (length paths) b x (within_tree paths b i child.0) at
            (λ c lt ne. zero_else c (λ parent inner. absurd (ne (sym (branch_is paths pseudo.tree i c v parent inner))))) in
            omega (arith, within, not_own, all, single)
        | inr apart ↦
            let none : sum_by f (range_with_len 0 (length paths)) ≡ 0 =
            range_zeros f (length paths) (λ c lt. zero_else c (λ parent inner. true≢false (sym (below_child paths pseudo.tree i c v parent inner) ∙ apart))) in
            let same : cond (is_within paths i v) x 0 ≡ cond (eqb v i) x 0 = ap (λ (b : Bool). cond b x 0) (or_false (eqb v i) (is_above paths i v) apart) in
            omega (arith, same, all, none)
      ] where
        nothing : (i c v x : ℕ) → ((parent_of paths c ≡ Some i) → (is_within paths c v ≡ true) → ⊥) → cond (is_variable i (parent_of paths c)) (cond (is_within paths c v) x 0) 0 ≡ 0
        nothing i c v x h =
            elim (cases_Bool (is_variable i (parent_of paths c))) [
              | inl parent ↦
                  cond-true (is_variable i (parent_of paths c)) (cond (is_within paths c v) x 0) 0 parent
                  ∙ cond-false (is_within paths c v) x 0 (false_from_ne_true (is_within paths c v) (h (variable_is i (parent_of paths c) parent)))
              | inr other ↦ cond-false (is_variable i (parent_of paths c)) (cond (is_within paths c v) x 0) 0 other
            ]

  -- tables that pass the test of i are its own or those of one child's subtree
  split_tables : (i : ℕ) (w : CostTable → ℕ) (ts : List CostTable) → All (IsOwned p paths) ts
      → sum_by (λ t. cond (is_owner_within paths i (owner_of paths t.scope)) (w t) 0) ts
      ≡ sum_by (λ t. cond (is_variable i (owner_of paths t.scope)) (w t) 0) ts
      + sum_by (λ c. sum_by (λ t. cond (is_owner_within paths c (owner_of paths t.scope)) (w t) 0) ts) (children_of paths i)
  split_tables i w [] owned = omega (arith, sum_zeros (λ (c : ℕ). 0) (children_of paths i) (λ c. refl))
  split_tables i w (t ∷ ts) owned =
      let mine : IsOwned p paths t = All-head (IsOwned p paths) t ts owned in
      let rest = split_tables i w ts (All-tail (IsOwned p paths) t ts owned) in
      let within : ℕ → CostTable → ℕ = λ (c : ℕ) (t : CostTable). cond (is_owner_within paths c (owner_of paths t.scope)) (w t) 0 in
      let own : CostTable → ℕ = λ (t : CostTable). cond (is_variable i (owner_of paths t.scope)) (w t) 0 in
      let both : sum_by (λ c. sum_by (within c) (t ∷ ts)) (children_of paths i) ≡ sum_by (λ c. within c t) (children_of paths i) + sum_by (λ c. sum_by (within c) ts) (children_of paths i) =
      sum_both (λ c. sum_by (within c) (t ∷ ts)) (λ c. within c t) (λ c. sum_by (within c) ts) (children_of paths i) (λ c. sum_by-cons (within c) t ts) in
      let part : within i t ≡ own t + sum_by (λ c. within c t) (children_of paths i) =
      subst (λ (o : Option ℕ). cond (is_owner_within paths i o) (w t) 0 ≡ cond (is_variable i o) (w t) 0 + sum_by (λ c. cond (is_owner_within paths c o) (w t) 0) (children_of paths i))
      (sym mine.owns) (one_part i mine.owner (w t)) in
      omega (arith, both, part, rest, sum_by-cons (within i) t ts, sum_by-cons own t ts)

  -- what the tables of a subtree weigh is what the own tables weigh, and what those of the children's subtrees do
  pub weight_split : (i : ℕ) (w : CostTable → ℕ) → sum_by w (subtree_tables_of p paths i) ≡ sum_by w (own_tables_of p paths i) + sum_by (λ c. sum_by w (subtree_tables_of p paths c)) (children_of paths i)
  weight_split i w =
      let left = sum_filter w (λ t. is_owner_within paths i (owner_of paths t.scope)) p.tables in
      let own = sum_filter w (λ t. is_variable i (owner_of paths t.scope)) p.tables in
      let children : sum_by (λ c. sum_by w (subtree_tables_of p paths c)) (children_of paths i)
      ≡ sum_by (λ c. sum_by (λ t. cond (is_owner_within paths c (owner_of paths t.scope)) (w t) 0) p.tables) (children_of paths i) =
      sum_same (λ c. sum_by w (subtree_tables_of p paths c)) (λ c. sum_by (λ t. cond (is_owner_within paths c (owner_of paths t.scope)) (w t) 0) p.tables) (children_of paths i)
      (λ k d lt. sum_filter w (λ t. is_owner_within paths (get_or (children_of paths i) k d) (owner_of paths t.scope)) p.tables) in
      let split = split_tables i w p.tables (all_owned p paths problem pseudo) in
      omega (arith, left, own, children, split)

  -- the same, of costs
  pub cost_split : (i : ℕ) (value : ℕ → ℕ) → cost_with (subtree_tables_of p paths i) value
      ≡ cost_with (own_tables_of p paths i) value + sum_by (λ c. cost_with (subtree_tables_of p paths c) value) (children_of paths i)
  cost_split i value = weight_split i (λ t. cell_with t value)
