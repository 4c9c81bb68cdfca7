-- What an agent has found is its place in the depth-first tree.
use Rattle.std.proofs.Common.{◌≡◌, ℕ, ◌+◌, ◌-◌, ◌<◌, Bool, true, false, not, cond, eqb, zero-add, List, [], ◌∷◌, ◌++◌, length, Option, Some, refl, sym, ap, ◌∙◌, inl, inr, arith}
use Rattle.std.specs.List.{concat, filter, slice_get, range_with_len}
use Rattle.std.proofs.lemmas.Bool.{cases_Bool, or_cases, or_left, or_parts, eq-eqb, not_from_true, not_from_false, true≢false}
use Rattle.std.proofs.lemmas.List.{length-append}
use Rattle.std.proofs.lemmas.List.FromFn.{length-map-range_with_len, get_or-map-range_with_len}
use Rattle.dcop_base.specs.Table.{has}
use Rattle.dcop_base.specs.Problem.{Dcop}
use Rattle.dcop_base.specs.Graph.{are_neighbours, neighbours}
use Rattle.dcop_base.specs.Whole.{IsProblem}
use Rattle.dcop_base.proofs.JointLaws.{are_neighbours-sym}
use Rattle.pseudotree.specs.Tree.{path_of, parent_of, is_variable, is_above, children_of, IsRoot}
use Rattle.pseudotree.specs.Pseudotree.{IsPseudotree, IsLinked, lower_of}
use Rattle.pseudotree.specs.DepthFirst.{Visit, path_in, search_of, dfs}
use Rattle.pseudotree.specs.declared.agent.Place.{Place}
use Rattle.pseudotree.proofs.TreeLaws.{last_push}
use Rattle.pseudotree.proofs.GatherLaws.{variable_is}
use Rattle.pseudotree.proofs.NestLaws.{filter_has, above_shorter}
use Rattle.pseudotree.proofs.SpreadLaws.{any_in_range}
use Rattle.pseudotree.proofs.SearchLaws.{depth_first_trees_are_linked}
use Rattle.protocol_steps.specs.Token.{TokenView}
use Rattle.protocol_steps.specs.View.{TokenKind, place_of}
use Rattle.run_laws.specs.TokenAgents.{place_found}
use Rattle.run_laws.proofs.MemberLaws.{in_right}
use Rattle.run_laws.proofs.Visits.{vars, heads, Found}
use Rattle.run_laws.proofs.VisitLaws.{ascend-filter, ascend-same, filter_in}
use Rattle.run_laws.proofs.CallLaws.{neighbour_in}

-- what was not seen has no path
pub no_path : (S : List Visit) (u : ℕ) → has (vars S) u ≡ false → path_in S u ≡ []
no_path [] u h = refl
no_path (s ∷ S) u h =
    let parts = or_parts (eqb s.var u) (has (vars S) u) h in
    ap (λ (b : Bool). cond b s.path (path_in S u)) parts.0 ∙ no_path S u parts.1

filters_same : (f g : ℕ → Bool) (xs : List ℕ) → ((u : ℕ) → has xs u ≡ true → f u ≡ g u) → filter f xs ≡ filter g xs
filters_same f g [] same = refl
filters_same f g (x ∷ xs) same =
    ap (λ (b : Bool). cond b (x ∷ filter f xs) (filter f xs)) (same x (or_left (eqb x x) (has xs x) (eq-eqb x x refl)))
    ∙ ap (λ (ys : List ℕ). cond (g x) (x ∷ ys) ys) (filters_same f g xs (λ u h. same u (in_right (x ∷ []) xs u h)))

module _ (p : Dcop) (problem : IsProblem p) where
  pub tree : IsPseudotree p (dfs p)
  tree = (depth_first_trees_are_linked p problem).0

  pub linked : IsLinked p (dfs p)
  linked = (depth_first_trees_are_linked p problem).1

  long : length (dfs p) ≡ length p.sizes
  long = length-map-range_with_len (path_in (search_of p)) 0 (length p.sizes)

  pub path_is : (v : ℕ) → v < length p.sizes → path_of (dfs p) v ≡ path_in (search_of p) v
  path_is v lt = get_or-map-range_with_len (path_in (search_of p)) 0 (length p.sizes) v v [] lt (zero-add v)

  -- every variable was seen: else there would be another root
  pub all_seen : has (vars (search_of p)) 0 ≡ true → path_in (search_of p) 0 ≡ [] → (v : ℕ) → v < length p.sizes → has (vars (search_of p)) v ≡ true
  all_seen seen at v lt = elim (cases_Bool (has (vars (search_of p)) v)) [
    | inl there ↦ there
    | inr out ↦
        let least = problem.some in
        let root : IsRoot (dfs p) v = (omega (arith, lt, long), path_is v lt ∙ no_path (search_of p) v out) in
        let first : IsRoot (dfs p) 0 = (omega (arith, least, long), path_is 0 (omega (arith, least)) ∙ at) in
        let same : v ≡ 0 = tree.tree.one_root v 0 root first in
        absurd (true≢false (sym seen ∙ ap (λ (x : ℕ). has (vars (search_of p)) x) (sym same) ∙ out))
  ]

  module _ (below : (u : ℕ) → has (vars (search_of p)) u ≡ true → u < length p.sizes) (i : ℕ) (lt : i < length p.sizes)
      (view : TokenView) (f : Found p (search_of p) i view) where
    in_children : (c : ℕ) → has (heads f.kept) c ≡ true → has (children_of (dfs p) i) c ≡ true
    in_children c h =
        let top = f.nested.tops c h in
        let inside : c < length p.sizes = below c (f.nested.seen c top.0) in
        let parent : parent_of (dfs p) c ≡ Some i =
        ap (λ (xs : List ℕ). slice_get xs (length xs - 1)) (path_is c inside ∙ top.1) ∙ last_push (path_in (search_of p) i) i in
        filter_has (λ x. is_variable i (parent_of (dfs p) x)) (range_with_len 0 (length (dfs p))) c
        (any_in_range (λ y. eqb y c) (length (dfs p)) c (omega (arith, inside, long)) (eq-eqb c c refl))
        (ap (is_variable i) parent ∙ eq-eqb i i refl)

    in_heads : (c : ℕ) → has (children_of (dfs p) i) c ≡ true → has (heads f.kept) c ≡ true
    in_heads c h =
        let parts = filter_in (λ x. is_variable i (parent_of (dfs p) x)) (length (dfs p)) c h in
        let parent : parent_of (dfs p) c ≡ Some i = variable_is i (parent_of (dfs p) c) parts.0 in
        let inside : c < length p.sizes = let known = parts.1 in omega (arith, known, long) in
        let near : are_neighbours p i c ≡ true = are_neighbours-sym p c i (linked c i parent) in
        let nested : path_of (dfs p) c ≡ path_of (dfs p) i ++ (i ∷ []) = (tree.tree.nested c i parent).1 in
        let deeper : length (path_of (dfs p) c) ≡ length (path_of (dfs p) i) + 1 = ap (λ (xs : List ℕ). length xs) nested ∙ length-append (path_of (dfs p) i) (i ∷ []) in
        elim (or_cases (has (path_in (search_of p) i) c) (has (concat f.kept) c) (f.whole c inside near)) [
          | inl above ↦
              let up : is_above (dfs p) c i ≡ true = ap (λ (xs : List ℕ). has xs c) (path_is i lt) ∙ above in
              let less = above_shorter (dfs p) tree.tree c i up in
              absurd (omega (arith, less, deeper))
          | inr under ↦ elim (f.nested.deep c under) [
            | inl head ↦ head
            | inr far ↦
                let one : length (path_of (dfs p) c) ≡ length (path_in (search_of p) c) = ap (λ (xs : List ℕ). length xs) (path_is c inside) in
                let two : length (path_of (dfs p) i) ≡ length (path_in (search_of p) i) = ap (λ (xs : List ℕ). length xs) (path_is i lt) in
                absurd (omega (arith, far, deeper, one, two))
          ]
        ]

    children_are : heads f.kept ≡ children_of (dfs p) i
    children_are = ascend-same (heads f.kept) (children_of (dfs p) i) f.nested.ascend (ascend-filter (λ x. is_variable i (parent_of (dfs p) x)) 0 (length (dfs p))) in_children in_heads

    either_side : (u : ℕ) → has (neighbours p i) u ≡ true → not (has (path_in (search_of p) i) u) ≡ is_above (dfs p) i u
    either_side u h =
        let parts = neighbour_in p i u h in
        let line = tree.in_line i u lt parts.1 parts.0 in
        let here : has (path_in (search_of p) i) u ≡ is_above (dfs p) u i = ap (λ (xs : List ℕ). has xs u) (sym (path_is i lt)) in
        elim (cases_Bool (is_above (dfs p) u i)) [
          | inl up ↦
              not_from_true (has (path_in (search_of p) i) u) (here ∙ up)
              ∙ sym (elim (cases_Bool (is_above (dfs p) i u)) as (λ (_ : _). is_above (dfs p) i u ≡ false) [
                | inl down ↦
                    let one = above_shorter (dfs p) tree.tree u i up in
                    let two = above_shorter (dfs p) tree.tree i u down in
                    absurd (omega (arith, one, two))
                | inr out ↦ out
              ])
          | inr out ↦
              not_from_false (has (path_in (search_of p) i) u) (here ∙ out)
              ∙ sym (elim (or_cases (is_above (dfs p) i u) (is_above (dfs p) u i) line) [
                | inl down ↦ down
                | inr up ↦ absurd (true≢false (sym up ∙ out))
              ])
        ]

    lower_are : filter (λ u. not (has (path_in (search_of p) i) u)) (neighbours p i) ≡ lower_of p (dfs p) i
    lower_are = filters_same (λ u. not (has (path_in (search_of p) i) u)) (is_above (dfs p) i) (neighbours p i) either_side

    abbrev at_place : List ℕ → List ℕ → List ℕ → Option Place
    at_place path children lower = Some (record { me = i; path = path; path_sizes = []; children = children; lower = lower })

    pub place_is : place_of (TokenKind view) ≡ Some (place_found p i)
    place_is =
        ap (λ (v : TokenView). place_of (TokenKind v)) f.is
        ∙ ap (λ (xs : List ℕ). at_place (path_in (search_of p) i) (heads f.kept) xs) lower_are
        ∙ ap (λ (xs : List ℕ). at_place (path_in (search_of p) i) xs (lower_of p (dfs p) i)) children_are
        ∙ ap (λ (xs : List ℕ). at_place xs (children_of (dfs p) i) (lower_of p (dfs p) i)) (sym (path_is i lt))
