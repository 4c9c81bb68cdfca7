-- What the parents of a pseudotree are not refused for, and that they tell one tree alone.
use Rattle.std.proofs.Common.{◌≡◌, ℕ, zero, suc, ◌<◌, ◌≤◌, true, cond, List, [], ◌∷◌, ◌++◌, length, get_or, Option, None, Some, refl, sym, ap, subst, ◌∙◌, inl, inr, arith}
use Rattle.std.specs.List.{count_by}
use Rattle.std.specs.Option.{is_none}
use Rattle.std.proofs.lemmas.Bool.{cases_Bool, cond-true, cond-false, true≢false}
use Rattle.std.proofs.lemmas.List.Sums.{sum_by-cons}
use Rattle.std.proofs.lemmas.List.FromFn.{length-map-range_with_len, fill_by_all}
use Rattle.dcop_base.specs.Problem.{Dcop}
use Rattle.pseudotree.specs.Tree.{path_of, parent_of, IsTree}
use Rattle.pseudotree.specs.Pseudotree.{IsPseudotree, are_in_line}
use Rattle.pseudotree.specs.Fault.{parents_of, root_count, ReachesRoot}
use Rattle.pseudotree.proofs.TreeLaws.{longer}
use Rattle.certificate_text.specs.declared.verdict.Differs.{Differs}
use Rattle.certificate_text.specs.declared.verdict.Differs.TheVariants.{TreeRoots, TreeLoop, TreePair}
use Rattle.certificate_check.specs.Differences.{IsTreeDifference}
use Rattle.certificate_check.proofs.RootLaws.{path_none, parent_none, parent_read, is_none_true}

-- none passes, and exactly one passes
count_zero : (ps : List (Option ℕ)) → ((j : ℕ) → j < length ps → is_none (get_or ps j None) ≡ true → ⊥) → count_by is_none ps ≡ 0
count_zero [] none = refl
count_zero (x ∷ xs) none =
    let rest = count_zero xs (λ j lt h. none (suc j) (omega arith) h) in
    let step = sum_by-cons (λ y. cond (is_none y) 1 0) x xs in
    elim (cases_Bool (is_none x)) [
      | inl here ↦ absurd (none 0 (omega arith) here)
      | inr fails ↦ let zero_is : cond (is_none x) 1 0 ≡ 0 = cond-false {A = ℕ} (is_none x) 1 0 fails in omega (arith, rest, step, zero_is)
    ]

count_one : (ps : List (Option ℕ)) (k : ℕ) → k < length ps → is_none (get_or ps k None) ≡ true → ((j : ℕ) → j < length ps → is_none (get_or ps j None) ≡ true → j ≡ k) → count_by is_none ps ≡ 1
count_one [] k lt here only = absurd (omega arith)
count_one (x ∷ xs) zero lt here only =
    let rest = count_zero xs (λ j l h. let e = only (suc j) (omega arith) h in absurd (omega (arith, e))) in
    let step = sum_by-cons (λ y. cond (is_none y) 1 0) x xs in
    let one_is : cond (is_none x) 1 0 ≡ 1 = cond-true {A = ℕ} (is_none x) 1 0 here in
    omega (arith, rest, step, one_is)
count_one (x ∷ xs) (suc k) lt here only =
    let rest = count_one xs k (omega arith) here (λ j l h. let e = only (suc j) (omega arith) h in omega (arith, e)) in
    let step = sum_by-cons (λ y. cond (is_none y) 1 0) x xs in
    elim (cases_Bool (is_none x)) [
      | inl first ↦ let e = only 0 (omega arith) first in absurd (omega (arith, e))
      | inr fails ↦ let zero_is : cond (is_none x) 1 0 ≡ 0 = cond-false {A = ℕ} (is_none x) 1 0 fails in omega (arith, rest, step, zero_is)
    ]

pub one_without : (paths : List (List ℕ)) → IsTree paths → root_count (parents_of paths) ≡ 1
one_without paths tree =
    let root : ℕ = tree.some_root.0 in
    let count : length (parents_of paths) ≡ length paths = length-map-range_with_len (parent_of paths) 0 (length paths) in
    let in_tree = tree.some_root.1.0 in
    count_one (parents_of paths) root (omega arith) (ap is_none (parent_read paths root None in_tree ∙ parent_none paths root tree.some_root.1.1)) (λ j lt h.
    let below : j < length paths = omega arith in
    tree.one_root j root (below, path_none (path_of paths j) (sym (parent_read paths j None below) ∙ is_none_true (get_or (parents_of paths) j None) h)) tree.some_root.1)

-- each variable's parents reach the root; by the length of its path
reach_to : (n : ℕ) (paths : List (List ℕ)) → IsTree paths → (v : ℕ) → length (path_of paths v) ≤ n → v < length paths → (o : Option ℕ) → parent_of paths v ≡ o → ReachesRoot (parents_of paths) v
reach_to n paths tree v short lt None is = ([], parent_read paths v None lt ∙ is)
reach_to zero paths tree v short lt (Some u) is = let long = longer paths tree v u is in absurd (omega arith)
reach_to (suc n) paths tree v short lt (Some u) is =
    let long = longer paths tree v u is in
    let rest = reach_to n paths tree u (omega arith) (tree.nested v u is).0 (parent_of paths u) refl in
    (u ∷ rest.0, (parent_read paths v None lt ∙ is, rest.1))

pub reaches : (paths : List (List ℕ)) → IsTree paths → (v : ℕ) → v < length paths → ReachesRoot (parents_of paths) v
reaches paths tree v lt = reach_to (length (path_of paths v)) paths tree v (omega arith) lt (parent_of paths v) refl

-- a tree is told by its parents
same_to : (n : ℕ) (paths others : List (List ℕ)) → IsTree paths → IsTree others → length paths ≡ length others → parents_of paths ≡ parents_of others
    → (v : ℕ) → length (path_of paths v) ≤ n → v < length paths → (o : Option ℕ) → parent_of paths v ≡ o → path_of paths v ≡ path_of others v
same_to n paths others tree other count same v short lt None is =
    let also : parent_of others v ≡ None = sym (parent_read others v None (omega arith)) ∙ ap (λ (ps : List (Option ℕ)). get_or ps v None) (sym same) ∙ parent_read paths v None lt ∙ is in
    path_none (path_of paths v) is ∙ sym (path_none (path_of others v) also)
same_to zero paths others tree other count same v short lt (Some u) is = let long = longer paths tree v u is in absurd (omega arith)
same_to (suc n) paths others tree other count same v short lt (Some u) is =
    let also : parent_of others v ≡ Some u = sym (parent_read others v None (omega arith)) ∙ ap (λ (ps : List (Option ℕ)). get_or ps v None) (sym same) ∙ parent_read paths v None lt ∙ is in
    let long = longer paths tree v u is in
    let above = same_to n paths others tree other count same u (omega arith) (tree.nested v u is).0 (parent_of paths u) refl in
    (tree.nested v u is).1 ∙ ap (λ (xs : List ℕ). xs ++ (u ∷ [])) above ∙ sym (other.nested v u also).1

pub one_tree : (paths others : List (List ℕ)) → IsTree paths → IsTree others → parents_of paths ≡ parents_of others → paths ≡ others
one_tree paths others tree other same =
    let count : length paths ≡ length others =
    sym (length-map-range_with_len (parent_of paths) 0 (length paths)) ∙ ap length same ∙ length-map-range_with_len (parent_of others) 0 (length others) in
    fill_by_all (path_of others) paths (length others) [] count (λ k lt. same_to (length (path_of paths k)) paths others tree other count same k (omega arith) (omega arith) (parent_of paths k) refl)
    ∙ sym (fill_by_all (path_of others) others (length others) [] refl (λ k lt. refl))

-- the parents of a pseudotree have no difference
pub refuted : (p : Dcop) (paths : List (List ℕ)) (parents : List (Option ℕ)) → IsPseudotree p paths → parents ≡ parents_of paths → (differs : Differs) → IsTreeDifference p parents differs → ⊥
refuted p paths parents pseudo is (TreeRoots count) h = h.1 (sym h.0 ∙ ap root_count is ∙ one_without paths pseudo.tree)
refuted p paths parents pseudo is (TreeLoop var) h =
    let lt : var < length paths = let a = h.1.within in let b = ap length is in let c = length-map-range_with_len (parent_of paths) 0 (length paths) in omega arith in
    h.1.loops (subst (λ (ps : List (Option ℕ)). ReachesRoot ps var) (sym is) (reaches paths pseudo.tree var lt))
refuted p paths parents pseudo is (TreePair one other) h =
    let split = h.least.split in
    let same = one_tree h.paths paths h.tree pseudo.tree (sym h.parents_are ∙ is) in
    let ordered = split.ordered in
    let within = split.within in
    true≢false (sym (pseudo.in_line one other (omega arith) within split.neighbours) ∙ ap (λ (ps : List (List ℕ)). are_in_line ps one other) (sym same) ∙ split.apart)
refuted p paths parents pseudo is differs h = absurd h
