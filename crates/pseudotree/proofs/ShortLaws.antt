-- The paths of a tree are shorter than the list of its variables, since they lead along parents.
use Rattle.std.proofs.Common.{◌≡◌, ℕ, zero, suc, ◌-◌, ◌<◌, ◌≤◌, List, [], ◌∷◌, length, get_or, reverse, Option, Some, None, refl, sym, ap, subst, ◌∙◌, inl, inr, arith}
use Rattle.std.specs.List.{slice_get}
use Rattle.std.proofs.lemmas.Bool.{cases_lt, true≢false}
use Rattle.std.proofs.lemmas.Option.{none-some}
use Rattle.std.proofs.lemmas.List.{get_or_past, length-reverse, reverse-append}
use Rattle.std.proofs.lemmas.List.FromFn.{get_or-map-range_with_len, length-map-range_with_len}
use Rattle.dcop_base.specs.Problem.{Dcop}
use Rattle.pseudotree.specs.Tree.{path_of, parent_of, IsTree}
use Rattle.pseudotree.specs.Pseudotree.{IsPseudotree}
use Rattle.pseudotree.specs.Fault.{parent_at, parents_of, IsClimb}
use Rattle.pseudotree.specs.Climb.{AreKnown, IsSplitFault}
use Rattle.pseudotree.specs.Marks.{AreShort}
use Rattle.pseudotree.specs.declared.fault.TreeFault.{TreeFault}
use Rattle.pseudotree.specs.declared.fault.TreeFault.TheVariants.{Roots, Loop, Pair, NoMemory}
use Rattle.pseudotree.proofs.ClimbLaws.{climb_short}
use Rattle.pseudotree.proofs.TreeLaws.{last_there, longer}

-- the parent of each variable, in the tree as in the list of its parents
parent_same : (paths : List (List ℕ)) (v : ℕ) → parent_at (parents_of paths) v ≡ parent_of paths v
parent_same paths v =
    let long : length (parents_of paths) ≡ length paths = length-map-range_with_len (parent_of paths) 0 (length paths) in
    elim (cases_lt v (length paths)) [
      | inl lt ↦ get_or-map-range_with_len (parent_of paths) 0 (length paths) v v None lt (omega arith)
      | inr past ↦ get_or_past (parents_of paths) v None (omega arith) ∙ sym (ap (λ (xs : List ℕ). slice_get xs (length xs - 1)) (get_or_past paths v [] past))
    ]

empty_from : (xs : List ℕ) → length xs ≡ 0 → xs ≡ []
empty_from [] e = refl
empty_from (x ∷ xs) e = absurd (omega arith)

-- a variable without a parent has an empty path
no_path : (paths : List (List ℕ)) (v : ℕ) → parent_of paths v ≡ None → path_of paths v ≡ []
no_path paths v none =
    elim (cases_lt 0 (length (path_of paths v))) [
      | inl some ↦ absurd (none-some (get_or (path_of paths v) (length (path_of paths v) - 1) 0) (sym none ∙ last_there (path_of paths v) some))
      | inr le ↦ empty_from (path_of paths v) (omega arith)
    ]

-- a path leads backwards along the parents; by its length
leads_back : (n : ℕ) (paths : List (List ℕ)) → IsTree paths → (v : ℕ) (o : Option ℕ) → parent_of paths v ≡ o → length (path_of paths v) ≤ n → IsClimb (parents_of paths) v (reverse (path_of paths v))
leads_back n paths tree v None is le =
    subst (λ (xs : List ℕ). IsClimb (parents_of paths) v (reverse xs)) (sym (no_path paths v is)) (parent_same paths v ∙ is)
leads_back zero paths tree v (Some u) is le = let long = longer paths tree v u is in absurd (omega arith)
leads_back (suc n) paths tree v (Some u) is le =
    let long = longer paths tree v u is in
    let back : reverse (path_of paths v) ≡ u ∷ reverse (path_of paths u) =
    ap (λ (xs : List ℕ). reverse xs) (tree.nested v u is).1 ∙ reverse-append (path_of paths u) (u ∷ []) in
    subst (λ (xs : List ℕ). IsClimb (parents_of paths) v xs) (sym back)
    (parent_same paths v ∙ is, leads_back n paths tree u (parent_of paths u) refl (omega arith))

known_parents : (paths : List (List ℕ)) → IsTree paths → AreKnown (parents_of paths)
known_parents paths tree v u h =
    let long : length (parents_of paths) ≡ length paths = length-map-range_with_len (parent_of paths) 0 (length paths) in
    let inside = (tree.nested v u (sym (parent_same paths v) ∙ h)).0 in omega arith

pub short_paths : (paths : List (List ℕ)) → IsTree paths → AreShort paths
short_paths paths tree v lt =
    let long : length (parents_of paths) ≡ length paths = length-map-range_with_len (parent_of paths) 0 (length paths) in
    let less : length (reverse (path_of paths v)) < length (parents_of paths) =
    climb_short (parents_of paths) (known_parents paths tree) v (reverse (path_of paths v)) (omega arith)
    (leads_back (length (path_of paths v)) paths tree v (parent_of paths v) refl (omega arith)) in
    omega (arith, length-reverse (path_of paths v))

-- a pseudotree has no pair that is not ancestor and descendant; running out of memory is no fault
-- of it
pub no_split : (p : Dcop) (paths : List (List ℕ)) → IsPseudotree p paths → (fault : TreeFault) → IsSplitFault p paths fault → fault ≡ NoMemory
no_split p paths is (Roots count) h = absurd h
no_split p paths is (Loop var) h = absurd h
no_split p paths is (Pair one other) h =
    let split = h.split in
    absurd (true≢false (sym (is.in_line one other (let o = split.ordered in let w = split.within in omega arith) split.within split.neighbours) ∙ split.apart))
no_split p paths is NoMemory h = refl
