-- Variable 0 is the root of the depth-first tree.
use Rattle.std.proofs.Common.{◌≡◌, ℕ, zero, suc, List, [], ◌∷◌, ◌++◌, length, Option, Some, None, refl, ap, ◌∙◌, arith}
use Rattle.std.proofs.lemmas.List.FromFn.{get_or-map-range_with_len, length-map-range_with_len}
use Rattle.dcop_base.specs.Problem.{Dcop}
use Rattle.dcop_base.specs.Whole.{IsProblem}
use Rattle.pseudotree.specs.Tree.{path_of, IsRoot}
use Rattle.pseudotree.specs.DepthFirst.{Visit, next_of, and_next, visit, path_in, search_of, dfs}

-- a search keeps the variable that it saw first
abbrev KeepsFirst : Visit → List Visit → Type 0
KeepsFirst s seen = (rest : List Visit) × (seen ≡ s ∷ rest)

next-keeps : (s : Visit) (ss : List Visit) (o : Option ℕ) (go : ℕ → List Visit) → ((w : ℕ) → KeepsFirst s (go w)) → KeepsFirst s (and_next o (s ∷ ss) go)
next-keeps s ss None go keeps = (ss, refl)
next-keeps s ss (Some w) go keeps = keeps w

visit-keeps : (p : Dcop) (steps v : ℕ) (path : List ℕ) (s : Visit) (ss : List Visit) → KeepsFirst s (visit p steps v path (s ∷ ss))
visit-keeps p zero v path s ss = (ss, refl)
visit-keeps p (suc steps) v path s ss =
    next-keeps s ss (next_of p (s ∷ ss) v)
    (λ w. visit p steps v path (visit p steps w (path ++ (v ∷ [])) ((s ∷ ss) ++ (record { var = w; path = path ++ (v ∷ []) } ∷ []))))
    (λ w.
    let below = visit-keeps p steps w (path ++ (v ∷ [])) s (ss ++ (record { var = w; path = path ++ (v ∷ []) } ∷ [])) in
    let on = visit-keeps p steps v path s below.0 in
    (on.0, ap (λ (seen : List Visit). visit p steps v path seen) below.1 ∙ on.1))

-- so the path of variable 0 is empty
pub root-zero : (p : Dcop) → IsProblem p → IsRoot (dfs p) 0
root-zero p whole =
    let long : length (dfs p) ≡ length p.sizes = length-map-range_with_len (path_in (search_of p)) 0 (length p.sizes) in
    let some = whole.some in
    let path : path_of (dfs p) 0 ≡ path_in (search_of p) 0 = get_or-map-range_with_len (path_in (search_of p)) 0 (length p.sizes) 0 0 [] (omega (arith, some)) refl in
    let first = visit-keeps p (length p.sizes) 0 [] (record { var = 0; path = [] }) [] in
    (omega (arith, long, some), path ∙ ap (λ (seen : List Visit). path_in seen 0) first.1)
