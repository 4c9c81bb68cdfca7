-- The lists of what is told of the variables, one by one.
use Rattle.std.proofs.Common.{◌≡◌, ℕ, zero, suc, ◌+◌, ◌<◌, List, [], ◌∷◌, length, get_or, map, refl, sym, ap, ◌∙◌, arith}
use Rattle.std.specs.List.{range_with_len}
use Rattle.std.proofs.lemmas.List.FromFn.{get_or-map-range_with_len}
use Rattle.dcop_base.specs.Problem.{Dcop}
use Rattle.pseudotree.specs.Place.{sizes_of}
use Rattle.dcop_optimum.specs.Certificate.{util_of}
use Rattle.certificate_text.specs.declared.certificate.Util.{Util}
use Rattle.minimised_problem.specs.Told.{told, sized, scopes_told, cells_told}

-- lists by the same function of each variable are the same
map_from : {X : Type 0} (f g : ℕ → X) (s n : ℕ) → ((i : ℕ) → i < n → f (s + i) ≡ g (s + i)) → map f (range_with_len s n) ≡ map g (range_with_len s n)
map_from f g s zero same = refl
map_from {X} f g s (suc n) same =
    let here : f s ≡ g s = ap f (let e : s ≡ s + 0 = omega arith in e) ∙ same 0 (omega arith) ∙ ap g (let e : s + 0 ≡ s = omega arith in e) in
    ap (λ (x : X). x ∷ map f (range_with_len (s + 1) n)) here
    ∙ ap (λ (xs : List X). g s ∷ xs)
    (map_from f g (s + 1) n (λ i lt.
    let e : s + 1 + i ≡ s + suc i = omega arith in
    ap f e ∙ same (suc i) (omega arith) ∙ ap g (sym e)))

pub map_same : {X : Type 0} (f g : ℕ → X) (n : ℕ) → ((i : ℕ) → i < n → f i ≡ g i) → map f (range_with_len 0 n) ≡ map g (range_with_len 0 n)
map_same f g n same = map_from f g 0 n (λ i lt. let e : 0 + i ≡ i = omega arith in ap f e ∙ same i lt ∙ ap g (sym e))

-- the table of a variable that the lists have is what is told of it
pub table_is : (p : Dcop) (utils : List Util) (i : ℕ) → i < length p.sizes → util_of p (scopes_told p utils) (cells_told p utils) i ≡ sized p.sizes (told utils i)
table_is p utils i lt =
    let scope : get_or (scopes_told p utils) i [] ≡ (told utils i).scope = get_or-map-range_with_len (λ v. (told utils v).scope) 0 (length p.sizes) i i [] lt (omega arith) in
    let cells : get_or (cells_told p utils) i [] ≡ (told utils i).cells = get_or-map-range_with_len (λ v. (told utils v).cells) 0 (length p.sizes) i i [] lt (omega arith) in
    ap (λ (s : List ℕ). record { scope = s; sizes = sizes_of p s; cells = get_or (cells_told p utils) i [] }) scope
    ∙ ap (λ (xs : List ℕ). record { scope = (told utils i).scope; sizes = sizes_of p (told utils i).scope; cells = xs }) cells
