-- Neighbours of a problem are neighbours of each other.
use Rattle.std.proofs.Common.{◌≡◌, ℕ, ◌+◌, ◌<◌, Bool, true, false, cond, List, [], ◌∷◌, length, refl, sym, ap, subst, ◌∙◌, inl, inr, arith}
use Rattle.std.specs.List.{filter, range_with_len, Contains}
use Rattle.std.proofs.lemmas.List.FromFn.{length-range_with_len, get_or-range_with_len}
use Rattle.dcop_base.specs.Problem.{Dcop}
use Rattle.dcop_base.specs.Graph.{neighbours, are_neighbours}
use Rattle.dcop_base.proofs.FirstLaws.{Contains-cases, Contains-head, Contains-tail, Contains-none, Contains-filter, Contains-range}
use Rattle.dcop_base.proofs.JointLaws.{are_neighbours-sym}

filter_step : (f : ℕ → Bool) (y : ℕ) (ys : List ℕ) (x : ℕ) (b : Bool) → f y ≡ b → (Contains (filter f ys) x → (f x ≡ true) × Contains ys x) → Contains (cond b (y ∷ filter f ys) (filter f ys)) x
    → (f x ≡ true) × Contains (y ∷ ys) x
filter_step f y ys x true h more c = elim (Contains-cases y (filter f ys) x c) [
  | inl e ↦ (ap f (sym e) ∙ h, subst (λ (z : ℕ). Contains (y ∷ ys) z) e (Contains-head y ys))
  | inr d ↦ (let r = more d in (r.0, Contains-tail y ys x r.1))
]
filter_step f y ys x false h more c = let r = more c in (r.0, Contains-tail y ys x r.1)

-- an element that a filter keeps passes its test and is in the list
pub from_filter : (f : ℕ → Bool) (ys : List ℕ) (x : ℕ) → Contains (filter f ys) x → (f x ≡ true) × Contains ys x
from_filter f [] x c = absurd (Contains-none x c)
from_filter f (y ∷ ys) x c = filter_step f y ys x (f y) refl (from_filter f ys x) c

from_range : (n x : ℕ) → Contains (range_with_len 0 n) x → x < n
from_range n x c =
    let inside : c.0 < n = subst (λ (m : ℕ). c.0 < m) (length-range_with_len 0 n) c.1 in
    let is : 0 + c.0 ≡ x = sym (get_or-range_with_len 0 n c.0 x inside) ∙ c.2 in
    omega (arith, inside, is)

pub near_back : (p : Dcop) (i j : ℕ) → i < length p.sizes → Contains (neighbours p i) j → (j < length p.sizes) × Contains (neighbours p j) i
near_back p i j lt c =
    let r = from_filter (are_neighbours p i) (range_with_len 0 (length p.sizes)) j c in (
      from_range (length p.sizes) j r.1,
      Contains-filter (are_neighbours p j) (range_with_len 0 (length p.sizes)) i (Contains-range (length p.sizes) i lt) (are_neighbours-sym p i j r.0),
    )
