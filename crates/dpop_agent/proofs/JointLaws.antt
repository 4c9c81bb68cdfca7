-- Joined tables: sums of tables, and the cells and choices that they give.
use Rattle.std.proofs.Common.{◌≡◌, ℕ, zero, suc, ◌+◌, ◌-◌, ◌*◌, ◌<◌, ltb, List, [], ◌∷◌, map, length, get_or, sym, ap, subst, ◌∙◌, inl, inr, arith}
use Rattle.std.proofs.lemmas.Bool.{cases_eq, cases_lt, cond_both, ltb-true, ltb-false}
use Rattle.std.proofs.lemmas.List.{length-map}
use Rattle.std.proofs.lemmas.Grind.{same_number_lists}
use Rattle.dcop_base.specs.Table.{product, AreWithin, cell_place}
use Rattle.adopt_context.specs.Bounds.{lowest}
use Rattle.protocol_steps.specs.Values.{choices}
use Rattle.protocol_steps.proofs.ValueLaws.{length-choices, made_cell}
use Rattle.util_project.specs.Projection.{IsLeast, IsLowestLeast}

-- the lowest of the numbers up to m at which f is least
pub lowest_is : (f : ℕ → ℕ) (m : ℕ) → IsLowestLeast f (suc m) (lowest ltb f m)
lowest_is f zero = record {
  below = omega arith;
  least = λ e lt. let at : f 0 ≡ f e = ap f (omega (arith, lt)) in omega (arith, at);
  lowest = λ e lt. absurd (omega (arith, lt));
}
lowest_is f (suc m) =
    let d : ℕ = lowest ltb f m in
    let old = lowest_is f m in
    cond_both (ltb (f (suc m)) (f d)) (suc m) d (λ (x : ℕ). IsLowestLeast f (suc (suc m)) x)
    (λ is_so.
    let less = ltb-true (f (suc m)) (f d) is_so in
    record {
      below = omega arith;
      least = λ e lt.
          elim (cases_eq e (suc m)) [
            | inl same ↦ let at : f e ≡ f (suc m) = ap f same in omega (arith, at)
            | inr other ↦ let le = old.least e (omega (arith, lt, other)) in omega (arith, le, less)
          ];
      lowest = λ e lt. let le = old.least e lt in omega (arith, le, less);
    })
    (λ not_so.
    let more = ltb-false (f (suc m)) (f d) not_so in
    record {
      below = let lt = old.below in omega (arith, lt);
      least = λ e lt.
          elim (cases_eq e (suc m)) [
            | inl same ↦ let at : f e ≡ f (suc m) = ap f same in omega (arith, at, more)
            | inr other ↦ old.least e (omega (arith, lt, other))
          ];
      lowest = old.lowest;
    })

-- there is one lowest number at which a function is least
one_lowest : (f : ℕ → ℕ) (n c d : ℕ) → IsLowestLeast f n c → IsLowestLeast f n d → c ≡ d
one_lowest f n c d one other = elim (cases_lt c d) [
  | inl before ↦ let less = other.lowest c before in let le = one.least d other.below in absurd (omega (arith, less, le))
  | inr after ↦
      elim (cases_lt d c) [
        | inl before ↦ let less = one.lowest d before in let le = other.least c one.below in absurd (omega (arith, less, le))
        | inr behind ↦ omega (arith, after, behind)
      ]
]

one_back : (m : ℕ) → suc m - 1 ≡ m
one_back m = omega arith

-- what picks the lowest value of least cost
pub picks : (f g : ℕ → ℕ) (n d : ℕ) → ((e : ℕ) → e < n → f e ≡ g e) → IsLowestLeast f n d → d ≡ lowest ltb g (n - 1)
picks f g zero d same is = let lt = is.below in absurd (omega (arith, lt))
picks f g (suc m) d same is = rw (one_back m) (one_lowest g (suc m) d (lowest ltb g m) (record {
  below = is.below;
  least = λ e lt. let le = is.least e lt in let here = same e lt in let at = same d is.below in omega (arith, le, here, at);
  lowest = λ e lt.
      let less = is.lowest e lt in
      let below = is.below in
      let here = same e (omega (arith, lt, below)) in
      let at = same d below in
      omega (arith, less, here, at);
}) (lowest_is g m))

-- the least of what f gives is what it gives at the lowest such number
pub least_of : (f g : ℕ → ℕ) (n least : ℕ) → ((e : ℕ) → e < n → f e ≡ g e) → IsLeast f n least → least ≡ g (lowest ltb g (n - 1))
least_of f g zero least same is = let lt = is.attained.1 in absurd (omega (arith, lt))
least_of f g (suc m) least same is =
    let d = is.attained.0 in
    let low = lowest_is g m in
    let at = same d is.attained.1 in
    let here = same (lowest ltb g m) low.below in
    let below = low.least d is.attained.1 in
    let above = is.lower (lowest ltb g m) low.below in
    let gives = is.attained.2 in
    rw (one_back m) omega (arith, at, here, below, above, gives)

-- a number below so many blocks stands in one of them
pub record IsInBlock (s m k : ℕ) : Type 0 where
  pub block : ℕ
  pub rest : ℕ
  pub below : block < s
  pub within : rest < m
  pub is : block * m + rest ≡ k

in_block : (s m k : ℕ) → k < s * m → IsInBlock s m k
in_block zero m k lt = absurd (omega (arith, lt))
in_block (suc s) m k lt = elim (cases_lt k m) [
  | inl first ↦ record { block = 0; rest = k; below = omega arith; within = first; is = omega arith }
  | inr later ↦
      let rest : k - m < s * m = omega (arith, lt, later) in
      let found = in_block s m (k - m) rest in
      let is = found.is in
      let below = found.below in
      record { block = suc found.block; rest = found.rest; below = omega (arith, below); within = found.within; is = omega (arith, is, later) }
]

-- each cell of a table stands at some values
pub record StandsAt (ss : List ℕ) (k : ℕ) : Type 0 where
  pub values : List ℕ
  pub within : AreWithin ss values
  pub is : cell_place ss values ≡ k

stands_at : (ss : List ℕ) (k : ℕ) → k < product ss → StandsAt ss k
stands_at [] k lt = record { values = []; within = tt; is = omega (arith, lt) }
stands_at (s ∷ ss) k lt =
    let block = in_block s (product ss) k lt in
    let rest = stands_at ss block.rest block.within in
    let at = rest.is in
    let is = block.is in
    record { values = block.block ∷ rest.values; within = (block.below, rest.within); is = omega (arith, at, is) }

-- cells by values are the list of what is made of all choices of values
pub cells_are_choices : (ss cells : List ℕ) (f : List ℕ → ℕ) → length cells ≡ product ss → ((xs : List ℕ) → AreWithin ss xs → get_or cells (cell_place ss xs) 0 ≡ f xs) → cells ≡ map f (choices ss)
cells_are_choices ss cells f full each =
    same_number_lists cells (map f (choices ss)) (full ∙ sym (length-map (choices ss) f ∙ length-choices ss)) (λ k lt.
    let stands = stands_at ss k (omega (arith, lt, full)) in
    subst (λ (i : ℕ). get_or cells i 0 ≡ get_or (map f (choices ss)) i 0) stands.is (each stands.values stands.within ∙ sym (made_cell f ss stands.values stands.within)))
