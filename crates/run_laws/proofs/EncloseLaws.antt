-- Bounds on what a subtree costs, by single assignments that meet a condition.
use Rattle.std.proofs.Common.{◌≡◌, ℕ, ◌+◌, ◌≤◌, ◌<◌, Bool, true, false, cond, eqb, max, List, [], ◌∷◌, length, get_or, Option, Some, None, refl, sym, ap, subst, ◌∙◌, inl, inr, arith, zero, suc}
use Rattle.std.specs.List.{sum_by, filter, range_with_len}
use Rattle.std.proofs.lemmas.Bool.{cond_both, or_cases, or_parts, or_from, eqb-true, eq-eqb, ne_eqb, true≢false, false_from_ne_true}
use Rattle.std.proofs.lemmas.Option.{none-some, same_Some}
use Rattle.std.proofs.lemmas.List.Folds.{list_any_at}
use Rattle.std.proofs.lemmas.List.Sums.{sum_by-cons}
use Rattle.dcop_base.specs.Table.{has, has_repeat, greatest}
use Rattle.dcop_base.specs.Problem.{Dcop, IsAssignment}
use Rattle.dcop_base.specs.Values.{cost_with}
use Rattle.pseudotree.specs.Tree.{is_above}
use Rattle.pseudotree.proofs.NestLaws.{has_filter}
use Rattle.adopt_context.specs.Bounds.{Entry, blank, plus_bound, lower_sum, upper_sum}
use Rattle.adopt_context.specs.Merge.{lesser}
use Rattle.dcop_optimum.specs.Subtree.{subtree_tables_of, AgreesAbove, IsSubtreeOptimum}
use Rattle.dcop_optimum.specs.Enclosing.{IsAtMost, AreGivenAbove, Encloses}
use Rattle.dcop_optimum.proofs.SumLaws.{sum_same}
use Rattle.run_laws.proofs.BoundLaws.{lesser_is}

module _ (p : Dcop) (paths : List (List ℕ)) where
  -- what the tables of the subtree of i cost at an assignment
  abbrev pub below : ℕ → List ℕ → ℕ
  below i values = cost_with (subtree_tables_of p paths i) (λ v. get_or values v 0)

  -- the greatest cells of the tables of the subtree of i together
  abbrev pub most : ℕ → ℕ
  most i = sum_by (λ t. greatest t.cells) (subtree_tables_of p paths i)

  -- an assignment gives the proper ancestors of i the values that a context gives
  abbrev pub GivenAbove : ℕ → (ℕ → Option ℕ) → List ℕ → Type 0
  GivenAbove i given values = (v d : ℕ) → is_above paths v i ≡ true → given v ≡ Some d → get_or values v 0 ≡ d

  -- an assignment with the value of i and what else costs so much at most
  pub record IsReached (i : ℕ) (values : List ℕ) (most : ℕ) : Type 0 where
    pub other : List ℕ
    pub assignment : IsAssignment p other
    pub agrees : AgreesAbove paths i (λ v. get_or values v 0) other
    pub costs : below i other ≤ most

  -- for all assignments that meet a condition, the subtree costs at least the lower bound, and can be had for the upper one, which is at most its greatest cells together
  pub record IsBounded (i : ℕ) (meets : List ℕ → Type 0) (lower : ℕ) (upper : Option ℕ) : Type 0 where
    pub low : (values : List ℕ) → IsAssignment p values → meets values → lower ≤ below i values
    pub high : (u : ℕ) → upper ≡ Some u → (values : List ℕ) → IsAssignment p values → meets values → IsReached i values u
    pub top : (u : ℕ) → upper ≡ Some u → u ≤ most i

  pub bounded_blank : (i : ℕ) (meets : List ℕ → Type 0) → IsBounded i meets 0 None
  bounded_blank i meets = record { low = λ values is h. omega arith; high = λ u e. absurd (none-some u e); top = λ u e. absurd (none-some u e) }

  pub bounded_when : (i : ℕ) (one other : List ℕ → Type 0) (lower : ℕ) (upper : Option ℕ) → ((values : List ℕ) → other values → one values) → IsBounded i one lower upper → IsBounded i other lower upper
  bounded_when i one other lower upper f a = record { low = λ values is h. a.low values is (f values h); high = λ u e values is h. a.high u e values is (f values h); top = a.top }

  -- the better of two pairs of bounds
  pub bounded_both : (i : ℕ) (meets : List ℕ → Type 0) (l m : ℕ) (u w : Option ℕ) → IsBounded i meets l u → IsBounded i meets m w → IsBounded i meets (max l m) (lesser u w)
  bounded_both i meets l m u w a b = record {
    low = λ values is h. let one = a.low values is h in let other = b.low values is h in omega (arith, one, other);
    high = λ x e values is h. elim (lesser_is x u w e) [ inl left ↦ a.high x left values is h | inr right ↦ b.high x right values is h ];
    top = λ x e. elim (lesser_is x u w e) [ inl left ↦ a.top x left | inr right ↦ b.top x right ];
  }

  -- bounds that some assignment meets do not cross
  pub not_crossed : (i : ℕ) (meets : List ℕ → Type 0) (lower : ℕ) (upper : Option ℕ) → IsBounded i meets lower upper
      → ((values other : List ℕ) → AgreesAbove paths i (λ v. get_or values v 0) other → meets values → meets other)
      → (values : List ℕ) → IsAssignment p values → meets values → IsAtMost lower upper
  not_crossed i meets lower None a stays values is h = tt
  not_crossed i meets lower (Some u) a stays values is h =
      let reached = a.high u refl values is h in
      let low = a.low reached.other reached.assignment (stays values reached.other reached.agrees h) in
      let costs = reached.costs in
      omega (arith, low, costs)

  -- such bounds enclose
  pub encloses_from : (i : ℕ) (given : ℕ → Option ℕ) (lower : ℕ) (upper : Option ℕ) → IsBounded i (GivenAbove i given) lower upper → Encloses p paths i given lower upper
  encloses_from i given lower upper a = record {
    low = λ value above agrees m is.
        let at = is.attained in
        let low = a.low at.0 at.1 (λ v d h e. at.2 v h ∙ agrees v d h e) in
        subst (λ (n : ℕ). lower ≤ n) at.3 low;
    high = λ value above agrees m is. upper_half upper a value agrees m is;
  }
    where
      upper_half : (upper : Option ℕ) → IsBounded i (GivenAbove i given) lower upper → (value : ℕ → ℕ) → AreGivenAbove paths i given value → (m : ℕ) → IsSubtreeOptimum p paths i value m → IsAtMost m upper
      upper_half None a value agrees m is = tt
      upper_half (Some u) a value agrees m is =
          let at = is.attained in
          let reached = a.high u refl at.0 at.1 (λ v d h e. at.2 v h ∙ agrees v d h e) in
          let least = is.lowest reached.other reached.assignment (λ v h. reached.agrees v h ∙ at.2 v h) in
          let costs = reached.costs in
          omega (arith, least, costs)

-- what is filtered from a range is there once
range_high : (n a u : ℕ) → has (range_with_len a n) u ≡ true → a ≤ u
range_high zero a u h = absurd (cc)
range_high (suc n) a u h = elim (or_cases (eqb a u) (has (range_with_len (a + 1) n) u) h) [
  | inl same ↦ omega (arith, eqb-true a u same)
  | inr later ↦ omega (arith, range_high n (a + 1) u later)
]

pub filter_distinct : (q : ℕ → Bool) (n a : ℕ) → has_repeat (filter q (range_with_len a n)) ≡ false
filter_distinct q zero a = refl
filter_distinct q (suc n) a =
    let rest = filter_distinct q n (a + 1) in
    let out : has (filter q (range_with_len (a + 1) n)) a ≡ false =
    false_from_ne_true (has (filter q (range_with_len (a + 1) n)) a) (λ h. omega (arith, range_high n (a + 1) a (has_filter q (range_with_len (a + 1) n) a h).0)) in
    cond_both (q a) (a ∷ filter q (range_with_len (a + 1) n)) (filter q (range_with_len (a + 1) n)) (λ xs. has_repeat xs ≡ false)
    (λ is_so. or_from (has (filter q (range_with_len (a + 1) n)) a) (has_repeat (filter q (range_with_len (a + 1) n))) out rest)
    (λ not_so. rest)

-- the lower bounds of a row, where each is at most what its child costs
pub row_low : (f : ℕ → ℕ) (row : List Entry) (cs : List ℕ) → length row ≡ length cs → ((k : ℕ) → (get_or row k blank).lower ≤ f (get_or cs k 0)) → lower_sum row ≤ sum_by f cs
row_low f [] [] long low = omega arith
row_low f [] (c ∷ cs) long low = absurd (omega (arith, long))
row_low f (e ∷ es) [] long low = absurd (omega (arith, long))
row_low f (e ∷ es) (c ∷ cs) long low =
    let here : e.lower ≤ f c = low 0 in
    let rest = row_low f es cs (omega (arith, long)) (λ k. low (suc k)) in
    omega (arith, here, rest, sum_by-cons (λ (x : Entry). x.lower) e es, sum_by-cons f c cs)

-- a sum of bounds that is there
pub record IsSum (u w : Option ℕ) (total : ℕ) : Type 0 where
  pub one : ℕ
  pub other : ℕ
  pub one_is : u ≡ Some one
  pub other_is : w ≡ Some other
  pub total_is : one + other ≡ total

pub plus_parts : (u w : Option ℕ) (total : ℕ) → plus_bound u w ≡ Some total → IsSum u w total
plus_parts None w total h = absurd (none-some total h)
plus_parts (Some x) None total h = absurd (none-some total h)
plus_parts (Some x) (Some y) total h = record { one = x; other = y; one_is = refl; other_is = refl; total_is = same_Some (x + y) total h }

-- the upper bounds of a row, where each is at most so much for its child
pub row_top : (f : ℕ → ℕ) (row : List Entry) (cs : List ℕ) → length row ≡ length cs → ((k u : ℕ) → (get_or row k blank).upper ≡ Some u → u ≤ f (get_or cs k 0))
    → (total : ℕ) → upper_sum row ≡ Some total → total ≤ sum_by f cs
row_top f [] [] long top total sum = let at = same_Some 0 total sum in omega (arith, at)
row_top f [] (c ∷ cs) long top total sum = absurd (omega (arith, long))
row_top f (e ∷ es) [] long top total sum = absurd (omega (arith, long))
row_top f (e ∷ es) (c ∷ cs) long top total sum =
    let parts = plus_parts e.upper (upper_sum es) total sum in
    let here : parts.one ≤ f c = top 0 parts.one parts.one_is in
    let rest = row_top f es cs (omega (arith, long)) (λ k. top (suc k)) parts.other parts.other_is in
    let whole = parts.total_is in
    omega (arith, here, rest, whole, sum_by-cons f c cs)

-- one piece for each child, which together cost at most the sum of the upper bounds
pub record IsGathered (P : List ℕ → Type 0) (f : ℕ → List ℕ → ℕ) (cs : List ℕ) (total : ℕ) : Type 0 where
  pub pieces : ℕ → List ℕ
  pub are : (c : ℕ) → P (pieces c)
  pub sum : sum_by (λ c. f c (pieces c)) cs ≤ total

-- a piece that is cheap enough
pub record IsCheap (P : List ℕ → Type 0) (f : List ℕ → ℕ) (most : ℕ) : Type 0 where
  pub piece : List ℕ
  pub is : P piece
  pub costs : f piece ≤ most

pub gather : (P : List ℕ → Type 0) (f : ℕ → List ℕ → ℕ) (none : List ℕ) → P none → (row : List Entry) (cs : List ℕ) → length row ≡ length cs → has_repeat cs ≡ false
    → ((k u : ℕ) → k < length cs → (get_or row k blank).upper ≡ Some u → IsCheap P (f (get_or cs k 0)) u)
    → (total : ℕ) → upper_sum row ≡ Some total → IsGathered P f cs total
gather P f none is [] [] long apart h total sum = record { pieces = λ c. none; are = λ c. is; sum = omega arith }
gather P f none is [] (c ∷ cs) long apart h total sum = absurd (omega (arith, long))
gather P f none is (e ∷ es) [] long apart h total sum = absurd (omega (arith, long))
gather P f none is (e ∷ es) (c ∷ cs) long apart h total sum =
    let parts = plus_parts e.upper (upper_sum es) total sum in
    let here : IsCheap P (f c) parts.one = h 0 parts.one (omega arith) parts.one_is in
    let repeats = or_parts (has cs c) (has_repeat cs) apart in
    let rest = gather P f none is es cs (omega (arith, long)) repeats.1 (λ k u lt. h (suc k) u (omega (arith, lt))) parts.other parts.other_is in
    let pieces : ℕ → List ℕ = λ (x : ℕ). cond (eqb x c) here.piece (rest.pieces x) in
    let first : f c (pieces c) ≡ f c here.piece = ap (λ (b : Bool). f c (cond b here.piece (rest.pieces c))) (eq-eqb c c refl) in
    let others : sum_by (λ x. f x (pieces x)) cs ≡ sum_by (λ x. f x (rest.pieces x)) cs =
    sum_same (λ x. f x (pieces x)) (λ x. f x (rest.pieces x)) cs
    (λ k d lt.
    let x : ℕ = get_or cs k d in
    ap (λ (b : Bool). f x (cond b here.piece (rest.pieces x)))
    (ne_eqb x c (λ (same : x ≡ c). true≢false (sym (list_any_at (λ y. eqb y c) cs k d lt (eq-eqb x c same)) ∙ repeats.0)))) in
    let costs = here.costs in
    let more = rest.sum in
    let whole = parts.total_is in
    record {
      pieces = pieces;
      are = λ x. cond_both (eqb x c) here.piece (rest.pieces x) P (λ _. here.is) (λ _. rest.are x);
      sum = omega (arith, first, others, costs, more, whole, sum_by-cons (λ x. f x (pieces x)) c cs);
    }
