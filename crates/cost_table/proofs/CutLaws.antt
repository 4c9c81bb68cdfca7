-- Laws of cut tables: values that are put in fit, and cutting by one variable after the other.
use Rattle.std.proofs.Common.{◌≡◌, ℕ, zero, suc, ◌+◌, ◌*◌, ◌<◌, ◌≤◌, List, [], ◌∷◌, length, get_or, set, take, drop, refl, sym, ap, ap₂, ◌∙◌, subst, length-set, length-drop, subst₂, arith}
use Rattle.std.proofs.lemmas.Nat.{mul-le}
use Rattle.std.proofs.Math.Nat.{mul-le-mul_left}
use Rattle.std.specs.List.{All, remove, insert}
use Rattle.std.proofs.lemmas.List.{set_past, drop_more, drop_all, length-map}
use Rattle.std.proofs.lemmas.List.Elements.{All-set, length_all_zip}
use Rattle.dcop_base.specs.Table.{CostTable, IsTable, product, AreWithin, cell_place}
use Rattle.dcop_base.specs.Limits.{amount_limit}
use Rattle.dcop_base.proofs.TableLaws.{parts-of}
use Rattle.cost_table.specs.Cells.{cell_of, place_in}
use Rattle.cost_table.specs.Runs.{AreCellsAt, AreFewer, KeepsOne}
use Rattle.cost_table.specs.Slices.{put_in, ones_at, places_in, IsCut, FitInTurn}
use Rattle.cost_table.proofs.RunLaws.{product-cut, product-remove}
use Rattle.cost_table.proofs.SliceLaws.{faultless}

-- values below sizes of which one is 1, with another value below the true size at that place
pub within-set : (ss xs : List ℕ) (k v : ℕ) → AreWithin (set ss k 1) xs → (k < length ss → v < get_or ss k 0) → AreWithin ss (set xs k v)
within-set [] [] k v w h = tt
within-set [] (x ∷ xs) k v w h = absurd w
within-set (s ∷ ss) [] zero v w h = absurd w
within-set (s ∷ ss) [] (suc k) v w h = absurd w
within-set (s ∷ ss) (x ∷ xs) zero v w h = (h (omega arith), w.1)
within-set (s ∷ ss) (x ∷ xs) (suc k) v w h = (w.0, within-set ss xs k v w.1 (λ lt. h (omega (arith, lt))))

pub within-put_in : (ss ps vs xs : List ℕ) → FitInTurn ss ps vs → AreWithin (ones_at ps ss) xs → AreWithin ss (put_in ps vs xs)
within-put_in ss [] [] xs fit w = w
within-put_in ss [] (v ∷ vs) xs fit w = absurd fit
within-put_in ss (p ∷ ps) [] xs fit w = absurd fit
within-put_in ss (p ∷ ps) (v ∷ vs) xs fit w = within-set ss (put_in ps vs xs) p v (within-put_in (set ss p 1) ps vs xs fit.1 w) fit.0

-- one size that becomes 1: the product, and the place of a cell, are those without it
pub product-set : (ss : List ℕ) (k : ℕ) → k < length ss → product (set ss k 1) ≡ product (remove ss k)
product-set [] k h = absurd (omega arith)
product-set (s ∷ ss) zero h = omega arith
product-set (s ∷ ss) (suc k) h = ap (λ n. s * n) (product-set ss k (omega arith))

pub insert-remove : (xs : List ℕ) (k v : ℕ) → k < length xs → insert (remove xs k) k v ≡ set xs k v
insert-remove [] k v h = absurd (omega arith)
insert-remove (x ∷ xs) zero v h = refl
insert-remove (x ∷ xs) (suc k) v h = ap (λ (ys : List ℕ). x ∷ ys) (insert-remove xs k v (omega arith))

pub within-remove : (ss xs : List ℕ) (k : ℕ) → k < length ss → AreWithin (set ss k 1) xs → AreWithin (remove ss k) (remove xs k)
within-remove [] xs k h w = absurd (omega arith)
within-remove (s ∷ ss) [] zero h w = absurd w
within-remove (s ∷ ss) [] (suc k) h w = absurd w
within-remove (s ∷ ss) (x ∷ xs) zero h w = w.1
within-remove (s ∷ ss) (x ∷ xs) (suc k) h w = (w.0, within-remove ss xs k (omega arith) w.1)

pub place-remove : (ss xs : List ℕ) (k : ℕ) → k < length ss → AreWithin (set ss k 1) xs → cell_place (set ss k 1) xs ≡ cell_place (remove ss k) (remove xs k)
place-remove [] xs k h w = absurd (omega arith)
place-remove (s ∷ ss) [] zero h w = absurd w
place-remove (s ∷ ss) [] (suc k) h w = absurd w
place-remove (s ∷ ss) (x ∷ xs) zero h w =
    let none : x ≡ 0 = omega (arith, w.0) in
    let gone : 0 * product ss + cell_place ss xs ≡ cell_place ss xs = omega arith in
    ap (λ (n : ℕ). n * product ss + cell_place ss xs) none ∙ gone
place-remove (s ∷ ss) (x ∷ xs) (suc k) h w = ap₂ (λ (m n : ℕ). x * m + n) (product-set ss k (omega arith)) (place-remove ss xs k (omega arith) w.1)

-- the sizes without one make no greater product
pub product-less : (ss : List ℕ) (k : ℕ) → k < length ss → All (λ s. 1 ≤ s) ss → product (remove ss k) ≤ product ss
product-less ss k h all =
    let a = product (take k ss) in
    let s = get_or ss k 0 in
    let r = product (drop (suc k) ss) in
    let more : 1 * r ≤ s * r = mul-le 1 r s r (all k 0 h) (omega arith) in
    let whole : a * r ≤ a * (s * r) = mul-le-mul_left a (omega arith) in
    omega (arith, whole, product-cut ss k h, product-remove ss k h)

-- a table whose cells are those at a value keeps one value
pub keeps-one : (scope sizes cells : List ℕ) (k val : ℕ) (kept : List ℕ) → IsTable (record { scope = scope; sizes = sizes; cells = cells }) → k < length sizes → AreCellsAt sizes cells k val kept → KeepsOne (record { scope = scope; sizes = sizes; cells = cells }) k val (record { scope = scope; sizes = set sizes k 1; cells = kept })
keeps-one scope sizes cells k val kept e lt at =
    let parts = parts-of scope sizes cells e in
    record {
      by = record {
        same_scope = refl;
        same_sizes = refl;
        cells = λ values w.
            (let long = length_all_zip (λ s v. v < s) (set sizes k 1) values w in
            let inside : k < length values = omega (arith, lt, long, length-set sizes k 1) in
            ap (λ (n : ℕ). get_or kept n 0) (place-remove sizes values k lt w) ∙ at.each (remove values k) (within-remove sizes values k lt w)
            ∙ ap (λ (vs : List ℕ). get_or cells (cell_place sizes vs) 0) (insert-remove values k val inside));
      };
      whole = faultless scope (set sizes k 1) kept (record {
        apart = parts.apart;
        sized = omega (arith, parts.sized, length-set sizes k 1);
        positive = All-set (λ s. 1 ≤ s) sizes k 1 (omega arith) parts.positive;
        full = at.count ∙ sym (product-set sizes k lt);
        small = at.within amount_limit parts.small;
      });
      fewer = record { count = omega (arith, at.count, parts.full, product-less sizes k lt parts.positive); within = at.within };
    }

-- a table that does not name the variable
pub keeps-all : (t : CostTable) (k val : ℕ) → IsTable t → length t.sizes ≤ k → KeepsOne t k val t
keeps-all t k val e past = record {
  by = record {
    same_scope = refl;
    same_sizes = sym (set_past t.sizes k 1 past);
    cells = λ values w.
        (let long = length_all_zip (λ s v. v < s) (set t.sizes k 1) values w in
        let beyond : length values ≤ k = omega (arith, past, long, length-set t.sizes k 1) in
        sym (ap (λ (vs : List ℕ). cell_of t vs) (set_past values k val beyond)));
  };
  whole = e;
  fewer = record { count = omega arith; within = λ bound all. all };
}

-- cutting by a variable, and then by the others
pub cut-first : (t one slice : CostTable) (c v : ℕ) (cs vs : List ℕ) → KeepsOne t (place_in t.scope c) v one → FitInTurn one.sizes (places_in one.scope cs) vs → IsCut one cs vs slice → IsCut t (c ∷ cs) (v ∷ vs) slice
cut-first t one slice c v cs vs keeps fit h = record {
  same_scope = h.same_scope ∙ keeps.by.same_scope;
  same_sizes = h.same_sizes ∙ ap₂ (λ (scope sizes : List ℕ). ones_at (places_in scope cs) sizes) keeps.by.same_scope keeps.by.same_sizes;
  cells = λ others w.
      (let place = place_in t.scope c in
      let w1 : AreWithin (ones_at (places_in one.scope cs) one.sizes) others = rw (keeps.by.same_scope, keeps.by.same_sizes) w in
      let inner = put_in (places_in one.scope cs) vs others in
      let w2 : AreWithin (set t.sizes place 1) inner = subst (λ (ss : List ℕ). AreWithin ss inner) keeps.by.same_sizes (within-put_in one.sizes (places_in one.scope cs) vs others fit w1) in
      h.cells others w1 ∙ keeps.by.cells inner w2 ∙ ap (λ (scope : List ℕ). cell_of t (set (put_in (places_in scope cs) vs others) place v)) keeps.by.same_scope);
}

pub cut-none : (t : CostTable) → IsCut t [] [] t
cut-none t = record { same_scope = refl; same_sizes = refl; cells = λ others w. refl }

pub fewer-more : (a b c : List ℕ) → AreFewer a b → AreFewer b c → AreFewer a c
fewer-more a b c h k = record { count = omega (arith, h.count, k.count); within = λ bound all. k.within bound (h.within bound all) }

pub fit-length : (ss ps vs : List ℕ) → FitInTurn ss ps vs → length ps ≡ length vs
fit-length ss [] [] fit = refl
fit-length ss [] (v ∷ vs) fit = absurd fit
fit-length ss (p ∷ ps) [] fit = absurd fit
fit-length ss (p ∷ ps) (v ∷ vs) fit = ap suc (fit-length (set ss p 1) ps vs fit.1)

-- what holds after a table was cut by the first k variables
pub record IsCutSoFar (t now : CostTable) (cut values : List ℕ) (k : ℕ) : Type 0 where
  pub whole : IsTable now
  pub fit : FitInTurn now.sizes (places_in now.scope (drop k cut)) (drop k values)
  pub rest : (slice : CostTable) → IsCut now (drop k cut) (drop k values) slice → IsCut t cut values slice
  pub fewer : AreFewer t.cells now.cells

pub value-stands : (t now : CostTable) (cut values : List ℕ) (k : ℕ) → k < length cut → IsCutSoFar t now cut values k → k < length values
value-stands t now cut values k lt so =
    let long = fit-length now.sizes (places_in now.scope (drop k cut)) (drop k values) so.fit in
    omega (arith, lt, long, length-map (drop k cut) (λ v. place_in now.scope v), length-drop k cut, length-drop k values)

pub cut-turn : (t now next : CostTable) (cut values : List ℕ) (k c v : ℕ) → k < length cut → c ≡ get_or cut k c → v ≡ get_or values k v → KeepsOne now (place_in now.scope c) v next → IsCutSoFar t now cut values k → IsCutSoFar t next cut values (k + 1)
cut-turn t now next cut values k c v lt ec ev keeps so =
    let cs = drop (k + 1) cut in
    let vs = drop (k + 1) values in
    let dc : drop k cut ≡ c ∷ cs = drop_more cut k c lt ∙ ap (λ (x : ℕ). x ∷ cs) (sym ec) in
    let dv : drop k values ≡ v ∷ vs = drop_more values k v (value-stands t now cut values k lt so) ∙ ap (λ (x : ℕ). x ∷ vs) (sym ev) in
    let fit : FitInTurn now.sizes (places_in now.scope (c ∷ cs)) (v ∷ vs) = subst₂ (λ (xs ys : List ℕ). FitInTurn now.sizes (places_in now.scope xs) ys) dc dv so.fit in
    let fit-next : FitInTurn next.sizes (places_in next.scope cs) vs = rw (keeps.by.same_scope, keeps.by.same_sizes) fit.1 in
    record {
      whole = keeps.whole;
      fit = fit-next;
      rest = λ slice h. so.rest slice (subst₂ (λ (xs ys : List ℕ). IsCut now xs ys slice) (sym dc) (sym dv) (cut-first now next slice c v cs vs keeps fit-next h));
      fewer = fewer-more t.cells now.cells next.cells so.fewer keeps.fewer;
    }

-- the end of the variables
pub cut-whole : (t now : CostTable) (cut values : List ℕ) (k : ℕ) → length cut ≤ k → IsCutSoFar t now cut values k → IsCut t cut values now
cut-whole t now cut values k past so =
    let long = fit-length now.sizes (places_in now.scope (drop k cut)) (drop k values) so.fit in
    let beyond : length values ≤ k = omega (arith, past, long, length-map (drop k cut) (λ v. place_in now.scope v), length-drop k cut, length-drop k values) in
    so.rest now (subst₂ (λ (xs ys : List ℕ). IsCut now xs ys now) (sym (drop_all k cut past)) (sym (drop_all k values beyond)) (cut-none now))
