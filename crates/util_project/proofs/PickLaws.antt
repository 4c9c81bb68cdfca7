-- Laws of the lowest number at which a function is least, and of where the cells at each value stand.
use Rattle.std.proofs.Common.{◌≡◌, ℕ, zero, suc, ◌+◌, ◌*◌, ◌<◌, ◌≤◌, List, [], ◌∷◌, length, get_or, take, drop, refl, sym, ap, ◌∙◌, inl, inr, arith}
use Rattle.std.specs.List.{remove, insert}
use Rattle.std.proofs.lemmas.Nat.{mul-add-lt, mul-le}
use Rattle.std.proofs.Math.Nat.{mul_comm, mul_assoc}
use Rattle.std.proofs.lemmas.Bool.{cases_lt}
use Rattle.std.proofs.lemmas.List.Edits.{length-remove}
use Rattle.std.proofs.lemmas.List.Elements.{length_all_zip}
use Rattle.dcop_base.specs.Table.{product, AreWithin, cell_place}
use Rattle.cost_table.proofs.RunLaws.{IsCut, cut-at, product-cut}
use Rattle.util_project.specs.Projection.{IsLowestLeast}

-- of one number, of one more that is no less or less, and of an equal function
pub lowest-first : (f : ℕ → ℕ) → IsLowestLeast f 1 0
lowest-first f = record {
  below = omega arith;
  least = λ e lt. (let none : e ≡ 0 = omega (arith, lt) in omega (arith, ap f none));
  lowest = λ e lt. absurd (omega (arith, lt));
}

pub lowest-keep : (f : ℕ → ℕ) (n d : ℕ) → IsLowestLeast f n d → f d ≤ f n → IsLowestLeast f (n + 1) d
lowest-keep f n d h le = record {
  below = omega (arith, h.below);
  least = λ e lt. elim (cases_lt e n) [
    | inl below ↦ h.least e below
    | inr past ↦ (let same : e ≡ n = omega (arith, lt, past) in omega (arith, le, ap f same))
  ];
  lowest = h.lowest;
}

pub lowest-take : (f : ℕ → ℕ) (n d : ℕ) → IsLowestLeast f n d → f n < f d → IsLowestLeast f (n + 1) n
lowest-take f n d h less = record {
  below = omega arith;
  least = λ e lt. elim (cases_lt e n) [
    | inl below ↦ omega (arith, less, h.least e below)
    | inr past ↦ (let same : e ≡ n = omega (arith, lt, past) in omega (arith, ap f same))
  ];
  lowest = λ e lt. omega (arith, less, h.least e lt);
}

pub lowest-same : (f g : ℕ → ℕ) (n d : ℕ) → ((e : ℕ) → e < n → f e ≡ g e) → IsLowestLeast f n d → IsLowestLeast g n d
lowest-same f g n d same h = record {
  below = h.below;
  least = λ e lt. omega (arith, h.least e lt, same d h.below, same e lt);
  lowest = λ e lt. (let inside : e < n = omega (arith, lt, h.below) in omega (arith, h.lowest e lt, same d h.below, same e inside));
}

-- values of the other variables, before and behind the place
pub split-within : (sizes others : List ℕ) (k : ℕ) → k < length sizes → AreWithin (remove sizes k) others → (AreWithin (take k sizes) (take k others)) × (AreWithin (drop (suc k) sizes) (drop k others))
split-within [] others k h w = absurd (omega arith)
split-within (s ∷ ss) others zero h w = (tt, w)
split-within (s ∷ ss) [] (suc k) h w = absurd w
split-within (s ∷ ss) (o ∷ os) (suc k) h w =
    let rest = split-within ss os k (omega arith) w.1 in
    ((w.0, rest.0), rest.1)

-- the cell at a number stands so many strides behind the one at 0, and within the cells
pub pick-index : (b s r i d : ℕ) → b * (s * r) + i + d * r ≡ (b * s + d) * r + i
pick-index b s r i d = grind arith

pub pick-fits : (a b s r i d count : ℕ) → b < a → i < r → d < s → count ≡ a * (s * r) → b * (s * r) + i + d * r < count
pick-fits a b s r i d count hb hi hd e =
    let q = b * s + d in
    let below : q < a * s = omega (arith, mul-add-lt b s d a hb hd, mul_comm s a) in
    omega (arith, e, pick-index b s r i d, mul-add-lt q r i (a * s) below hi, mul_comm r (a * s), mul_assoc a s r)

-- what is known of the parts of a table on both sides of a place, and of values of the other variables
pub record ArePickParts (sizes cells others : List ℕ) (k : ℕ) : Type 0 where
  pub long : k ≤ length others
  pub front : AreWithin (take k sizes) (take k others)
  pub back : AreWithin (drop (suc k) sizes) (drop k others)
  pub cut : IsCut sizes k others (cell_place (take k sizes) (take k others)) (cell_place (drop (suc k) sizes) (drop k others))
  pub counts : length cells ≡ product (take k sizes) * (get_or sizes k 0 * product (drop (suc k) sizes))

pub pick-parts : (sizes cells others : List ℕ) (k : ℕ) → k < length sizes → length cells ≡ product sizes → AreWithin (remove sizes k) others → ArePickParts sizes cells others k
pick-parts sizes cells others k lt full w =
    let parts = split-within sizes others k lt w in
    let many = length_all_zip (λ s v. v < s) (remove sizes k) others w in
    record {
      long = omega (arith, lt, many, length-remove sizes k lt);
      front = parts.0;
      back = parts.1;
      cut = cut-at sizes k others lt w;
      counts = full ∙ product-cut sizes k lt;
    }

-- the cell so many strides behind the first one is that of the value
pub pick-cell : (sizes cells others : List ℕ) (k block first stride size : ℕ) → ArePickParts sizes cells others k → stride ≡ product (drop (suc k) sizes) → size ≡ get_or sizes k 0 → block ≡ cell_place (take k sizes) (take k others) → first ≡ block * (size * stride) + cell_place (drop (suc k) sizes) (drop k others) → (d : ℕ) → first + d * stride ≡ cell_place sizes (insert others k d)
pick-cell sizes cells others k block first stride size parts er es eb ef d =
    let i = cell_place (drop (suc k) sizes) (drop k others) in
    let b = cell_place (take k sizes) (take k others) in
    let r = product (drop (suc k) sizes) in
    let s = get_or sizes k 0 in
    let same : first ≡ b * (s * r) + i = rw (ef, eb, es, er) refl in
    rw (same, er) (pick-index b s r i d) ∙ sym (parts.cut.within d)

pub pick-inside : (sizes cells others : List ℕ) (k block first stride size : ℕ) → ArePickParts sizes cells others k → stride ≡ product (drop (suc k) sizes) → size ≡ get_or sizes k 0 → block ≡ cell_place (take k sizes) (take k others) → first ≡ block * (size * stride) + cell_place (drop (suc k) sizes) (drop k others) → (d : ℕ) → d < size → first + d * stride < length cells
pick-inside sizes cells others k block first stride size parts er es eb ef d lt =
    let i = cell_place (drop (suc k) sizes) (drop k others) in
    let b = cell_place (take k sizes) (take k others) in
    let r = product (drop (suc k) sizes) in
    let s = get_or sizes k 0 in
    let same : first ≡ b * (s * r) + i = rw (ef, eb, es, er) refl in
    let low : d < s = omega (arith, lt, es) in
    rw (same, er) (pick-fits (product (take k sizes)) b s r i d (length cells) parts.cut.block parts.cut.inner low parts.counts)

-- a block is no longer than the cells
pub block-fits : (sizes cells others : List ℕ) (k stride size : ℕ) → ArePickParts sizes cells others k → stride ≡ product (drop (suc k) sizes) → size ≡ get_or sizes k 0 → size * stride ≤ length cells
block-fits sizes cells others k stride size parts er es =
    let x = get_or sizes k 0 * product (drop (suc k) sizes) in
    let one : 1 * x ≤ product (take k sizes) * x = mul-le 1 x (product (take k sizes)) x (omega (arith, parts.cut.block)) (omega arith) in
    let fits : x ≤ length cells = omega (arith, one, parts.counts) in
    rw (er, es) fits
