-- The senders and receivers of the links between agents.
use Rattle.std.proofs.Common.{◌≡◌, ℕ, ◌+◌, ◌<◌, ◌≤◌, ◌==◌, cond, Bool, true, false, List, [], ◌∷◌, ◌++◌, map-id, length, slice_index_or, refl, sym, ap, subst, ◌∙◌, arith}
use Rattle.std.specs.List.{flat_map, range_with_len}
use Rattle.std.proofs.lemmas.Grind.{flat_map-append}
use Rattle.std.proofs.lemmas.List.{append-nil}
use Rattle.std.proofs.lemmas.List.Folds.{flat_map-map}
use Rattle.std.proofs.lemmas.List.FromFn.{get_or-map-range_with_len, map-range_with_len_more}
use Rattle.agent_links.specs.Beside.{near, AreBeside}
use Rattle.agent_links.specs.Links.{row, pairs_to}
use Rattle.agent_links.proofs.ListLaws.{flat_map-flat_map, flat_map_same, flat_map_within, flat_map-cond, flat_map-filter, flat_map_single, cond_swap, pick}

module _ (edge : ℕ → ℕ → Bool) (n : ℕ) where
  -- all pairs of neighbours
  abbrev pub all_pairs : List (ℕ × ℕ)
  all_pairs = flat_map (λ i. row i (near edge n i)) (range_with_len 0 n)

  each_row : {B : Type 0} (h : ℕ × ℕ → List B) (i : ℕ) → flat_map h (row i (near edge n i)) ≡ flat_map (λ j. h (i, j)) (near edge n i)
  each_row h i = flat_map-map h (λ (j : ℕ). (i, j)) (near edge n i)

  each_pair : {B : Type 0} (h : ℕ × ℕ → List B) → flat_map h all_pairs ≡ flat_map (λ i. flat_map (λ j. h (i, j)) (near edge n i)) (range_with_len 0 n)
  each_pair h =
      flat_map-flat_map h (λ i. row i (near edge n i)) (range_with_len 0 n)
      ∙ flat_map_same (λ i. flat_map h (row i (near edge n i))) (λ i. flat_map (λ j. h (i, j)) (near edge n i)) (range_with_len 0 n) (each_row h)

  -- of one sender
  pub of_first : {B : Type 0} (g : ℕ → ℕ → List B) (i : ℕ) → i < n → flat_map (λ p. cond (p.0 == i) (g p.0 p.1) []) all_pairs ≡ flat_map (g i) (near edge n i)
  of_first g i lt =
      each_pair (λ p. cond (p.0 == i) (g p.0 p.1) [])
      ∙ flat_map_same (λ k. flat_map (λ j. cond (k == i) (g k j) []) (near edge n k)) (λ k. cond (k == i) (flat_map (g k) (near edge n k)) []) (range_with_len 0 n) (λ k. flat_map-cond (k == i) (g k) (near edge n k))
      ∙ pick (λ k. flat_map (g k) (near edge n k)) i 0 n (omega arith) (omega (arith, lt))

  -- of one receiver, in one row
  pub in_row : {B : Type 0} (part : ℕ → List B) (i j : ℕ) → j < n → flat_map (λ k. cond (k == j) (part k) []) (near edge n i) ≡ cond (edge i j) (part j) []
  in_row part i j lt =
      flat_map-filter (λ k. cond (k == j) (part k) []) (edge i) (range_with_len 0 n)
      ∙ flat_map_same (λ k. cond (edge i k) (cond (k == j) (part k) []) []) (λ k. cond (k == j) (cond (edge i k) (part k) []) []) (range_with_len 0 n) (λ k. cond_swap (edge i k) (k == j) (part k))
      ∙ pick (λ k. cond (edge i k) (part k) []) j 0 n (omega arith) (omega (arith, lt))

  -- the receivers of one sender are its neighbours
  pub seconds_of : (i : ℕ) → i < n → flat_map (λ p. cond (p.0 == i) (p.1 ∷ []) []) all_pairs ≡ near edge n i
  seconds_of i lt = of_first (λ k j. j ∷ []) i lt ∙ single (near edge n i)
    where
      single : (xs : List ℕ) → flat_map (λ j. j ∷ []) xs ≡ xs
      single [] = refl
      single (x ∷ xs) = ap (λ (ys : List ℕ). x ∷ ys) (single xs)

  -- and so are the senders to one receiver
  pub firsts_of : ((i j : ℕ) → edge i j ≡ edge j i) → (j : ℕ) → j < n → flat_map (λ p. cond (p.1 == j) (p.0 ∷ []) []) all_pairs ≡ near edge n j
  firsts_of both j lt =
      each_pair (λ p. cond (p.1 == j) (p.0 ∷ []) [])
      ∙ flat_map_same (λ i. flat_map (λ k. cond (k == j) (i ∷ []) []) (near edge n i)) (λ i. cond (edge j i) (i ∷ []) []) (range_with_len 0 n)
      (λ i. in_row (λ k. i ∷ []) i j lt ∙ ap (λ (b : Bool). cond b (i ∷ []) []) (both i j))
      ∙ flat_map_single (edge j) (range_with_len 0 n)

  few_cond : {A : Type 0} (b : Bool) (x : A) → length (cond b (x ∷ []) []) ≤ 1
  few_cond true x = omega arith
  few_cond false x = omega arith

  -- no pair is there twice
  pub each_once : {B : Type 0} (g : ℕ → ℕ → B) (i j : ℕ) → i < n → j < n → length (flat_map (λ p. cond (p.0 == i) (cond (p.1 == j) (g p.0 p.1 ∷ []) []) []) all_pairs) ≤ 1
  each_once {B} g i j in_i in_j =
      let is : flat_map (λ p. cond (p.0 == i) (cond (p.1 == j) (g p.0 p.1 ∷ []) []) []) all_pairs ≡ cond (edge i j) (g i j ∷ []) [] =
      of_first (λ k m. cond (m == j) (g k m ∷ []) []) i in_i ∙ in_row (λ m. g i m ∷ []) i j in_j in
      subst (λ (ys : List B). length ys ≤ 1) (sym is) (few_cond (edge i j) (g i j))

-- the neighbours of one agent are those of the relation
pub list_at : (lists : List (List ℕ)) (b : AreBeside lists) (i : ℕ) → i < length lists → slice_index_or lists i [] ≡ near b.edge (length lists) i
list_at lists b i lt =
    let n : ℕ = length lists in
    ap (λ (ls : List (List ℕ)). slice_index_or ls i []) b.are ∙ get_or-map-range_with_len (near b.edge n) 0 n i i [] lt (omega arith)

pub whole_pairs : (lists : List (List ℕ)) (b : AreBeside lists) → pairs_to lists (length lists) ≡ all_pairs b.edge (length lists)
whole_pairs lists b = flat_map_within (λ i. row i (slice_index_or lists i [])) (λ i. row i (near b.edge (length lists) i)) 0 (length lists)
    (λ i low high. ap (row i) (list_at lists b i (omega (arith, high))))

range_more : (n : ℕ) → range_with_len 0 (n + 1) ≡ range_with_len 0 n ++ n ∷ []
range_more n = sym (map-id (range_with_len 0 (n + 1))) ∙ map-range_with_len_more (λ (x : ℕ). x) 0 n n (omega arith) ∙ ap (λ (xs : List ℕ). xs ++ n ∷ []) (map-id (range_with_len 0 n))

-- one more agent's
pub pairs_more : (lists : List (List ℕ)) (k : ℕ) → pairs_to lists (k + 1) ≡ pairs_to lists k ++ row k (slice_index_or lists k [])
pairs_more lists k =
    let f : ℕ → List (ℕ × ℕ) = λ i. row i (slice_index_or lists i []) in
    ap (λ (xs : List ℕ). flat_map f xs) (range_more k) ∙ flat_map-append f (range_with_len 0 k) (k ∷ []) ∙ ap (λ (ys : List (ℕ × ℕ)). flat_map f (range_with_len 0 k) ++ ys) (append-nil (f k))
