-- What a depth-first search has found so far, and what the agents know of it.
use Rattle.std.specs.Prelude.{◌≡◌, ℕ, ◌+◌, ◌<◌, true, false, ◌||◌, ◌⊎◌, List, [], ◌∷◌, ◌++◌, map, length, take, Option, None}
use Rattle.std.specs.List.{concat, flat_map}
use Rattle.dcop_base.specs.Table.{has, has_repeat}
use Rattle.dcop_base.specs.Problem.{Dcop}
use Rattle.dcop_base.specs.Graph.{are_neighbours}
use Rattle.dcop_base.specs.Knowledge.{acquaintance_of}
use Rattle.pseudotree.specs.DepthFirst.{Visit, path_in}
use Rattle.protocol_steps.specs.Agent.{Phase, last_of}
use Rattle.protocol_steps.specs.Token.{TokenView}
use Rattle.protocol_steps.specs.TokenStep.{done_for, look}
use Rattle.run_laws.proofs.Serial.{flight_of, stepped, Leads}

-- the variables that were seen, in order
abbrev pub vars : List Visit → List ℕ
vars S = map (λ s. s.var) S

abbrev pub running : Phase
running = record { started = true; ended = false; failed = false }

-- an agent that has not opened, one that is open, and one that has ended
abbrev pub fresh : Dcop → ℕ → TokenView
fresh p u = record { own = acquaintance_of p u; phase = running; opened = false; path = []; kept = []; awaited = None }

abbrev pub open_view : Dcop → ℕ → List ℕ → List (List ℕ) → Option ℕ → TokenView
open_view p v path kept awaited = record { own = acquaintance_of p v; phase = running; opened = true; path = path; kept = kept; awaited = awaited }

abbrev pub ended_view : Dcop → ℕ → List ℕ → List (List ℕ) → TokenView
ended_view p v path kept = record {
  own = acquaintance_of p v;
  phase = record { started = true; ended = true; failed = false };
  opened = true;
  path = path;
  kept = kept;
  awaited = None;
}

-- the first variables of subtrees
abbrev pub heads : List (List ℕ) → List ℕ
heads kept = flat_map (λ subtree. take 1 subtree) kept

-- each number is below all later ones
abbrev pub Ascends : List ℕ → Type 0
Ascends [] = Unit {0}
Ascends (x ∷ xs) = ((y : ℕ) → has xs y ≡ true → x < y) × Ascends xs

-- more was seen, and nothing else has changed
pub record Grown (S R : List Visit) : Type 0 where
  pub more : List Visit
  pub is : R ≡ S ++ more

-- the subtrees below v: their first variables are its children, and the others lie deeper
pub record Nested (p : Dcop) (S : List Visit) (v : ℕ) (path : List ℕ) (kept : List (List ℕ)) : Type 0 where
  pub seen : (x : ℕ) → has (concat kept) x ≡ true → has (vars S) x ≡ true
  pub tops : (c : ℕ) → has (heads kept) c ≡ true → (has (concat kept) c ≡ true) × (path_in S c ≡ path ++ (v ∷ []))
  pub deep : (x : ℕ) → has (concat kept) x ≡ true → (has (heads kept) x ≡ true) ⊎ (length path + 1 < length (path_in S x))
  pub ascend : Ascends (heads kept)
  pub lower : (c u : ℕ) → has (heads kept) c ≡ true → u < c → u < length p.sizes → are_neighbours p v u ≡ true → has (vars S) u ≡ true

-- an agent that has ended, with its place in what was seen
pub record Found (p : Dcop) (R : List Visit) (u : ℕ) (view : TokenView) : Type 0 where
  pub kept : List (List ℕ)
  pub is : view ≡ ended_view p u (path_in R u) kept
  pub whole : (w : ℕ) → w < length p.sizes → are_neighbours p u w ≡ true → (has (path_in R u) w || has (concat kept) w) ≡ true
  pub nested : Nested p R u (path_in R u) kept

-- where the search stands when v looks for its next child: `base` was seen before v
pub record Call (p : Dcop) (S : List Visit) (base path : List ℕ) (v : ℕ) (kept : List (List ℕ)) (V : ℕ → TokenView) : Type 0 where
  pub shape : vars S ≡ base ++ (v ∷ concat kept)
  pub distinct : has_repeat (vars S) ≡ false
  pub below : (u : ℕ) → has (vars S) u ≡ true → u < length p.sizes
  pub apart : has_repeat (path ++ (v ∷ [])) ≡ false
  pub inside : (u : ℕ) → has path u ≡ true → has base u ≡ true
  pub agree : (u : ℕ) → u < length p.sizes → are_neighbours p v u ≡ true → has base u ≡ has path u
  pub closed : (x u : ℕ) → has (vars S) x ≡ true → has (path ++ (v ∷ [])) x ≡ false → u < length p.sizes → are_neighbours p x u ≡ true → has (vars S) u ≡ true
  pub fresh_views : (u : ℕ) → has (vars S) u ≡ false → V u ≡ fresh p u
  pub placed : path_in S v ≡ path
  pub nested : Nested p S v path kept

-- what the search from v leaves
pub record Visited (p : Dcop) (S R : List Visit) (base path : List ℕ) (v : ℕ) (kept : List (List ℕ)) (V : ℕ → TokenView) : Type 0 where
  pub grown : Grown S R
  pub count : ℕ
  pub size : length R ≡ length S + count
  pub new_kept : List (List ℕ)
  pub shape : vars R ≡ base ++ (v ∷ concat new_kept)
  pub distinct : has_repeat (vars R) ≡ false
  pub below : (u : ℕ) → has (vars R) u ≡ true → u < length p.sizes
  pub closed : (x u : ℕ) → has (vars R) x ≡ true → has path x ≡ false → u < length p.sizes → are_neighbours p x u ≡ true → has (vars R) u ≡ true
  pub nested : Nested p R v path new_kept
  pub views : ℕ → TokenView
  pub leads : (t d t2 d2 c : ℕ) → t2 ≡ t + count → d2 ≡ d + count → c ≡ count + count
      → Leads (length p.sizes) (stepped V t d v (look (open_view p v path kept None)))
      (record { views = views; flight = flight_of v (done_for (last_of path) (v ∷ concat new_kept)); tokens = t2; dones = d2 }) c
  pub same : (u : ℕ) → ((has (vars S) u ≡ true) × (u ≡ v → ⊥)) ⊎ (has (vars R) u ≡ false) → views u ≡ V u
  pub found : (u : ℕ) → has (vars R) u ≡ true → (u ≡ v) ⊎ (has (vars S) u ≡ false) → Found p R u (views u)
