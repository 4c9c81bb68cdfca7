-- The depth-first tree of a problem.
use Rattle.std.specs.Prelude.{ℕ, zero, suc, Bool, not, List, [], ◌∷◌, ◌++◌, map, length, Option, Some, None, ◌==◌, if◌then◌else◌}
use Rattle.std.specs.List.{list_any, find, range_with_len}
use Rattle.dcop_base.specs.Problem.{Dcop}
use Rattle.dcop_base.specs.Graph.{neighbours}
use Rattle.dcop_base.specs.Whole.{IsProblem}
use Rattle.pseudotree.specs.Pseudotree.{IsPseudotree, IsLinked}

-- a variable that was visited, with its path
pub record Visit : Type 0 where
  pub var : ℕ
  pub path : List ℕ

-- whether a variable was visited
abbrev pub is_seen : List Visit → ℕ → Bool
is_seen seen v = list_any (λ s. s.var == v) seen

-- the lowest neighbour of v that has not been visited, if there is one
abbrev pub next_of : Dcop → List Visit → ℕ → Option ℕ
next_of p seen v = find (λ w. not (is_seen seen w)) (neighbours p v)

-- the visits so far if there is no next variable, and otherwise the visits that result from going to it
abbrev pub and_next : Option ℕ → List Visit → (ℕ → List Visit) → List Visit
and_next None seen go = seen
and_next (Some w) seen go = go w

-- the search from v, which is already visited: it goes to the lowest neighbour that has not been visited, searches from there, and repeats until there is none; each step visits one more variable, so as many steps as there are variables are enough
abbrev pub visit : Dcop → ℕ → ℕ → List ℕ → List Visit → List Visit
visit p zero v path seen = seen
visit p (suc steps) v path seen = and_next (next_of p seen v) seen (λ w.
    visit p steps v path (visit p steps w (path ++ (v ∷ [])) (seen ++ (record { var = w; path = path ++ (v ∷ []) } ∷ []))))

-- the search from variable 0: all variables that it visits, in order, with their paths
abbrev pub search_of : Dcop → List Visit
search_of p = visit p (length p.sizes) 0 [] (record { var = 0; path = [] } ∷ [])

-- the path with which a variable was visited
abbrev pub path_in : List Visit → ℕ → List ℕ
path_in [] v = []
path_in (s ∷ ss) v = if s.var == v then s.path else path_in ss v

-- the depth-first tree of a problem: the path of each variable
abbrev pub dfs : Dcop → List (List ℕ)
dfs p = map (path_in (search_of p)) (range_with_len 0 (length p.sizes))

-- the depth-first tree of a problem is a pseudotree of it, and it is linked
abbrev pub DepthFirstTreesAreLinked : Type 0
DepthFirstTreesAreLinked = (p : Dcop) → IsProblem p → IsPseudotree p (dfs p) × IsLinked p (dfs p)
