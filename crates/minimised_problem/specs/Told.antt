-- What the tables of a certificate say about each variable.
use Rattle.std.specs.Prelude.{ℕ, List, [], ◌∷◌, map, length, Option, None, ◌==◌, if◌then◌else◌, slice_index}
use Rattle.std.specs.List.{range_with_len}
use Rattle.dcop_base.specs.Table.{CostTable}
use Rattle.dcop_base.specs.Problem.{Dcop}
use Rattle.certificate_text.specs.declared.certificate.Util.{Util}

-- the table of a variable: the first one that has it as its own variable, or an empty one if there
-- is none
abbrev pub told : List Util → ℕ → Util
told [] v = record { var = v; parent = None; scope = []; cells = [] }
told (u ∷ us) v = if u.var == v then u else told us v

-- the variables of a problem, ascending
abbrev pub variables : Dcop → List ℕ
variables p = range_with_len 0 (length p.sizes)

-- the parents, one entry for each variable
abbrev pub parents_told : Dcop → List Util → List (Option ℕ)
parents_told p utils = map (λ v. (told utils v).parent) (variables p)

-- the scopes, one for each variable
abbrev pub scopes_told : Dcop → List Util → List (List ℕ)
scopes_told p utils = map (λ v. (told utils v).scope) (variables p)

-- the cells, one list for each variable
abbrev pub cells_told : Dcop → List Util → List (List ℕ)
cells_told p utils = map (λ v. (told utils v).cells) (variables p)

-- a UTIL table as a cost table, with the sizes of its scope's variables
abbrev pub sized : List ℕ → Util → CostTable
sized sizes u = record { scope = u.scope; sizes = map (slice_index sizes) u.scope; cells = u.cells }
