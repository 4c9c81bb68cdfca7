-- Worked rows: four variables of 33 values, each two of which share a table, and a triangle with a tail.
use Rattle.std.proofs.Common.{◌≡◌, ℕ, List, [], ◌∷◌, map, Some, None, refl}
use Rattle.std.specs.List.{range_with_len}
use Rattle.dcop_base.specs.Table.{CostTable}
use Rattle.dcop_base.specs.Problem.{Dcop}
use Rattle.pseudotree.specs.Width.{joined_cells, sent_total}
use Rattle.run_laws.specs.Slice.{slice_of}
use Rattle.run_laws.specs.Turns.{turns_of, turn_count}
use Rattle.run_laws.specs.CutSet.{counted, first_over, next_cut}

-- a table of two variables of 33 values; the rule reads no cells, so they are left out
abbrev wide : ℕ → ℕ → CostTable
wide u v = record { scope = u ∷ v ∷ []; sizes = 33 ∷ 33 ∷ []; cells = [] }

abbrev four : Dcop
four = record { sizes = 33 ∷ 33 ∷ 33 ∷ 33 ∷ []; tables = wide 0 1 ∷ wide 0 2 ∷ wide 0 3 ∷ wide 1 2 ∷ wide 1 3 ∷ wide 2 3 ∷ []; joints = [] }

abbrev chain : List (List ℕ)
chain = [] ∷ (0 ∷ []) ∷ (0 ∷ 1 ∷ []) ∷ (0 ∷ 1 ∷ 2 ∷ []) ∷ []

joined_are : map (joined_cells (counted four []) chain) (range_with_len 0 4) ≡ 33 ∷ 1089 ∷ 35937 ∷ 1185921 ∷ []
joined_are = refl

d_is_over : first_over 1048576 (counted four []) chain ≡ Some 3
d_is_over = refl

a_is_cut : next_cut four chain 1048576 [] ≡ Some 0
a_is_cut = refl

then_none : next_cut four chain 1048576 (0 ∷ []) ≡ None
then_none = refl

turns_are : turn_count four (0 ∷ []) ≡ 33
turns_are = refl

-- a table of two variables with two values each, with the cells 1 2 2 0
abbrev of_two : ℕ → ℕ → CostTable
of_two u v = record { scope = u ∷ v ∷ []; sizes = 2 ∷ 2 ∷ []; cells = 1 ∷ 2 ∷ 2 ∷ 0 ∷ [] }

abbrev tailed : Dcop
tailed = record { sizes = 2 ∷ 2 ∷ 2 ∷ 2 ∷ []; tables = of_two 0 1 ∷ of_two 0 2 ∷ of_two 1 2 ∷ of_two 1 3 ∷ []; joints = [] }

-- the depth-first tree: c and d are children of b
abbrev tree : List (List ℕ)
tree = [] ∷ (0 ∷ []) ∷ (0 ∷ 1 ∷ []) ∷ (0 ∷ 1 ∷ []) ∷ []

c_is_over : first_over 4 (counted tailed []) tree ≡ Some 2
c_is_over = refl

a_is_cut_of_tailed : next_cut tailed tree 4 [] ≡ Some 0
a_is_cut_of_tailed = refl

none_of_tailed : next_cut tailed tree 4 (0 ∷ []) ≡ None
none_of_tailed = refl

two_turns : turns_of tailed (0 ∷ []) ≡ (0 ∷ []) ∷ (1 ∷ []) ∷ []
two_turns = refl

-- the slice at a = 1
abbrev cut_two : ℕ → List ℕ → CostTable
cut_two v cells = record { scope = 0 ∷ v ∷ []; sizes = 1 ∷ 2 ∷ []; cells = cells }

slice_at_one : slice_of tailed (0 ∷ []) (1 ∷ []) ≡ record { sizes = 1 ∷ 2 ∷ 2 ∷ 2 ∷ []; tables = cut_two 1 (2 ∷ 0 ∷ []) ∷ cut_two 2 (2 ∷ 0 ∷ []) ∷ of_two 1 2 ∷ of_two 1 3 ∷ []; joints = [] }
slice_at_one = refl

sent_in_a_turn : sent_total (counted tailed (0 ∷ [])) tree ≡ 5
sent_in_a_turn = refl
