-- The conditions on a certificate of a cut, in their order, each with the difference that is
-- reported if it fails.
use Rattle.std.specs.Prelude.{ℕ, ◌*◌, List, length, min, Option, slice_index}
use Rattle.std.specs.List.{fold, range_with_len}
use Rattle.std.specs.Option.{option_or, option_map}
use Rattle.dcop_base.specs.Limits.{amount_limit, count_limit}
use Rattle.dcop_base.specs.Problem.{Dcop}
use Rattle.run_laws.specs.Slice.{slice_of}
use Rattle.problem_text.specs.File.{TextFile}
use Rattle.certificate_text.specs.declared.certificate.Turn.{Turn}
use Rattle.certificate_text.specs.declared.report.Report.{Report}
use Rattle.certificate_text.specs.declared.verdict.Differs.{Differs}
use Rattle.certificate_text.specs.declared.verdict.Differs.TheVariants.{Scope, Cell, TurnScope, TurnCell}
use Rattle.certificate_text.specs.Turns.{first_tables}
use Rattle.minimised_problem.specs.Goal.{problem_solved}
use Rattle.minimised_problem.specs.Told.{told, variables}
use Rattle.minimised_problem.specs.Turns.{turn_at}
use Rattle.certificate_check.specs.Cells.{root_told}
use Rattle.certificate_check.specs.Differences.{first_of, scope_difference, cells_difference, dpop_deliveries, number_difference}

-- a difference of tables, reported for the turn with this number
abbrev pub in_turn : ℕ → Differs → Differs
in_turn number (Scope var) = TurnScope number var
in_turn number (Cell var cell value left right) = TurnCell number var cell value left right
in_turn number differs = differs

-- the first difference of the scopes in a turn: each must be the separator in the turn's slice
abbrev pub scopes_in_turn : Dcop → List (List ℕ) → List ℕ → List Turn → ℕ → Option Differs
scopes_in_turn p paths cut turns number =
    let turn : Turn = turn_at turns number in
    let slice : Dcop = slice_of p cut turn.values in
    option_map (in_turn number) (first_of (scope_difference slice paths turn.tables) (variables slice))

-- the first difference of the cells in a turn. In the turn's slice, a cell of a variable's table
-- must at each value of the variable be at most this sum: the cells of the variable's own tables
-- and of its children's tables
abbrev pub cells_in_turn : Dcop → List (List ℕ) → List ℕ → List Turn → ℕ → Option Differs
cells_in_turn p paths cut turns number =
    let turn : Turn = turn_at turns number in
    let slice : Dcop = slice_of p cut turn.values in
    option_map (in_turn number) (first_of (cells_difference slice paths turn.tables) (variables slice))

-- the first difference that a test finds in the turns, one after the other
abbrev pub first_in_turns : (ℕ → Option Differs) → List Turn → Option Differs
first_in_turns test turns = first_of test (range_with_len 0 (length turns))

-- the least of amount_limit and the first cells of this variable's tables over all turns
abbrev pub least_cell : ℕ → List Turn → ℕ
least_cell var turns = fold (λ (least : ℕ) (turn : Turn). min least (slice_index (told turn.tables var).cells 0)) amount_limit turns

-- the least of the root's cells over all turns; the root is that of the first turn
abbrev pub least_root_cell : Dcop → List Turn → ℕ
least_root_cell p turns = least_cell (root_told p (first_tables turns)) turns

-- how many messages DPOP takes in these numbers of turns and agents, and at most count_limit
abbrev pub cut_deliveries : ℕ → ℕ → ℕ
cut_deliveries turns agents = min (turns * dpop_deliveries agents) count_limit

-- the first difference in the scopes, by turn and variable, then in the cells, by turn, variable,
-- cell and value, and then in the numbers
abbrev pub cut_difference : TextFile → List (List ℕ) → List ℕ → List Turn → Report → Option Differs
cut_difference f paths cut turns r =
    let p : Dcop = problem_solved f in
    option_or (first_in_turns (scopes_in_turn p paths cut turns) turns)
    (option_or (first_in_turns (cells_in_turn p paths cut turns) turns)
    (number_difference f (least_root_cell p turns) (cut_deliveries (length turns) (length f.problem.sizes)) r))
