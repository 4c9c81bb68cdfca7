-- The lines other than tables: the header, the goal, variables and the end. Each test is for one
-- fault; the first test that fails gives the fault.
use Rattle.std.specs.Prelude.{ℕ, Bool, false, not, ◌&&◌, ◌||◌, List, [], ◌∷◌, length, Option, Some, None, ◌==◌, nat_le, if◌then◌else◌, codes}
use Rattle.std.specs.List.{list_all}
use Rattle.dcop_base.specs.Faults.{is_bad_size}
use Rattle.dcop_base.specs.NumberWord.{number_of}
use Rattle.dcop_base.specs.Limits.{variable_limit}
use Rattle.problem_text.specs.declared.file.Goal.TheVariants.{Min, Max}
use Rattle.problem_text.specs.declared.fault.TextKind.{TextKind}
use Rattle.problem_text.specs.declared.fault.TextKind.TheVariants.{BadHeader, BadWord, BadNumber, NameTwice, Problem}
use Rattle.std.specs.Str.{bytes_eq}
use Rattle.problem_text.specs.Name.{is_name}
use Rattle.problem_text.specs.Lines.{has_some}
use Rattle.problem_text.specs.Declarations.{Declared, version_alone, is_among, with_variable, unless, Outcome, Declares, Ends, Fails}

-- `dcop 1` or `dcop 2`
abbrev pub header : List (List ℕ) → Outcome
header (first ∷ second ∷ []) =
    if not (bytes_eq first (codes "dcop")) then Fails BadHeader
    else (if bytes_eq second (codes "1") then Declares (version_alone 1)
    else (if bytes_eq second (codes "2") then Declares (version_alone 2)
    else Fails BadHeader))
header _ = Fails BadHeader

-- the words after `goal`: `min` or `max`, and only on the second line with words
abbrev pub goal_line : Bool → Declared → List (List ℕ) → Outcome
goal_line is_second d (word ∷ []) =
    if not is_second then Fails BadWord
    else (if bytes_eq word (codes "min") then Declares (record d { goal = Min })
    else (if bytes_eq word (codes "max") then Declares (record d { goal = Max })
    else Fails BadWord))
goal_line is_second d _ = Fails BadWord

-- the first fault of one more variable's size, after `many` variables
abbrev pub size_fault : ℕ → ℕ → Option TextKind
size_fault many size =
    if nat_le variable_limit many then Some (Problem 10)
    else (if is_bad_size size then Some (Problem 2)
    else None)

-- the outcome of one more variable with this name, these value names and this size
abbrev pub variable : Declared → List ℕ → List (List ℕ) → ℕ → Outcome
variable d name values size = unless (size_fault (length d.sizes) size) (with_variable d name values size)

-- the outcome of one more variable with this name and size, if the size is a number
abbrev pub sized : Declared → List ℕ → Option ℕ → Outcome
sized d name None = Fails BadNumber
sized d name (Some size) = variable d name [] size

-- whether a word occurs twice among words
abbrev pub has_twice : List (List ℕ) → Bool
has_twice [] = false
has_twice (word ∷ later) = is_among later word || has_twice later

-- `NAME : VALUES`
abbrev pub with_values : Declared → List ℕ → List (List ℕ) → Outcome
with_values d name values =
    if not (is_name name) || not (list_all is_name values) then Fails BadWord
    else (if is_among d.names name || has_twice values then Fails NameTwice
    else variable d name values (length values))

-- `NAME SIZE`
abbrev pub with_size : Declared → List ℕ → List ℕ → List (List ℕ) → Outcome
with_size d name size further =
    if has_some further || not (is_name name) then Fails BadWord
    else (if is_among d.names name then Fails NameTwice
    else sized d name (number_of size))

-- the words after `var`: `NAME : VALUES` in version 2, or `NAME SIZE`
abbrev pub var_line : Declared → List (List ℕ) → Outcome
var_line d (name ∷ third ∷ further) =
    if d.version == 2 && bytes_eq third (codes ":") then with_values d name further
    else with_size d name third further
var_line d _ = Fails BadWord

-- the words after `end`: there are none, and at least one variable is declared
abbrev pub end_line : Declared → List (List ℕ) → Outcome
end_line d further =
    if has_some further then Fails BadWord
    else (if length d.sizes == 0 then Fails (Problem 1)
    else Ends)
