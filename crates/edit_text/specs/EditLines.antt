-- What the words of a line of an edit session mean.
use Rattle.std.specs.Prelude.{◌≡◌, ℕ, List, [], ◌∷◌, Option, Some, None, Result, Ok, Err, codes, if◌then◌else◌}
use Rattle.std.specs.Str.{bytes_eq}
use Rattle.dcop_base.specs.NumberWord.{number_of}
use Rattle.problem_text.specs.Tables.{is_colon, numbers_of}
use Rattle.problem_text.specs.declared.line_end.LineEnd.{LineEnd}
use Rattle.problem_text.specs.declared.line_end.LineEnd.TheVariants as ends
use Rattle.edit_text.specs.declared.kind.EditKind.{EditKind}
use Rattle.edit_text.specs.declared.kind.EditKind.TheVariants.{BadLine, BadNumber}
use Rattle.edit_text.specs.declared.line.EditLine.{EditLine}
use Rattle.edit_text.specs.declared.line.EditLine.TheVariants.{Set, Fill, Answer, End}

-- a line of one word, which no word follows
abbrev pub alone : EditLine → List (List ℕ) → Result EditLine EditKind
alone line [] = Ok line
alone line (word ∷ more) = Err BadLine

-- the edit of a table, a cell and a cost, if each is a number
abbrev pub set_of : Option ℕ → Option ℕ → Option ℕ → Result EditLine EditKind
set_of (Some table) (Some cell) (Some cost) = Ok (Set table cell cost)
set_of _ _ _ = Err BadNumber

-- `set T K C`, given the words after `set`
abbrev pub set_line : List (List ℕ) → Result EditLine EditKind
set_line (table ∷ cell ∷ cost ∷ []) = set_of (number_of table) (number_of cell) (number_of cost)
set_line _ = Err BadLine

-- the edit of a table and its cells, if each is a number
abbrev pub fill_of : Option ℕ → Option (List ℕ) → Result EditLine EditKind
fill_of (Some table) (Some cells) = Ok (Fill table cells)
fill_of _ _ = Err BadNumber

-- `fill T : CELLS`, given the words after `fill`
abbrev pub fill_line : List (List ℕ) → Result EditLine EditKind
fill_line (table ∷ colon ∷ cells) = if is_colon colon then fill_of (number_of table) (numbers_of cells) else Err BadLine
fill_line _ = Err BadLine

-- what a line means: one of the four forms, or what is wrong with it
abbrev pub line_said : List (List ℕ) → Result EditLine EditKind
line_said [] = Err BadLine
line_said (word ∷ more) =
    if bytes_eq word (codes "set") then set_line more
    else (if bytes_eq word (codes "fill") then fill_line more
    else (if bytes_eq word (codes "answer") then alone Answer more
    else (if bytes_eq word (codes "end") then alone End more
    else Err BadLine)))

-- the result of reading a line agrees with what it means; if memory runs out, nothing is promised
abbrev pub IsRead : Result EditLine EditKind → Result EditLine (LineEnd EditKind) → Type 0
IsRead said (Ok line) = said ≡ Ok line
IsRead said (Err (ends.Fault kind)) = said ≡ Err kind
IsRead said (Err ends.NoMemory) = Unit {0}

-- a word among these is not a number; if memory runs out, nothing is promised
abbrev pub IsNumberFault : Option (List ℕ) → LineEnd EditKind → Type 0
IsNumberFault numbers (ends.Fault kind) = (numbers ≡ None) × (kind ≡ BadNumber)
IsNumberFault numbers ends.NoMemory = Unit {0}
