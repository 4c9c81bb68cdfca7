-- How the result of reading a line agrees with the line's outcome. If memory runs out, nothing is
-- promised.
use Rattle.std.specs.Prelude.{◌≡◌, Result, Ok, Err}
use Rattle.problem_text.specs.declared.fault.TextKind.{TextKind}
use Rattle.problem_text.specs.declared.line_end.LineEnd.{LineEnd}
use Rattle.problem_text.specs.declared.line_end.LineEnd.TheVariants as ends
use Rattle.problem_text.specs.declared.variable.Variable.{Variable}
use Rattle.problem_text.specs.declared.cell_words.Summary.{Summary}
use Rattle.dcop_base.specs.Table.{CostTable}
use Rattle.problem_text.specs.Declarations.{Declared, Outcome, Declares, Fails, with_variable, with_table}

-- why the reading of a line stopped agrees with the line's outcome: if it stopped with a fault,
-- this is the line's fault
abbrev pub Ends : LineEnd TextKind → Outcome → Type 0
Ends ends.NoMemory outcome = Unit {0}
Ends (ends.Fault kind) outcome = outcome ≡ Fails kind

-- a result of reading agrees with a line's outcome; `view` turns a value that was read into the
-- outcome of its line
abbrev pub Gives : {A : Type 0} → (A → Outcome) → Result A (LineEnd TextKind) → Outcome → Type 0
Gives view (Ok x) outcome = outcome ≡ view x
Gives view (Err e) outcome = Ends e outcome

-- the parts of a variable agree with an outcome: it declares the variable
abbrev pub GivesVariable : Declared → Result Variable (LineEnd TextKind) → Outcome → Type 0
GivesVariable d result outcome =
    Gives (λ v. Declares (with_variable d v.name.now v.labels v.size)) result outcome

-- a table with its summary agrees with an outcome: it declares the table
abbrev pub GivesTable : Declared → Result (CostTable × Summary) (LineEnd TextKind) → Outcome → Type 0
GivesTable d result outcome = Gives (λ r. Declares (with_table d r.0)) result outcome
