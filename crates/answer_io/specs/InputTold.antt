-- A problem as read from an input, and the answer to a WCSP text that is refused.
use Rattle.std.specs.Prelude.{ℕ, List, [], Option, Some, length, replicate}
use Rattle.problem_text.specs.Declarations.{Declared}
use Rattle.problem_text.specs.File.{TextFile}
use Rattle.problem_text.specs.Numbered.{numbered_names}
use Rattle.problem_text.specs.Steps.{declared_by}
use Rattle.problem_text.specs.declared.file.Goal.TheVariants.{Min}
use Rattle.wcsp_text.specs.declared.fault.Fault.{Fault}
use Rattle.wcsp_text.specs.Kinds.{number_of_kind, number_of_problem}
use Rattle.wcsp_text.specs.Networks.{Network}
use Rattle.wcsp_text.specs.Problems.{tables, bar}
use Rattle.wcsp_text.specs.Words.{line_at}
use Rattle.solve_report.specs.declared.answer.Answer.{Answer}
use Rattle.solve_report.specs.declared.answer.Answer.TheVariants.{WcspText}

-- a problem as read: what is declared, and the bar of a WCSP text
pub record DeclaredInput : Type 0 where
  pub declared : Declared
  pub bar : Option ℕ

-- this file with this bar, as a problem that was read
abbrev pub told_of : TextFile → Option ℕ → DeclaredInput
told_of file bar = record { declared = declared_by file; bar = bar }

-- the network of a WCSP text, as what a problem text declares: its sizes and raised tables,
-- variables named by their numbers, version 2 and goal min
abbrev pub declared_of : Network → Declared
declared_of w = record {
  version = 2;
  goal = Min;
  names = numbered_names (length w.sizes);
  labels = replicate (length w.sizes) [];
  sizes = w.sizes;
  tables = tables w;
}

-- the network of a WCSP text, as a problem that was read
abbrev pub told_by : Network → DeclaredInput
told_by w = record { declared = declared_of w; bar = Some (bar w) }

-- the answer to a WCSP text whose first fault is this
abbrev pub wcsp_refused_by : List ℕ → Fault → Answer
wcsp_refused_by bytes fault =
    WcspText (line_at bytes fault.after) (number_of_kind fault.kind) (number_of_problem fault.kind)
