-- What a whole input is read as: its problem, if no further word follows it.
use Rattle.std.specs.Prelude.{ℕ, List, [], ◌∷◌, drop, Option, Some, None, Result, Ok, Err}
use Rattle.problem_text.specs.Declarations.{Declared}
use Rattle.problem_text.specs.Reading.{Fault}
use Rattle.wcsp_text.specs.declared.fault.Fault.{Fault as WcspFault}
use Rattle.wcsp_text.specs.declared.fault.WcspKind.TheVariants.{AfterEnd}
use Rattle.wcsp_text.specs.Networks.{Network}
use Rattle.wcsp_text.specs.Texts.{text_read as wcsp_read}
use Rattle.wcsp_text.specs.Kinds.{number_of_kind, number_of_problem}
use Rattle.wcsp_text.specs.Words.{Word, words, line_at}
use Rattle.solve_words.specs.declared.command.Format.{Format}
use Rattle.solve_words.specs.declared.command.Format.TheVariants.{Dcop as Own, Wcsp}
use Rattle.solve_report.specs.declared.answer.Answer.{Answer}
use Rattle.solve_report.specs.declared.answer.Answer.TheVariants.{WcspText}
use Rattle.answer_io.specs.Showing.{refused_by}
use Rattle.answer_io.specs.Whole.{whole_read}
use Rattle.answer_io.specs.InputTold.{DeclaredInput, told_by, wcsp_refused_by}

-- what a whole input is read as, given what its problem text is read as
abbrev pub own_input : Result Declared Fault → Result DeclaredInput Answer
own_input (Ok declared) = Ok (record { declared = declared; bar = None })
own_input (Err fault) = Err (refused_by fault)

-- the line of the first of these words of a text; None if there are none
abbrev pub line_of_first : List ℕ → List Word → Option ℕ
line_of_first bytes [] = None
line_of_first bytes (word ∷ later) = Some (line_at bytes word.after)

-- the line of the first word after the first `used` bytes of a text; None if there is none
abbrev pub further_line : List ℕ → ℕ → Option ℕ
further_line bytes used = line_of_first bytes (words (drop used bytes))

-- what the network of a WCSP text declares; or, if a further word is on this line, the answer that
-- refuses the text
abbrev pub unless_further : Network → Option ℕ → Result DeclaredInput Answer
unless_further w None = Ok (told_by w)
unless_further w (Some line) = Err (WcspText line (number_of_kind AfterEnd) (number_of_problem AfterEnd))

-- what a whole input is read as, given what its WCSP text is read as up to the line of its last
-- word
abbrev pub wcsp_input : List ℕ → Result (Network × ℕ) WcspFault → Result DeclaredInput Answer
wcsp_input bytes (Ok read) = unless_further read.0 (further_line bytes read.1)
wcsp_input bytes (Err fault) = Err (wcsp_refused_by bytes fault)

-- the problem of a whole input in this format, or the answer that refuses it
abbrev pub input_read : Format → List ℕ → Result DeclaredInput Answer
input_read Own bytes = own_input (whole_read bytes)
input_read Wcsp bytes = wcsp_input bytes (wcsp_read bytes)

-- what an input declares, given what it is read as
abbrev pub declared_in : Result DeclaredInput Answer → Result Declared Answer
declared_in (Ok told) = Ok told.declared
declared_in (Err refusal) = Err refusal
