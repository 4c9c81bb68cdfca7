-- What an input is read as, up to the end of the last line of its problem.
use Rattle.std.specs.Prelude.{ℕ, ◌==◌, List, Result, Ok, Err, count_by}
use Rattle.problem_text.specs.Bytes.{line_feed}
use Rattle.problem_text.specs.Reading.{Fault, Parts, text_read}
use Rattle.wcsp_text.specs.declared.fault.Fault.{Fault as WcspFault}
use Rattle.wcsp_text.specs.Networks.{Network}
use Rattle.wcsp_text.specs.Texts.{text_read as wcsp_read}
use Rattle.solve_words.specs.declared.command.Format.{Format}
use Rattle.solve_words.specs.declared.command.Format.TheVariants.{Dcop as Own, Wcsp}
use Rattle.solve_report.specs.declared.answer.Answer.{Answer}
use Rattle.answer_io.specs.Showing.{refused_by}
use Rattle.answer_io.specs.InputTold.{declared_of, wcsp_refused_by}

-- what is declared at the front of an input, or the answer that refuses it, given the result of
-- reading it as problem text
abbrev pub own_front : Result Parts Fault → Result Parts Answer
own_front (Ok parts) = Ok parts
own_front (Err fault) = Err (refused_by fault)

-- what is declared at the front of an input, or the answer that refuses it, given the result of
-- reading it as WCSP text
abbrev pub wcsp_front : List ℕ → Result (Network × ℕ) WcspFault → Result Parts Answer
wcsp_front bytes (Ok read) = Ok (record { declared = declared_of read.0; used = read.1 })
wcsp_front bytes (Err fault) = Err (wcsp_refused_by bytes fault)

-- the problem that an input in this format begins with, and the number of bytes up to the end of
-- its last line; or the answer that refuses it
abbrev pub front_read : Format → List ℕ → Result Parts Answer
front_read Own bytes = own_front (text_read bytes)
front_read Wcsp bytes = wcsp_front bytes (wcsp_read bytes)

-- how many line feeds a text has
abbrev pub lines_in : List ℕ → ℕ
lines_in bytes = count_by (λ b. b == line_feed) bytes
