-- An input that is refused is not refused as one that could not be read.
use Rattle.std.proofs.Common.{◌≡◌, ℕ, List, Option, Some, None, Result, Ok, Err}
use Rattle.problem_text.specs.Declarations.{Declared}
use Rattle.problem_text.specs.Reading.{Fault, Parts, text_read}
use Rattle.wcsp_text.specs.declared.fault.Fault.{Fault as WcspFault}
use Rattle.wcsp_text.specs.Networks.{Network}
use Rattle.wcsp_text.specs.Texts.{text_read as wcsp_read}
use Rattle.solve_words.specs.declared.command.Format.{Format}
use Rattle.solve_words.specs.declared.command.Format.TheVariants.{Dcop as Own, Wcsp}
use Rattle.solve_report.specs.declared.answer.Answer.TheVariants.{Read}
use Rattle.answer_io.specs.Whole.{whole_read}
use Rattle.answer_io.specs.Fronts.{own_front, wcsp_front, front_read}
use Rattle.answer_io.specs.Inputs.{own_input, further_line, unless_further, wcsp_input, input_read}

own_told : (r : Result Declared Fault) → ¬ (own_input r ≡ Err Read)
own_told (Ok declared) e = cc
own_told (Err fault) e = cc

further_told : (w : Network) (line : Option ℕ) → ¬ (unless_further w line ≡ Err Read)
further_told w None e = cc
further_told w (Some line) e = cc

wcsp_told : (bytes : List ℕ) (r : Result (Network × ℕ) WcspFault) → ¬ (wcsp_input bytes r ≡ Err Read)
wcsp_told bytes (Ok read) e = further_told read.0 (further_line bytes read.1) e
wcsp_told bytes (Err fault) e = cc

pub input_told : (format : Format) (bytes : List ℕ) → ¬ (input_read format bytes ≡ Err Read)
input_told Own bytes e = own_told (whole_read bytes) e
input_told Wcsp bytes e = wcsp_told bytes (wcsp_read bytes) e

own_begun : (r : Result Parts Fault) → ¬ (own_front r ≡ Err Read)
own_begun (Ok parts) e = cc
own_begun (Err fault) e = cc

wcsp_begun : (bytes : List ℕ) (r : Result (Network × ℕ) WcspFault) → ¬ (wcsp_front bytes r ≡ Err Read)
wcsp_begun bytes (Ok read) e = cc
wcsp_begun bytes (Err fault) e = cc

pub front_told : (format : Format) (bytes : List ℕ) → ¬ (front_read format bytes ≡ Err Read)
front_told Own bytes e = own_begun (text_read bytes) e
front_told Wcsp bytes e = wcsp_begun bytes (wcsp_read bytes) e
