use Rattle.std.proofs.Common.{refl, ap}
use Rattle.problem_text.specs.Declarations.{Declared}
use Rattle.wcsp_text.specs.Problems.{bar}
use Rattle.wcsp_text.proofs.ValueLaws.{valued, least}
use Rattle.answer_io.proofs.law.wcsp_files_have_values.Goals as goal

pub returns : goal.returns
returns c = λ w file whole same.
    let value = valued w file.problem (bar w) whole (ap (λ (d : Declared). d.tables) same) refl in
    (value, least w file.problem (bar w) refl value)
