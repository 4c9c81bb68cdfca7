-- The law of the files made from WCSP texts.
use Rattle.std.specs.Prelude.{◌≡◌}
use Rattle.dcop_base.specs.Whole.{IsProblem}
use Rattle.problem_text.specs.File.{TextFile}
use Rattle.problem_text.specs.Steps.{declared_by}
use Rattle.wcsp_text.specs.Networks.{Network}
use Rattle.wcsp_text.specs.Problems.{bar}
use Rattle.wcsp_text.specs.Values.{IsValued, HasLeastValue}
use Rattle.answer_io.specs.InputTold.{declared_of}

-- if a file declares what the network of a WCSP text does, a cost below the bar is the WCSP value
-- of its assignment, a cost from the bar on means the value top, and an optimum has the least WCSP
-- value
abbrev pub WcspFilesHaveValues : Type 0
WcspFilesHaveValues = (w : Network) (file : TextFile) → IsProblem file.problem → declared_by file ≡ declared_of w
    → IsValued w file.problem (bar w) × HasLeastValue w file.problem
