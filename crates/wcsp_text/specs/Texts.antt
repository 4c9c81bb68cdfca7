-- What a text is read as: a network and the number of bytes that give it, or the first fault.
use Rattle.std.specs.Prelude.{ℕ, List, [], ◌∷◌, take, length, Option, Some, None, Result, Ok, Err, ◌==◌, if◌then◌else◌}
use Rattle.std.specs.List.{sum_by}
use Rattle.dcop_base.specs.Faults.{problem_fault}
use Rattle.dcop_base.specs.declared.problem.ProblemFault.{ProblemFault}
use Rattle.problem_text.specs.Lines.{lines}
use Rattle.wcsp_text.specs.declared.fault.Fault.{Fault}
use Rattle.wcsp_text.specs.declared.fault.WcspKind.TheVariants.{AfterEnd}
use Rattle.wcsp_text.specs.Words.{Word, words, line_at}
use Rattle.wcsp_text.specs.Numbers.{Place}
use Rattle.wcsp_text.specs.Networks.{Network, network_read}
use Rattle.wcsp_text.specs.Problems.{tables, told_at}

-- how many bytes a text has up to and including this line
abbrev pub bytes_to : List ℕ → ℕ → ℕ
bytes_to bytes line = sum_by (λ l. length l) (take line (lines bytes))

-- the result for a network whose last word ends before this place: no further word may be on the
-- line of that word
abbrev pub ended : List ℕ → Network → ℕ → List Word → Result (Network × ℕ) Fault
ended bytes w after [] = Ok (w, bytes_to bytes (line_at bytes after))
ended bytes w after (word ∷ later) =
    if line_at bytes word.after == line_at bytes after
    then Err (record { after = word.after; kind = AfterEnd })
    else Ok (w, bytes_to bytes (line_at bytes after))

-- a network from which a problem can be made, or else the problem's fault
abbrev pub made : List ℕ → Network → Place → Option ProblemFault → Result (Network × ℕ) Fault
made bytes w p (Some fault) = Err (told_at w.functions fault)
made bytes w p None = ended bytes w p.after p.words

-- the result for the whole text, given what is read of its network
abbrev pub whole : List ℕ → Result (Network × Place) Fault → Result (Network × ℕ) Fault
whole bytes (Ok r) = made bytes r.0 r.1 (problem_fault r.0.sizes (tables r.0))
whole bytes (Err fault) = Err fault

-- what a text is read as: a network, with the number of bytes up to and including the line of its
-- last word; or the first fault, in the order of the words
abbrev pub text_read : List ℕ → Result (Network × ℕ) Fault
text_read bytes = whole bytes (network_read (words bytes))
