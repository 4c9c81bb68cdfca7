-- How the file that is read agrees with the text.
use Rattle.std.specs.Prelude.{◌≡◌, ℕ, List, Result, Ok, Err}
use Rattle.problem_text.specs.declared.line_end.LineEnd.{LineEnd}
use Rattle.wcsp_text.specs.declared.fault.Fault.{Fault}
use Rattle.wcsp_text.specs.declared.reader.ReadWcsp.{ReadWcsp}
use Rattle.wcsp_text.specs.Networks.{Network}
use Rattle.wcsp_text.specs.Gives.{Ends}
use Rattle.wcsp_text.specs.Texts.{text_read}
use Rattle.wcsp_text.specs.Files.{IsOf}

-- the result of reading a text: a file is made from the text's network, with the number of bytes
-- that give it; a fault is the text's first fault
abbrev pub GivesFile : List ℕ → Result ReadWcsp (LineEnd Fault) → Type 0
GivesFile bytes (Ok r) = (w : Network) × (text_read bytes ≡ Ok (w, r.used)) × IsOf w r
GivesFile bytes (Err end) = Ends end (text_read bytes)
