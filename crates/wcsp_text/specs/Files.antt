-- The file that is read from a WCSP text.
use Rattle.std.specs.Prelude.{◌≡◌, ℕ, List, Result, Ok, Err}
use Rattle.dcop_base.specs.Problem.{Dcop}
use Rattle.problem_text.specs.File.{TextFile}
use Rattle.problem_text.specs.Numbered.{numbered_file}
use Rattle.wcsp_text.specs.declared.fault.WcspFault.{WcspFault}
use Rattle.wcsp_text.specs.declared.fault.WcspFault.TheVariants.{Bad, NoMemory}
use Rattle.wcsp_text.specs.declared.reader.ReadWcsp.{ReadWcsp}
use Rattle.wcsp_text.specs.Words.{line_at}
use Rattle.wcsp_text.specs.Networks.{Network}
use Rattle.wcsp_text.specs.Problems.{tables, bar}
use Rattle.wcsp_text.specs.Texts.{text_read}
use Rattle.wcsp_text.specs.Values.{IsValued, HasLeastValue}

-- the file of a problem that is made from a network: its variables are named by their numbers, and
-- its version is 2
abbrev pub file_of : Dcop → TextFile
file_of p = record (numbered_file p) { version = 2 }

-- a file is made from this network, which a WCSP text declares: it has the network's sizes, its
-- tables, in which cells of at least top are raised to the hard cost, and its bar
pub record IsOf (w : Network) (r : ReadWcsp) : Type 0 where
  pub file : r.file ≡ file_of r.file.problem
  pub sizes : r.file.problem.sizes ≡ w.sizes
  pub tables : r.file.problem.tables ≡ tables w
  pub bar : r.bar ≡ bar w

-- the result of reading a text: a file is made from the text's network, with the number of bytes
-- that give it; a fault is the text's first fault, with its line
abbrev pub Reads : List ℕ → Result ReadWcsp WcspFault → Type 0
Reads bytes (Ok r) = (w : Network) × (text_read bytes ≡ Ok (w, r.used)) × IsOf w r
Reads bytes (Err NoMemory) = Unit {0}
Reads bytes (Err (Bad line kind)) =
    (after : ℕ) × (text_read bytes ≡ Err (record { after = after; kind = kind })) × (line ≡ line_at bytes after)

-- the file that is read has the WCSP values of the text's network, and an assignment that costs
-- least in it (`IsCheapest`) has the least WCSP value
abbrev pub HasValues : List ℕ → ReadWcsp → Type 0
HasValues bytes r = (w : Network) → text_read bytes ≡ Ok (w, r.used)
    → IsValued w r.file.problem r.bar × HasLeastValue w r.file.problem
