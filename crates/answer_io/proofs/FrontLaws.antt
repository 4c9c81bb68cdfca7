-- The problem that an input begins with, whatever follows it.
use Rattle.std.proofs.Common.{◌≡◌, ℕ, ◌≤◌, List, [], ◌∷◌, ◌++◌, length, replicate, Some, Result, Ok, Err, sym, ap, ap₂, subst, ◌∙◌}
use Rattle.dcop_base.specs.Table.{CostTable}
use Rattle.problem_text.specs.Bytes.{line_feed}
use Rattle.problem_text.specs.Declarations.{Declared}
use Rattle.problem_text.specs.Numbered.{numbered_names}
use Rattle.problem_text.specs.Reading.{Fault, Parts, text_read}
use Rattle.problem_text.specs.Steps.{declared_by}
use Rattle.problem_text.specs.declared.file.Goal.TheVariants.{Min}
use Rattle.wcsp_text.specs.declared.fault.Fault.{Fault as WcspFault}
use Rattle.wcsp_text.specs.declared.reader.ReadWcsp.{ReadWcsp}
use Rattle.wcsp_text.specs.Files.{IsOf}
use Rattle.wcsp_text.specs.Networks.{Network}
use Rattle.wcsp_text.specs.Problems.{tables}
use Rattle.wcsp_text.specs.Texts.{text_read as wcsp_read}
use Rattle.solve_words.specs.declared.command.Format.{Format}
use Rattle.solve_words.specs.declared.command.Format.TheVariants.{Dcop as Own, Wcsp}
use Rattle.answer_io.specs.InputTold.{told_of, told_by, declared_of}
use Rattle.answer_io.specs.Fronts.{own_front, wcsp_front, front_read}
use Rattle.answer_io.proofs.UsedLaws.{text_used}
use Rattle.answer_io.proofs.PrefixLaws.{text_kept}
use Rattle.answer_io.proofs.MovedLaws.{moved_network}
use Rattle.answer_io.proofs.NetworkLaws.{tables_same, network_kept, network_used}

-- what is declared by sizes and tables that are read from a WCSP text
abbrev declared_with : List ℕ → List CostTable → Declared
declared_with sizes tables = record {
  version = 2;
  goal = Min;
  names = numbered_names (length sizes);
  labels = replicate (length sizes) [];
  sizes = sizes;
  tables = tables;
}

-- a file that is read from a network declares what the network does
pub declared_same : (w : Network) (r : ReadWcsp) → IsOf w r → declared_by r.file ≡ declared_of w
declared_same w r of = ap declared_by of.file ∙ ap₂ declared_with of.sizes of.tables

pub told_same : (w : Network) (r : ReadWcsp) → IsOf w r → told_by w ≡ told_of r.file (Some r.bar)
told_same w r of = ap₂ (λ (d : Declared) (b : ℕ). record { declared = d; bar = Some b }) (sym (declared_same w r of)) (sym of.bar)

declared_moved : (n : ℕ) (w : Network) → declared_of (moved_network n w) ≡ declared_of w
declared_moved n w = ap (declared_with w.sizes) (tables_same n w)

own_parts : (r : Result Parts Fault) (parts : Parts) → own_front r ≡ Ok parts → r ≡ Ok parts
own_parts (Ok same) parts e = let one : same ≡ parts = cc in ap Ok one
own_parts (Err fault) parts e = absurd (cc)

-- the parts of what is read from a WCSP text
parts_in : (bytes : List ℕ) (r : Result (Network × ℕ) WcspFault) (parts : Parts) → wcsp_front bytes r ≡ Ok parts
    → (w : Network) × (r ≡ Ok (w, parts.used)) × (declared_of w ≡ parts.declared)
parts_in bytes (Ok (w, used)) parts e =
    let same : ◌≡◌ {A = Parts} (record { declared = declared_of w; used = used }) parts = cc in
    (w, ap (λ (p : Parts). Ok (w, p.used)) same, ap (λ (p : Parts). p.declared) same)
parts_in bytes (Err fault) parts e = absurd (cc)

-- an input whose problem ends with line_feed begins with that problem, whatever follows it
pub front_kept : (format : Format) (problem before rest : List ℕ) (parts : Parts) → problem ≡ before ++ line_feed ∷ [] → front_read format problem ≡ Ok parts → front_read format (problem ++ rest) ≡ Ok parts
front_kept Own problem before rest parts ends is =
    ap own_front (text_kept problem before rest parts ends (own_parts (text_read problem) parts is))
front_kept Wcsp problem before rest parts ends is =
    let told = parts_in problem (wcsp_read problem) parts is in
    let kept : wcsp_read ((before ++ line_feed ∷ []) ++ rest) ≡ Ok (moved_network (length rest) told.0, parts.used) =
    network_kept before rest told.0 parts.used (subst (λ (t : List ℕ). wcsp_read t ≡ Ok (told.0, parts.used)) ends told.1) in
    let here : wcsp_read (problem ++ rest) ≡ Ok (moved_network (length rest) told.0, parts.used) =
    subst (λ (t : List ℕ). wcsp_read (t ++ rest) ≡ Ok (moved_network (length rest) told.0, parts.used)) (sym ends) kept in
    ap (wcsp_front (problem ++ rest)) here
    ∙ ap (λ (d : Declared). Ok (record { declared = d; used = parts.used })) (declared_moved (length rest) told.0 ∙ told.2)

-- the problem uses at most as many bytes as the input has
pub front_used : (format : Format) (bytes : List ℕ) (parts : Parts) → front_read format bytes ≡ Ok parts → parts.used ≤ length bytes
front_used Own bytes parts is = text_used bytes parts (own_parts (text_read bytes) parts is)
front_used Wcsp bytes parts is =
    let told = parts_in bytes (wcsp_read bytes) parts is in network_used bytes told.0 parts.used told.1
