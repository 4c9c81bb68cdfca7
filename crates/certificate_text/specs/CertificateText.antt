-- The lines of a certificate in a report, each as its words.
use Rattle.std.specs.Prelude.{ℕ, List, [], ◌∷◌, ◌++◌, map, codes, Option, Some, None}
use Rattle.std.specs.List.{flat_map, slice_index_or}
use Rattle.std.specs.Fmt.{decimal}
use Rattle.certificate_text.specs.declared.certificate.Certificate.{Certificate}
use Rattle.certificate_text.specs.declared.certificate.Certificate.TheVariants.{Tables, Log, Cut}
use Rattle.certificate_text.specs.declared.certificate.Turn.{Turn}
use Rattle.certificate_text.specs.declared.certificate.Util.{Util}
use Rattle.run_log.specs.declared.log.LogEvent.{LogEvent}
use Rattle.run_log.specs.LogText.{event_words}

-- the word for a parent: its name, or `-` if there is none
abbrev pub parent_word : List (List ℕ) → Option ℕ → List ℕ
parent_word names None = codes "-"
parent_word names (Some parent) = slice_index_or names parent []

-- `util NAME PARENT : SCOPE : CELLS`
abbrev pub util_words : List (List ℕ) → Util → List (List ℕ)
util_words names u =
    codes "util" ∷ slice_index_or names u.var [] ∷ parent_word names u.parent
    ∷ (codes ":" ∷ map (λ v. slice_index_or names v []) u.scope)
    ++ (codes ":" ∷ map decimal u.cells)

-- the lines of a certificate of tables
abbrev pub table_lines : List (List ℕ) → List Util → List (List (List ℕ))
table_lines names utils = (codes "certificate" ∷ codes "tables" ∷ []) ∷ map (util_words names) utils

-- the lines of a certificate of a log
abbrev pub log_lines : List (List ℕ) → List LogEvent → List (List (List ℕ))
log_lines names log = (codes "certificate" ∷ codes "log" ∷ []) ∷ map (event_words names) log

-- `turn VALUES`
abbrev pub turn_words : List ℕ → List (List ℕ)
turn_words values = codes "turn" ∷ map decimal values

-- the lines of a turn: its values and its tables
abbrev pub turn_lines : List (List ℕ) → Turn → List (List (List ℕ))
turn_lines names turn = turn_words turn.values ∷ map (util_words names) turn.tables

-- `certificate cut NAMES`
abbrev pub cut_words : List (List ℕ) → List ℕ → List (List ℕ)
cut_words names cut = codes "certificate" ∷ codes "cut" ∷ map (λ v. slice_index_or names v []) cut

-- the lines of a certificate of a cut
abbrev pub cut_lines : List (List ℕ) → List ℕ → List Turn → List (List (List ℕ))
cut_lines names cut turns = cut_words names cut ∷ flat_map (turn_lines names) turns

-- the lines of a certificate
abbrev pub certificate_lines : List (List ℕ) → Certificate → List (List (List ℕ))
certificate_lines names (Tables utils) = table_lines names utils
certificate_lines names (Log log) = log_lines names log
certificate_lines names (Cut cut turns) = cut_lines names cut turns

-- the lines of the certificate, if there is one
abbrev pub evidence_lines : List (List ℕ) → Option Certificate → List (List (List ℕ))
evidence_lines names None = []
evidence_lines names (Some certificate) = certificate_lines names certificate
