-- Numbers among the words of a text, and how reading continues after one.
use Rattle.std.specs.Prelude.{ℕ, List, [], ◌∷◌, length, Option, Some, None, Result, Ok, Err}
use Rattle.dcop_base.specs.NumberWord.{number_of}
use Rattle.wcsp_text.specs.declared.fault.WcspKind.{WcspKind}
use Rattle.wcsp_text.specs.declared.fault.WcspKind.TheVariants.{BadNumber, NoEnd}
use Rattle.wcsp_text.specs.declared.fault.Fault.{Fault}
use Rattle.wcsp_text.specs.Words.{Word, words}

-- a place in a text: how many bytes are left, and their words
pub record Place : Type 0 where
  pub after : ℕ
  pub words : List Word

-- the place before these bytes
abbrev pub place : List ℕ → Place
place bytes = record { after = length bytes; words = words bytes }

-- a fault of the word before this place
abbrev pub fails : {A : Type 0} → Place → WcspKind → Result A Fault
fails p kind = Err (record { after = p.after; kind = kind })

-- a word as a number, if it is one
abbrev pub as_number : Place → Option ℕ → Result (ℕ × Place) Fault
as_number p None = fails p BadNumber
as_number p (Some n) = Ok (n, p)

-- the first of these words as a number, and the place after it
abbrev pub number : List Word → Result (ℕ × Place) Fault
number [] = Err (record { after = 0; kind = NoEnd })
number (word ∷ later) = as_number (record { after = word.after; words = later }) (number_of word.text)

-- reading continues after what was read; a fault ends it
abbrev pub read_on : {A B : Type 0} → Result (A × Place) Fault → (A → Place → Result B Fault) → Result B Fault
read_on (Ok r) later = later r.0 r.1
read_on (Err fault) later = Err fault

-- an element put before a list that is read after it
abbrev pub onto : {A : Type 0} → A → Result (List A × Place) Fault → Result (List A × Place) Fault
onto x (Ok r) = Ok (x ∷ r.0, r.1)
onto x (Err fault) = Err fault
