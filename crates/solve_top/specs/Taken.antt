-- Edit lines of which none is refused.
use Rattle.std.specs.Prelude.{◌≡◌, List, [], ◌∷◌, None, Result, Ok, Err}
use Rattle.problem_text.specs.File.{TextFile}
use Rattle.problem_text.specs.PlainLines.{Plain}
use Rattle.edit_session.specs.State.{edited_file}
use Rattle.edit_session.specs.Faults.{set_fault, fill_fault, cells_set}
use Rattle.edit_text.specs.EditLines.{line_said}
use Rattle.edit_text.specs.declared.kind.EditKind.{EditKind}
use Rattle.edit_text.specs.declared.line.EditLine.{EditLine}
use Rattle.edit_text.specs.declared.line.EditLine.TheVariants.{Set, Fill, Answer, End}

-- given what a line says: neither this line nor a later one is refused; so an edit has no fault,
-- and no line after `end` has words
abbrev pub IsLineTaken : TextFile → Result EditLine EditKind → List Plain → (TextFile → Type 0) → Type 0
IsLineTaken f (Ok (Set k cell cost)) ls later = (set_fault f.problem k cell cost ≡ None) × later (edited_file f k (cells_set f.problem.tables k cell cost))
IsLineTaken f (Ok (Fill k cells)) ls later = (fill_fault f.problem k cells ≡ None) × later (edited_file f k cells)
IsLineTaken f (Ok Answer) ls later = later f
IsLineTaken f (Ok End) ls later = ls ≡ []
IsLineTaken f (Err kind) ls later = ⊥

-- none of these lines is refused on this file, and one of them is `end`
abbrev pub AreLinesTaken : TextFile → List Plain → Type 0
AreLinesTaken f [] = ⊥
AreLinesTaken f (l ∷ ls) = IsLineTaken f (line_said l.words) ls (λ next. AreLinesTaken next ls)
