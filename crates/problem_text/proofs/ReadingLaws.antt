-- Reading line by line.
use Rattle.std.proofs.Common.{◌≡◌, ℕ, ◌+◌, List, ◌∷◌, Result}
use Rattle.problem_text.specs.Lines.{Line}
use Rattle.problem_text.specs.Declarations.{Declared, Declares}
use Rattle.problem_text.specs.Reading.{Parts, Fault, line_outcome, lines_read}

-- reading goes on behind a line that declares more
pub read-more : (over before : ℕ) (d more : Declared) (ls rest : List Line) (l : Line) (read : Result Parts Fault) → ls ≡ l ∷ rest → line_outcome before d l.words ≡ Declares more → lines_read over before d ls ≡ read → lines_read over (before + 1) more rest ≡ read
read-more over before d more ls rest l read first step h = rw (first, step) at h
