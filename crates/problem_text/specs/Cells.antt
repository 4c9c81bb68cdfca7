-- What is known of cells besides those that are kept.
use Rattle.std.specs.Prelude.{ℕ, List, length}
use Rattle.dcop_base.specs.Table.{greatest}
use Rattle.problem_text.specs.declared.cell_words.Summary.{Summary}

-- the number of cells and the greatest cell
abbrev pub summary : List ℕ → Summary
summary cells = record { count = length cells; greatest = greatest cells }
