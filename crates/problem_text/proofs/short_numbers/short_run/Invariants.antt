use Rattle.std.proofs.Common.{◌≡◌, ◌+◌, ◌-◌, ◌≤◌, length, take}
use Rattle.dcop_base.specs.Table.{greatest}
use Rattle.problem_text.specs.Lines.{words}
use Rattle.problem_text.specs.Tables.{numbers_of}
use Rattle.problem_text.proofs.CellLaws.{behind}
use Rattle.problem_text.proofs.short_numbers.short_run.Given as goal

-- what was read, with what is left, is the whole
abbrev pub invariant-loop-count : goal.invariant-loop-count
invariant-loop-count l = record {
  size : length l.cells ≡ length l.initial.cells;
  count : l.count ≤ length l.initial.cells;
  numbers : behind (take l.count l.cells) (numbers_of (words l.rest)) ≡ numbers_of (words l.text);
  greatest : l.greatest ≡ greatest (take l.count l.cells);
  words : l.count + length (words l.rest) ≡ length (words l.text);
}

abbrev pub decreases-loop-count : goal.decreases-loop-count
decreases-loop-count l = length l.initial.cells - l.count
