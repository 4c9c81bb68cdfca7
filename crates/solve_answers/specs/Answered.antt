-- What a call finds that answers words from a source: an answer, with the input read for it.
use Rattle.std.specs.Prelude.{ℕ, ◌⊎◌, List}
use Rattle.solve_report.specs.declared.answer.Answer.{Answer}
use Rattle.solve_methods.specs.Goal.{TellsRight}
use Rattle.answer_io.specs.Input.{Input, SourceState, IsReadFrom}
use Rattle.solve_answers.specs.Answering.{IsAnswer}
use Rattle.solve_answers.specs.Nodes.{IsLinkAnswer}

-- an answer to words, possibly about the links between nodes, with the input read for it from a
-- source with this state before and this state after
pub record Answered (words : List (List ℕ)) (before after : SourceState) (answer : Answer) : Type 0 where
  pub input : Input
  pub read : IsReadFrom input before after
  pub belongs : IsAnswer words input answer ⊎ IsLinkAnswer words input answer
  pub right : TellsRight answer
