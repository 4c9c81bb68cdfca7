-- Which answers have a text.
use Rattle.std.specs.Prelude.{◌<◌, ◌^◌, ⊤}
use Rattle.serve_top.specs.Text.{served_in}
use Rattle.serve_top.specs.declared.answer.ServeAnswer.{ServeAnswer}
use Rattle.serve_top.specs.declared.answer.ServeAnswer.TheVariants as answers

-- this answer has a text: the sessions of a summary served fewer than 2^64 requests together
abbrev pub HasSummaryText : ServeAnswer → Type 0
HasSummaryText (answers.Summary ends looks) = served_in ends.items < 2 ^ 64
HasSummaryText answer = ⊤
