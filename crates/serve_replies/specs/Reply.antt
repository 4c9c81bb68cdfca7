-- The reply to a key: what `solve --method dpop` writes for it.
use Rattle.std.specs.Prelude.{◌≡◌, ℕ, List, [], ◌∷◌, length, nat_lt, if◌then◌else◌, codes}
use Rattle.dcop_base.specs.Limits.{input_limit}
use Rattle.answer_io.specs.Input.{Input, TooLong, Whole}
use Rattle.solve_report.specs.AnswerText.{answer_text}
use Rattle.solve_report.specs.declared.answer.Answer.{Answer}
use Rattle.solve_answers.specs.Answering.{IsAnswer}

-- the words `solve --method dpop`
abbrev pub dpop_words : List (List ℕ)
dpop_words = codes "solve" ∷ codes "--method" ∷ codes "dpop" ∷ []

-- the input of a call whose source has exactly these bytes
abbrev pub input_of : List ℕ → Input
input_of bytes = if nat_lt input_limit (length bytes) then TooLong else Whole bytes

-- a text is the reply to a key: the text of the answer of `solve --method dpop`, which may be a
-- refusal, if the key is the whole input
pub record IsReply (key text : List ℕ) : Type 0 where
  pub answer : Answer
  pub belongs : IsAnswer dpop_words (input_of key) answer
  pub written : text ≡ answer_text answer
