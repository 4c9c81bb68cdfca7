mod AnswerLaws
mod OneLaws
