mod LogLaws
mod AnswerLaws
mod OneLaws
