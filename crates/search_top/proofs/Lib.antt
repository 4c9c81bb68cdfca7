mod OutsideLaws
mod ReorderLaws
mod NameLaws
mod TellLaws
mod WordLaws
mod AnswerLaws
mod TextLaws
