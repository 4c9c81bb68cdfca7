mod PayloadLaws
pub mod LetterLaws
mod ReadLaws
pub mod ReceiveLaws
pub mod ComeLaws
pub mod CarryLaws
mod BusyLaws
pub mod TurnLaws
mod LoadLaws
pub mod WholeLaws
mod PassLaws
