mod UtilLineLaws
mod TurnLineLaws
mod ValueLineLaws
mod LineAgainLaws
mod TurnAgainLaws
pub mod AgainLaws
mod StepLaws
mod LineFitsLaws
mod TurnFitsLaws
mod FitsLaws
pub mod NumberLaws
