pub mod SolvedLaws
pub mod TellingLaws
pub mod CellLaws
pub mod RunLaws
pub mod MadeLaws
mod OnceLaws
mod ScopeLaws
pub mod UtilLaws
mod UtilCellLaws
pub mod GoalLaws
pub mod LogEndLaws
pub mod HoldsLaws
pub mod RootLaws
pub mod PlayedLaws
pub mod DifferenceLaws
pub mod SearchEndLaws
mod FoundLaws
