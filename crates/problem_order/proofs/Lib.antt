mod ReadLaws
pub mod OrderLaws
mod NameLaws
mod TableLaws
mod ProblemLaws
mod FileLaws
mod CostLaws
mod LineLaws
pub mod SearchLaws
mod WidthLaws
pub mod NarrowLaws
