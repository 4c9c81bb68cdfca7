mod TreeLaws
mod ReplayLaws
mod SummaryLaws
pub mod FaultNamedLaws
