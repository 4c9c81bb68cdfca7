mod WordLaws
mod ShowLaws
pub mod WorkLaws
pub mod OneLaws
pub mod RangeLaws
