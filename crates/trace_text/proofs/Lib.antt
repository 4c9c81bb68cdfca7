pub mod WordLaws
pub mod LineLaws
pub mod PlayLaws
pub mod TraceLaws
