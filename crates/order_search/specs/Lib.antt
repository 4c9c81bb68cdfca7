pub mod Graph
pub mod Searching
pub mod Scoring
pub mod Ordering
pub mod Changing
pub mod Finding
