pub mod Stage
pub mod Sound
pub mod Search
