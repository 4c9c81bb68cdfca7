pub mod Costs
pub mod Best
pub mod Stage
pub mod Sound
pub mod Deed
