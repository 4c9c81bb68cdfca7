pub mod Cells
pub mod Odometer
pub mod Differences
pub mod Cuts
pub mod Verdicts
