pub mod Taken
pub mod Solving
