pub mod Asked
pub mod Stages
pub mod Outcomes
pub mod Turning
