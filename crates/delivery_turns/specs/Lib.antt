pub mod Turns
pub mod CoreTurns
pub mod Sprints
pub mod PlayedOut
