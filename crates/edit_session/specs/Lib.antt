pub mod State
pub mod Faults
pub mod Session
pub mod Loops
pub mod Held
pub mod MadeLaws
pub mod Edits
