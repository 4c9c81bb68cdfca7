pub mod Phases
pub mod Differing
pub mod Wiring
