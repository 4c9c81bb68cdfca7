pub mod Start
pub mod Played
pub mod Kept
pub mod Refusal
pub mod End
pub mod Certificate
