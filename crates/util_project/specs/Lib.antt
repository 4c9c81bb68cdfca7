pub mod Leasts
pub mod Projection
