pub mod Spaced
pub mod Lines
pub mod Trace
pub mod Told
