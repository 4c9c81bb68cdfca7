pub mod EditLines
pub mod Kinds
