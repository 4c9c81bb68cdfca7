pub mod Slots
pub mod Link
