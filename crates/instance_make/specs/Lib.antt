pub mod Limits
pub mod Stream
pub mod Generator
