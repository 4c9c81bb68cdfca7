pub mod Code
pub mod Form
pub mod Decode
pub mod Reading
