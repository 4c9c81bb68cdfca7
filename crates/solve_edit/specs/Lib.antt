pub mod Running
pub mod Editing
pub mod Steps
