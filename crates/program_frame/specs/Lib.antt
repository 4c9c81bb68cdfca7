pub mod Settings
pub mod Words
pub mod Questions
pub mod Replies
pub mod Program
pub mod Working
