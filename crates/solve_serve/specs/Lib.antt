pub mod Limits
pub mod Requests
pub mod Answers
pub mod Session
pub mod Ends
pub mod Peers
pub mod Turns
pub mod Exact
