pub mod Sessions
pub mod Clients
pub mod Listener
