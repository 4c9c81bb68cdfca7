pub mod Queues
pub mod Following
pub mod Wrong
pub mod Replays
pub mod Steps
pub mod Notes
