pub mod Joined
pub mod Settled
pub mod Turns
pub mod Watched
pub mod Parts
pub mod Broken
pub mod Run
pub mod Shared
