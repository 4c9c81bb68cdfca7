pub mod Limits
pub mod Digest
pub mod Steps
pub mod Cache
