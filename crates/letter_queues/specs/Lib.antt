pub mod Links
pub mod Inboxes
pub mod Takes
pub mod Flags
pub mod Queues
pub mod Letters
