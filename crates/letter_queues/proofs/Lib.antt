pub mod ListLaws
pub mod LinkLaws
mod PlaceLaws
mod FlagLaws
pub mod InboxLaws
