pub mod ListLaws
pub mod CellLaws
pub mod JoinLaws
pub mod SettleLaws
pub mod PlayLaws
mod WatchLaws
mod SentLaws
mod TurnLaws
mod PartLaws
mod BrokenLaws
pub mod BreakLaws
mod SharedLaws
pub mod RoundLaws
pub mod RunLaws
