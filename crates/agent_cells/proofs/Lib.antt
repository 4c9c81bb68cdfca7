mod MachineLaws
mod CollectLaws
pub mod SameLaws
mod LookLaws
mod PlaceLaws
mod ResultLaws
mod DeliverLaws
mod MarkLaws
mod FoundLaws
pub mod CellLaws
mod SettleLaws
pub mod PlainLaws
mod NeighbourLaws
