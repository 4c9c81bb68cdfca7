mod LeadLaws
mod KeepLaws
mod OverLaws
mod SeatedLaws
pub mod CellLaws
