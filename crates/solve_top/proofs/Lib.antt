pub mod PrintedLaws
mod EditedLaws
mod WellLaws
mod ShowLaws
