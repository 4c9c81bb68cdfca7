pub mod NamesLaws
pub mod LineLaws
pub mod NumberedLaws
pub mod PlainLaws
mod SplitLaws
mod WordLaws
mod NumberLaws
pub mod NameLaws
pub mod CellLaws
pub mod ScopeLaws
pub mod TableLineLaws
mod DraftLaws
mod ReadingLaws
pub mod RoundTripLaws
pub mod DecimalLaws
mod WalkLaws
mod FileLaws
pub mod TableTextLaws
pub mod CanonicalLaws
