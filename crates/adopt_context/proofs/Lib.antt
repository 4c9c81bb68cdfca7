pub mod ContextLaws
pub mod HalvingLaws
pub mod KnownLaws
mod PartLaws
pub mod RowLaws
pub mod SizeLaws
