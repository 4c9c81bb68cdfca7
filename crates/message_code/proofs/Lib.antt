pub mod NumberLaws
pub mod PartLaws
pub mod ListLaws
pub mod ContextLaws
pub mod PassLaws
pub mod CodeLaws
pub mod DecodeLaws
