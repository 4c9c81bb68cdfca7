pub mod Context
pub mod Bounds
pub mod Allot
pub mod Merge
