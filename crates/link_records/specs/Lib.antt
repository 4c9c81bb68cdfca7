pub mod Keeping
pub mod Differences
pub mod Firsts
pub mod Passed
pub mod Found
pub mod Left
