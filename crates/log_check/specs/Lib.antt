pub mod Ends
pub mod Shows
