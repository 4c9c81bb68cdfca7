pub mod Beside
pub mod Links
pub mod Ready
pub mod Kinds
pub mod Seats
