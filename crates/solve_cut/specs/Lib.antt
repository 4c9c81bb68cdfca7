pub mod Certified
pub mod Cut
pub mod Allowed
