pub mod Join
pub mod Strides
