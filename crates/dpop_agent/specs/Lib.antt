pub mod Keeping
pub mod Joint
pub mod Row
pub mod Stage
pub mod Sound
pub mod Deed
pub mod Remade
