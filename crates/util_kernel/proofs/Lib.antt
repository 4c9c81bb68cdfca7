pub mod LaneLaws
pub mod CapLaws
