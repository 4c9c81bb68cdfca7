mod AlterLaws
pub mod LaneLaws
pub mod PumpLaws
