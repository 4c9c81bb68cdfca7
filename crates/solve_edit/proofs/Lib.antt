pub mod StepLaws
pub mod NamedLaws
