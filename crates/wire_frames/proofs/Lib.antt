pub mod CutLaws
pub mod StreamLaws
