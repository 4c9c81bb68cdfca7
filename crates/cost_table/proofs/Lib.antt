pub mod CutLaws
pub mod PlaceLaws
pub mod ProblemCutLaws
pub mod RunLaws
pub mod SliceLaws
