pub mod EndLaws
mod StageLaws
