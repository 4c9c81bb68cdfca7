mod ValueLaws
mod EndLaws
pub mod DifferLaws
mod CheckLaws
