mod PassLaws
pub mod InputLaws
pub mod StatusLaws
pub mod ShowLaws
mod UsedLaws
pub mod PrefixLaws
mod CutLaws
mod MovedLaws
mod LineLaws
mod NetworkLaws
pub mod FrontLaws
pub mod RefusalLaws
