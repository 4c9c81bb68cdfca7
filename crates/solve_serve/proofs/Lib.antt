pub mod ListLaws
mod WriteLaws
pub mod RequestLaws
mod GrownLaws
pub mod LookLaws
pub mod SessionLaws
mod TurnLaws
pub mod ExactLaws
