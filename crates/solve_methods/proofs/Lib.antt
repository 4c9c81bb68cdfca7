pub mod RightLaws
pub mod TellLaws
mod RowLaws
mod AgreedLaws
pub mod BestLaws
pub mod ChosenLaws
mod TreeLaws
mod AdoptRunLaws
mod AdoptRightLaws
mod MarkLaws
mod AutoLaws
pub mod NamedLaws
mod MadeLaws
mod CertifiedLaws
pub mod ReadableLaws
pub mod OneLaws
