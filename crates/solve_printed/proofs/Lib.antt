mod ToldNamedLaws
mod LogNamedLaws
mod NamedLaws
mod RowLaws
mod LineLaws
pub mod ReplayLaws
pub mod LogLaws
mod BeginLaws
mod EnclosingLaws
