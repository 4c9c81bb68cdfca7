pub mod BlankLaws
pub mod SameLaws
pub mod CertificateLaws
pub mod CheckedLaws
mod EditLaws
pub mod GivenLaws
mod ServedLaws
pub mod AnswerLaws
mod OneLaws
mod LinkNameLaws
mod LinkAnswerLaws
mod LinklessLaws
