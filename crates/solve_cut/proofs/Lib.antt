mod CertifiedLaws
mod CutLaws
pub mod AllowedLaws
