pub mod Checking
pub mod CertificateLine
pub mod LogReads
pub mod Rows
pub mod Replaying
pub mod Enclosing
