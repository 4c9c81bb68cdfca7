pub mod Named
pub mod CertificateText
pub mod ReportText
pub mod Fits
pub mod Turns
