pub mod AgreedLaws
pub mod BestLaws
pub mod RoomLaws
pub mod RunLaws
pub mod PlayedLaws
pub mod EndLaws
pub mod KeptLaws
pub mod CertificateLaws
